-- What the audit promises, part by part.
pub mod Decides
pub mod Parts
