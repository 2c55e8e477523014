-- The desk's text, in and out.
pub mod Decimal
pub mod Lines
pub mod Parts
