-- What is printed of a run, and of one that is refused.
pub mod Transcript
