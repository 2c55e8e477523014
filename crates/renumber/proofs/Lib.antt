-- The laws that the proofs of this crate, and of the crates above it, cite.
pub mod RecordLaws
pub mod MoveLaws
pub mod PackLaws
pub mod ResizeLaws
pub mod ResizeParts
pub mod AnswerLaws
