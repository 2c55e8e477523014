-- The laws that the proofs of this crate, and of the crates above it, cite.
pub mod StoreLaws
pub mod CountLaws
pub mod TakeLaws
pub mod AnswerLaws
