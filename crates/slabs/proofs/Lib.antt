-- The laws that the proofs of this crate, and of the crates above it, cite.
pub mod ChoiceLaws
pub mod Shapes
pub mod SumLaws
pub mod RowLaws
pub mod EntryLaws
pub mod FillLaws
pub mod WireLaws
pub mod SlabLaws
pub mod HeldLaws
