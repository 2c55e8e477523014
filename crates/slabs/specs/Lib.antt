-- What a reader of the lower crate must believe, in the order in which document 01 tells it.
pub mod Choice
pub mod Sums
pub mod PortEntry
pub mod Rows
pub mod NodeEntry
pub mod Links
pub mod Counters
pub mod Slab
pub mod Slabs
