-- What a reader of the calls that renumber nothing must believe, in the order in which document 01 tells it.
pub mod Store
pub mod Counts
pub mod Answer
pub mod Questions
pub mod Linking
pub mod FreeSlots
pub mod Steps
pub mod Swap
pub mod Clear
pub mod Fit
