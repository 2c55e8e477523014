-- What a reader of resize and of the compactions must believe.
pub mod Records
pub mod Moves
pub mod Resize
pub mod Compact
pub mod Room
pub mod Packing
