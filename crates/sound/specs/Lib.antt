-- What a sound store is.
pub mod Sound
