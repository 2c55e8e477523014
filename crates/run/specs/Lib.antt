-- What a run of calls is.
pub mod Run
