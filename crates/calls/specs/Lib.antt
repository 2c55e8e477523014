-- Every call as a definition on values.
pub mod Call
