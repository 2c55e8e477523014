-- The laws of a run.
pub mod OneAnswer
pub mod Steps
pub mod RunLaws
