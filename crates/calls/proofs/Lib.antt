-- The laws that the proofs of the dispatch cite.
pub mod QuietLaws
pub mod AnswerLaws
pub mod RoomLaws
