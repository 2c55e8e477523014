-- The laws that the proofs of the audit cite.
pub mod DecideLaws
pub mod CountLaws
pub mod PortLaws
pub mod ChainSound
pub mod ClaimLaws
pub mod TallyLaws
pub mod HeldLaws
pub mod FreeLaws
pub mod EachLaws
pub mod TiledLaws
pub mod SoundParts
