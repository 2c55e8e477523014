-- The laws of the desk's text.
pub mod DecimalLaws
pub mod TextLaws
pub mod LineLaws
pub mod CallLaws
pub mod FourLaws
pub mod OutputLaws
pub mod SizeLaws
pub mod PageLaws
pub mod ZeroLaws
pub mod DeskLaws
