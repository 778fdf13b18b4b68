pub mod NameLaws
pub mod PlacedLaws
