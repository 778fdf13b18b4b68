pub mod WalkLaws
pub mod WordingLaws
pub mod NumberLaws
pub mod UsedLaws
