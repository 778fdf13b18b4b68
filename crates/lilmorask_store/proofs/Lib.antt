pub mod SetsLaws
pub mod SlotLaws
pub mod FoundLaws
