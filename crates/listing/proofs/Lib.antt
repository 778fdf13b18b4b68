pub mod ListingLaws
pub mod RowLaws
pub mod Rowing
pub mod Making
pub mod ToldLaws
pub mod Answering
pub mod Stored
