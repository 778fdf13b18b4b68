pub mod Listing
pub mod Row
