pub mod Rank
pub mod Numbers
