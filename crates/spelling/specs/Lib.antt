pub mod Spelling
pub mod Data
pub mod Part
