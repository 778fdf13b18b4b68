pub mod LooksAtTexts
pub mod Needed
