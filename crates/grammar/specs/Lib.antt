pub mod Codec
pub mod Numbered
