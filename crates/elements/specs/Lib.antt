pub mod Element
pub mod Kinds
