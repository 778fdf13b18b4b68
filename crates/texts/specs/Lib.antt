pub mod Opaque
pub mod Texts
