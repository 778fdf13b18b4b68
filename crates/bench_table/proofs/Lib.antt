pub mod Same
pub mod SameSides
pub mod Table
pub mod TableOnBytes
