pub mod Took
pub mod Pkg1
pub mod Pkg3
pub mod Pkg5
