pub mod Took
pub mod Pkg1
pub mod Pkg2
pub mod Pkg4
pub mod Pkg6
