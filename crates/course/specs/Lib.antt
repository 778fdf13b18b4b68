pub mod Course
pub mod OnContent
pub mod OnBytes
