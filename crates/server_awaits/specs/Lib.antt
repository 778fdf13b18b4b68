pub mod Awaited
pub mod OnContent
