pub mod Code
pub mod Status
