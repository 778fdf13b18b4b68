pub mod Four
pub mod Sum
pub mod Same
pub mod Form
pub mod Keeping
pub mod OnImage
pub mod Shown
pub mod Call
