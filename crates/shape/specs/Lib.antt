pub mod Row
pub mod Marks
pub mod Runs
pub mod Shape
