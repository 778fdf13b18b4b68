pub mod Number
pub mod Check
pub mod Refusal
