pub mod Lines
pub mod Script
