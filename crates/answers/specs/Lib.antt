pub mod Words
pub mod Help
pub mod Said
pub mod Block
