pub mod Page
pub mod Lines
pub mod Kind
