pub mod Acts
pub mod PressSide
pub mod ServerSide
