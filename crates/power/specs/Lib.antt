pub mod Power
pub mod WithCuts
