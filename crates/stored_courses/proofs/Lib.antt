pub mod StoreLaws
pub mod HonestLaws
pub mod TurnLaws
pub mod StepLaws
pub mod Follows
