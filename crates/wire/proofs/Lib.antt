pub mod WireLaws
pub mod TurnLaws
pub mod CourseLaws
pub mod StandsLaws
