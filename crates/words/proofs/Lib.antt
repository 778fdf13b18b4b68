pub mod WordTests
pub mod WordLaws
