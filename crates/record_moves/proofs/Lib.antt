pub mod NamedLaws
pub mod SafeLaws
pub mod HasLaws
