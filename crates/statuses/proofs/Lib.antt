pub mod FitLaws
pub mod TableLaws
