pub mod LineLaws
pub mod KindLaws
