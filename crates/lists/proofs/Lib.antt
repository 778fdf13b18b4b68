pub mod EntryLaws
pub mod WriteLaws
pub mod ListedLaws
