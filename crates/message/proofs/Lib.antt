pub mod PageTests
pub mod MessageLaws
pub mod ReadLaws
pub mod WriteLaws
pub mod AgainLaws
pub mod KeptLaws
