pub mod FreshLaws
pub mod FindLaws
