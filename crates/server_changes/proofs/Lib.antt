pub mod RuleLaws
pub mod SafeChanges
pub mod ChangeLaws
