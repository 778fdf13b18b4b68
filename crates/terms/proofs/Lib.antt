pub mod CheckLaws
pub mod RefusalLaws
