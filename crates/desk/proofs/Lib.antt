pub mod DeskLaws
pub mod LentLaws
