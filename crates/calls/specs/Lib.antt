pub mod Due
pub mod Says
pub mod Reply
pub mod After
