pub mod Made
pub mod Press
