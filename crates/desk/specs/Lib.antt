pub mod Desk
pub mod Lent
