pub mod Slot
pub mod Store
pub mod Torn
pub mod Found
