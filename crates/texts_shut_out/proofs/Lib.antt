pub mod Tests
pub mod ShutOut
pub mod Needed
