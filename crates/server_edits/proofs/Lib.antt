pub mod RoomLaws
pub mod Cases
pub mod Kept
pub mod Lookup
