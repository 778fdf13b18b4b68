pub mod MoveLaws
pub mod EditLaws
pub mod TakeLaws
pub mod PressLaws
pub mod ToldLaws
pub mod StatusLaws
pub mod SentLaws
pub mod OwnNumber
