pub mod Cases
pub mod FormedPress
