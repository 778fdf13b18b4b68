pub mod MovesLaws
pub mod FormedLaws
