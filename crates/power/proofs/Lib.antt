pub mod PowerLaws
pub mod Demand3
pub mod SendFirst
pub mod Spared
