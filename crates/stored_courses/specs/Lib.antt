pub mod OnStores
pub mod Run
