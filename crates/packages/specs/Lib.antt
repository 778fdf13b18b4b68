pub mod Package
