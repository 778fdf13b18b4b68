pub mod Step2
