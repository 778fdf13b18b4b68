pub mod Step4
