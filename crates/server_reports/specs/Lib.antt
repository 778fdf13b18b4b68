pub mod Step1
