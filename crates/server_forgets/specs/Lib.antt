pub mod Step3
