pub mod ActsLaws
