pub mod SafeForgets
