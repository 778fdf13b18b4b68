pub mod FitsLaws
pub mod TakesLaws
pub mod SafeServer
pub mod SaidLaws
