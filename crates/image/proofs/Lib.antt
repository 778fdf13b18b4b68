pub mod SumLaws
pub mod FourLaws
pub mod FlatLaws
pub mod SameLaws
pub mod KeepingLaws
pub mod OnImageLaws
