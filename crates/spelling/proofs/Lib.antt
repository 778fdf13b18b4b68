pub mod ByteLaws
pub mod PlainLaws
pub mod TextLaws
pub mod DataLaws
pub mod PartLaws
pub mod LoopLaws
