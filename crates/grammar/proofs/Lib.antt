pub mod CodecLaws
pub mod NumberedLaws
pub mod LoopLaws
