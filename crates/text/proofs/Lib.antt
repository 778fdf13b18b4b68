pub mod TextLaws
pub mod KeptLaws
pub mod WordingLaws
