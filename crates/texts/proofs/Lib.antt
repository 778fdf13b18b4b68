pub mod TextlessLaws
pub mod CourseLaws
pub mod OnContent
pub mod OnBytes
