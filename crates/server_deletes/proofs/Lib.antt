pub mod StepLaws
pub mod SafeDeletes
