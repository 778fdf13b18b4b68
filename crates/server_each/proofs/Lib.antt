pub mod EachRecord
pub mod InSteps
pub mod EditBeatsDelete
