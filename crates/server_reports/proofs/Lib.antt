pub mod Cases
pub mod SafeReports
pub mod ReportLaws
