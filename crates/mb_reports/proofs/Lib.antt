pub mod Lines
pub mod ReportItems
pub mod ReportLines
pub mod ReportParts
pub mod ReportTexts
pub mod ReportWritten
