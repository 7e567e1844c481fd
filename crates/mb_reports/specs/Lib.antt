pub mod Analysed
pub mod Laws
pub mod Report
pub mod ReportText
pub mod RingTable
