pub mod Scans
pub mod GoodDays
