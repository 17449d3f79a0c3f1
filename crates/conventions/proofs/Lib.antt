pub mod Scanning
pub mod Adjusting
