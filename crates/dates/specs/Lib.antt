pub mod Years
pub mod Civil
pub mod Months
pub mod MonthPlaces
pub mod Weekdays
pub mod Easter
pub mod DateText
