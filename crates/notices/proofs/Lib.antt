pub mod OtherDays
pub mod SecondDays
