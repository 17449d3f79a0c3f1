pub mod NextDays
