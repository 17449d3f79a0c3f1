pub mod Reading
pub mod Made
pub mod Answered
