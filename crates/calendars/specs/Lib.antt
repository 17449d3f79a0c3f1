pub mod Codes
pub mod Weeks
pub mod Rules
pub mod Entries
pub mod Lists
pub mod Target
