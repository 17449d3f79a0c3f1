pub mod Finds
pub mod Shifts
pub mod Places
pub mod Rises
pub mod Standing
pub mod Views
pub mod Afters
