pub mod Differing
pub mod Reading
pub mod Listings
pub mod Writings
pub mod Filling
pub mod Exactly
