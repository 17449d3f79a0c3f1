pub mod SameTerms
pub mod Passing
pub mod Shifting
pub mod Rolling
