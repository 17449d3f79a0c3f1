pub mod Tries
pub mod Turns
pub mod FirstGood
pub mod ConventionLaws
pub mod TurnLaws
pub mod Growing
