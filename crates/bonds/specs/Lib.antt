pub mod Bonds
pub mod BondTerms
pub mod Limits
pub mod TermsOf
pub mod Rolls
pub mod Reached
pub mod RollLaws
pub mod Money
