pub mod Cuts
pub mod Options
pub mod Spelling
pub mod DateSpelling
pub mod FieldSpelling
pub mod CallSpelling
