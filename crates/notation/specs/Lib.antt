pub mod InputLines
pub mod Handed
pub mod Readers
pub mod Numerals
pub mod DateTexts
pub mod Entries
pub mod Spellings
