pub mod Changes
pub mod ChangeLaws
pub mod ChangeTexts
