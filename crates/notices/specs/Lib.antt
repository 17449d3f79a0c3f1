pub mod Notices
pub mod NoticeLaws
