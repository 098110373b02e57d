pub mod Rest
pub mod Right
