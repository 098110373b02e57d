-- what each call does in memory
pub mod Kept
