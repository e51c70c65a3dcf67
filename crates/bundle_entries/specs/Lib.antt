pub mod Entries
pub mod Whole
