pub mod Lines
pub mod Cut
pub mod Answers
pub mod Lookups
pub mod Loads
pub mod Sheets
