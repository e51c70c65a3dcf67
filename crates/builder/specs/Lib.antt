pub mod Texts
pub mod Cleared
pub mod Lookups
pub mod Runs
pub mod Definitions
