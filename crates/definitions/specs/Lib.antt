pub mod Steps
pub mod File
