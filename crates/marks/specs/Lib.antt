pub mod Marks
pub mod Ahead
pub mod Read
