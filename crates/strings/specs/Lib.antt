pub mod Puts
pub mod Written
pub mod Looked
