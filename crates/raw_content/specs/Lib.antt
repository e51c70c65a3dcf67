pub mod First
pub mod Content
