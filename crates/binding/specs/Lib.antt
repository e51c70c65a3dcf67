pub mod Write
pub mod Buffer
pub mod Sheets
