pub mod Sheets
pub mod Includes
pub mod Expansion
pub mod Pass
