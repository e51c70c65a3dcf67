pub mod Slots
pub mod Values
pub mod Dictionary
pub mod Lent
