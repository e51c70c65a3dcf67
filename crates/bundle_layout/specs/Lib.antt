pub mod Order
pub mod Check
