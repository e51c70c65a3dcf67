pub mod Laws
pub mod Emits
pub mod Copies
pub mod Wrote
pub mod Place
