pub mod Args
pub mod Lang
