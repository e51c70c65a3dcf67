pub mod Files
pub mod Sources
