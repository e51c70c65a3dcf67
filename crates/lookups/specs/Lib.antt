pub mod Text
pub mod Laws
pub mod Files
