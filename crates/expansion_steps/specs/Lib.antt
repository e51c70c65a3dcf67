pub mod Reference
pub mod Call
pub mod Step
