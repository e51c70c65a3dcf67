pub mod Paths
pub mod Joined
