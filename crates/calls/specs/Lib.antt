pub mod Called
pub mod Measure
pub mod Meter
pub mod Met
pub mod Compare
