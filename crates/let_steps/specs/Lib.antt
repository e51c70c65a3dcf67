pub mod Let
