pub mod Place
pub mod Mark
