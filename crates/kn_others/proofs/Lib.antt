pub mod Others
mod Stored
pub mod Swept
pub mod History
pub mod Start
pub mod Meets
