pub mod Scripts
pub mod Progress
pub mod Reasons
pub mod Grammar
pub mod Good
pub mod Laws
pub mod Readings
