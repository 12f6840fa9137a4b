pub mod Mutating
pub mod Tasks
pub mod After
pub mod Begun
pub mod Agree
pub mod Turns
