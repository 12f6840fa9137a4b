pub mod Seen
pub mod Held
pub mod ChangesMade
pub mod Plans
pub mod Applying
