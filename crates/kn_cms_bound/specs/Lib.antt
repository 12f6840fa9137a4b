pub mod Work
pub mod TurnLaws
