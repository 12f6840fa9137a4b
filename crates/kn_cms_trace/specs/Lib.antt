pub mod CoreRuns
pub mod Runners
pub mod Enough
pub mod Measures
pub mod RunLaws
