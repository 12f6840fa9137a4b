pub mod Replay
pub mod Kept
pub mod Holders
pub mod Marking
