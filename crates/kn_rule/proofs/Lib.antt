pub mod Start
pub mod Searched
pub mod Indexes
pub mod Decodings
pub mod FrameSpans
pub mod WholeFrames
pub mod Rows
pub mod Stops
pub mod MarkRun
mod Tellings
