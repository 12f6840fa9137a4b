pub mod FreeSpans
pub mod Cells
pub mod Laws
