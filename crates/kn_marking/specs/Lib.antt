pub mod Totals
pub mod Words
pub mod Heap
pub mod Marking
pub mod Shares
pub mod Laws
