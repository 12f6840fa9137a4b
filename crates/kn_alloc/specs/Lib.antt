pub mod Cells
pub mod Keeps
pub mod Turns
pub mod Agree
pub mod Tells
pub mod Homes
pub mod Laws
