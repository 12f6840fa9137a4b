pub mod Laws
pub mod Answered
