pub mod Search
pub mod Agree
