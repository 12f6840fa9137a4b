pub mod PageViews
pub mod Classes
pub mod Opened
