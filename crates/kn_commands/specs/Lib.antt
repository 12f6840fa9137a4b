pub mod Refusals
pub mod Words
pub mod Numbers
pub mod Ends
pub mod CmsEnds
