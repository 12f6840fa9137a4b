mod Spans
mod Pages
mod HomeWords
mod Tries
mod Hands
mod Owned
mod Told
mod Stages
mod Clears
mod Returns
mod Refusals
mod Claims
mod Searched
mod Tried
mod Comes
mod Starts
pub mod Turns
mod Goes
pub mod Homes
pub mod Agreements
