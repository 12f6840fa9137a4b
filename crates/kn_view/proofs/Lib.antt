mod Tellings
mod Answering
mod Looked
mod Searching
mod Wanted
mod Placed
mod Polling
mod Working
