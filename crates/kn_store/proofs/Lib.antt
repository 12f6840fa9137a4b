mod Bests
mod Ranks
mod Ends
mod Sights
mod Goings
mod Claims
mod Refusals
