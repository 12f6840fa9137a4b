mod Ended
mod Turned
mod Ordered
mod Fallen
mod OneRun
