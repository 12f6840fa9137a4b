mod Passed
mod Spent
