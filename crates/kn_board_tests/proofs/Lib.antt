mod Stepping
mod Standing
