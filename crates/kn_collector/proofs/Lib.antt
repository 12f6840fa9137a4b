mod Allowing
mod Agreeing
mod Marked
mod Turning
