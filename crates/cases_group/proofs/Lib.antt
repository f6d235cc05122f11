mod Kept
mod Longer
mod Rows
mod Turns
