mod Shown
mod Waiting
