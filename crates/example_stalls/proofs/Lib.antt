mod Opening
mod Staying
