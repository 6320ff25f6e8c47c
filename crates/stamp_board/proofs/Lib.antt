pub mod CallerLemmas
mod Colours
mod Places
mod Knowing
mod Outcomes
mod Keeps
mod Fitting
mod Marking
mod Deciding
mod Possible
mod Telling
mod Opening
mod Gathering
mod Ending
mod Pairs
mod Zeros
