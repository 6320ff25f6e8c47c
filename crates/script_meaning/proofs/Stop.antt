-- Stops.
pub mod LastStops
pub mod Stopping
