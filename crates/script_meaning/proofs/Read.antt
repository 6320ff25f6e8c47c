-- Stamped reads.
pub mod AfterRead
pub mod AfterScan
pub mod ShardReads
pub mod StampedEnds
pub mod StampedPlays
pub mod StampedRaises
pub mod StampedReads
