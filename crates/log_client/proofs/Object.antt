-- Objects, as a client appends and reads for them.
pub mod ColourSets
pub mod ObjectAppends
pub mod ObjectCalls
pub mod ObjectFolds
pub mod ObjectNodes
pub mod ObjectPlaces
pub mod ObjectReads
pub mod ObjectShards
