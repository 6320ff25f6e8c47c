-- The end of a store.
pub mod ByClient
pub mod CarriedNodes
pub mod ClosesStore
pub mod Endings
pub mod Ends
pub mod EndsClients
pub mod EndsLog
pub mod EndsRows
pub mod Handing
pub mod JoinedEnds
pub mod LeftOpen
