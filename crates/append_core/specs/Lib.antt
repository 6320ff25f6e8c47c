pub mod Helping
pub mod Settled
pub mod Standing
pub mod Several
pub mod Inside
