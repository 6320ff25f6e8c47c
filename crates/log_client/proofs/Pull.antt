-- Pulls.
pub mod BetweenHolds
pub mod PullCalls
pub mod PullReplies
pub mod Pulling
pub mod TrulyPulled
pub mod TwoHolds
