-- Decisions on maps that are played by their parts.
pub mod DecideRuns
pub mod Leading
pub mod PartVerdicts
