pub mod Marks
pub mod Replays
pub mod Runs
pub mod Serial
pub mod Standing
