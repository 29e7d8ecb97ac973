-- The code of a counter, run on the defined chip and counted as the promises count.
pub mod Counting
pub mod Late
pub mod Merged
pub mod Promises
pub mod Ticks
