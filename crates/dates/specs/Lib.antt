pub mod Reads
pub mod Stamps
pub mod Planning
pub mod Days
pub mod Found
pub mod Promises
pub mod Pinned
