pub mod Headings
pub mod State
pub mod Steps
pub mod Call
pub mod Promises
pub mod Spans
pub mod Pinned
