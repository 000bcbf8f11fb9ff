pub mod Records
pub mod Sections
pub mod Makers
pub mod Fits
pub mod Proper
pub mod Reading
pub mod Lines
pub mod Closers
