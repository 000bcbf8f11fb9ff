pub mod Stamps
pub mod Values
pub mod Numbers
pub mod Pinned
