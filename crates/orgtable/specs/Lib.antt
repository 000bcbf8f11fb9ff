pub mod Printed
pub mod Input
pub mod Output
pub mod Samples
pub mod Pinned
