pub mod Basics
pub mod Laws
pub mod Proper
pub mod Promises
pub mod Pinned
