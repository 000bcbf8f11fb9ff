pub mod Digits
pub mod Lines
pub mod Answers
pub mod Input
pub mod Output
pub mod Texts
