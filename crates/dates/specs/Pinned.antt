-- The definitions of this layer held to document 02's order 1 by cases: worked out by hand, or by a plain reader written from the order's words
-- apart from these definitions. For each condition there is a case where it holds and one where it just fails.
pub mod Stamps
pub mod Planning
pub mod Days
