-- The definitions of this layer held to document 02's order 9 by computed examples, worked out by hand from the document. For each condition
-- there is an example where it holds and one where it just fails.
pub mod Forms
pub mod Headings
pub mod State
pub mod Steps
pub mod Calls
pub mod Runs
