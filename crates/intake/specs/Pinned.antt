-- The definitions of this layer held to document 02's order 6 by computed examples, worked out by hand from the document. For each condition
-- there is an example where it holds and one where it just fails.
pub mod Forms
pub mod Required
pub mod Seen
pub mod Book
pub mod Appended
pub mod Turns
pub mod Calls
pub mod Orders
pub mod Logs
