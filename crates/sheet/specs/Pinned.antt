-- The definitions of this layer held to document 02's order 5 by computed examples, worked out by hand from the document. For each condition
-- there is an example where it holds and one where it just fails.
pub mod Forms
pub mod Buffer
pub mod Faults
pub mod Sheet
pub mod Answers
pub mod Table
