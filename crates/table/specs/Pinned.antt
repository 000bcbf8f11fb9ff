-- The definitions of this layer held to document 01 by computed examples, worked out by hand from the document. For each condition there is
-- an example where it holds and one where it just fails. Kinds are written as the document's numbers.
pub mod Headings
pub mod Containers
pub mod Lists
pub mod Nesting
pub mod Closers
