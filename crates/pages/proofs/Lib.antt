-- Laws over the definitions.
pub mod Indexing
pub mod Lengths
pub mod Texts
pub mod Paging
pub mod Counts
pub mod WholeText
