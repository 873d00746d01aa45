-- Laws over the definitions.
pub mod Insertion
pub mod Halving
pub mod KeyOrder
pub mod Merges
