-- Sorting numbers, and searching sorted ones.
pub mod Order
pub mod Merging
pub mod Searching
