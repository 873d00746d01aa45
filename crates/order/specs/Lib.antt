-- The definitions of docs/FORMAT.md for labels, their comparison and shared bytes.
pub mod Climbing
pub mod Labels
pub mod Pairs
pub mod Ranges
pub mod SharedBytes
pub mod Swapping
