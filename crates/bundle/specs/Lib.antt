-- The definitions of docs/FORMAT.md for commands, chunks and the check of a bundle.
pub mod Answer
pub mod ByRows
pub mod Cases
pub mod Check
pub mod Cutting
pub mod Chunks
pub mod Commands
pub mod Find
pub mod Index
pub mod Inner
pub mod Lists
pub mod Locks
pub mod Scan
pub mod Shape
pub mod Survey
pub mod Walk
