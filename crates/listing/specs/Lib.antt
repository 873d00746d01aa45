-- The listing of a bundle's races as numbers, and what its parts promise each other.
pub mod Listing
pub mod Ranking
pub mod Pushing
pub mod Settling
