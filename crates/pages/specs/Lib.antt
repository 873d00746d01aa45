-- The text of a bundle's listing (docs/FORMAT.md, "The listing").
pub mod Listings
pub mod Inner
