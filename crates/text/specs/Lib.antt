-- The text of the program racelist (docs/FORMAT.md, "The listing").
pub mod Digits
pub mod Lines
pub mod Inner
pub mod Sides
