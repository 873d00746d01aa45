-- SWORD's interval rows.
pub mod Rows
pub mod RowLaws
pub mod Records
pub mod Slots
pub mod Planning
pub mod Passing
