-- The text of the program interval_rows.
pub mod Lines
pub mod Printing
