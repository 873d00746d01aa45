-- Laws over the definitions.
pub mod Widths
pub mod Making
pub mod LineEnds
pub mod Printing
pub mod Reading
pub mod Examples
pub mod LineLengths
pub mod LineFits
pub mod SideTable
