-- What the functions for C and Rust answer, in numbers and words.
pub mod CommandWords
pub mod Inner
pub mod LabelWords
pub mod RaceWords
pub mod Told
