-- Laws over the definitions.
pub mod LabelAnswers
pub mod Listed
pub mod Widths
pub mod Words
