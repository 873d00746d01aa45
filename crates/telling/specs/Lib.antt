-- Whether an argument is a word.
pub mod Words
