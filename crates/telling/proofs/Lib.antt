-- Laws over the definitions.
pub mod SameWords
