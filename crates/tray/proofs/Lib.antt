-- Laws over the definitions.
pub mod WordLaws
pub mod LineLaws
pub mod Adding
pub mod TellLaws
pub mod Cutting
pub mod BuildWords
pub mod Examples
