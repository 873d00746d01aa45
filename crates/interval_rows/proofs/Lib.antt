-- Laws over the definitions.
pub mod Texts
