-- The word of a build, and the text of the program judge_build.
pub mod Words
pub mod Texts
pub mod Telling
pub mod Demand
pub mod Inner
