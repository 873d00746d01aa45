-- What the program judge_build reads.
pub mod Kind
