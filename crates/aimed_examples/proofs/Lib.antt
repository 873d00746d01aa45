-- Examples by computation.
pub mod AimedExamples
