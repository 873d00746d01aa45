-- Laws over the definitions.
pub mod Examples
pub mod ConvertExamples
pub mod KeySort
pub mod ChunkBytes
pub mod FixedChunks
pub mod Pieces
pub mod WordOrder
pub mod Regrouping
pub mod RegroupedChunks
pub mod RegroupedRaces
pub mod Conversions
pub mod ReadOn
pub mod ConvertPass
