-- Laws over the definitions.
pub mod CommonLocks
pub mod Comparing
pub mod Computing
pub mod SharedByte
pub mod Elements
pub mod Euclid
pub mod PairBytes
pub mod SegmentRows
pub mod Climbs
pub mod TripleOrder
pub mod ComparedBothWays
pub mod LabelOrder
pub mod ComposedLabels
