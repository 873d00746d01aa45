-- A bundle rewritten with its chunks in a fixed order, or with its accesses in another group.
pub mod Rewriting
pub mod FixedOrder
pub mod Words
pub mod Converting
pub mod Conversion
pub mod Measuring
