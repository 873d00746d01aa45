-- Laws over the definitions.
pub mod Fronts
pub mod PushLaws
pub mod BlockLaws
pub mod RankLaws
pub mod SettleLaws
pub mod OrderLaws
pub mod NumberLists
pub mod RankedAccesses
pub mod RaceNumbers
pub mod NameTables
pub mod BundleNumbers
pub mod ListCases
