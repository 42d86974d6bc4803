-- The laws of keys and listed pairs.
pub mod KeyLaws
pub mod PairTestLaws
pub mod ListedLaws
pub mod PartnerLaws
