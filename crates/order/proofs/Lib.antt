-- The laws of sorting and linking.
pub mod KeyLaws
pub mod SameKeysLaws
pub mod PassLaws
pub mod TallyLaws
pub mod SumLaws
pub mod DealLaws
pub mod PartLaws
pub mod ListLaws
pub mod SortLaws
pub mod LinkLaws
pub mod PrecedeLaws
pub mod MeetLaws
pub mod PeerLaws
pub mod BackLaws
pub mod PairLaws
