-- The laws of the leaves.
pub mod EqualCode
pub mod ArmLaws
pub mod VariantLaws
pub mod RunLaws
pub mod PairLaws
pub mod AnswerLaws
