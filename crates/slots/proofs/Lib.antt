-- The laws of slots, nodes and links.
pub mod NodeLaws
pub mod NodeHangLaws
pub mod HeldLaws
pub mod CutLaws
pub mod MarkedLaws
pub mod WireLaws
pub mod RingsLaws
pub mod PutLaws
pub mod RunLaws
pub mod DropLaws
pub mod FillLaws
pub mod StateLaws
pub mod SpareLaws
pub mod AnswerLaws
