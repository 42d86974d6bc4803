-- Laws of the tests of input.
pub mod TestLaws
pub mod RecordLaws
pub mod SizeLaws
pub mod ValidLaws
