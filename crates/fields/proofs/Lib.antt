pub mod PieceLaws
pub mod DigitLaws
pub mod LetterLaws
pub mod KeyLaws
pub mod Determined
