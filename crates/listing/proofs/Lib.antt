-- The laws of the lines of an input and of their answers, and worked examples.
pub mod LinesInParts
pub mod AnswerLaws
pub mod PlaceLaws
pub mod ServeLaws
pub mod ProgramCases
