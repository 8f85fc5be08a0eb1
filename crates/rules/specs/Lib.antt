-- Words that all rules use
pub mod Limits
pub mod Base
pub mod Numbers
pub mod Bytes
-- The text that is compiled: tokens, syntax, the walk to the core program
pub mod Kinds
pub mod Tokens
pub mod Syntax
pub mod Core
pub mod Depth
pub mod Walk
-- What a text means
pub mod Meaning
-- The image: codes, translation, worst case, records
pub mod Codes
pub mod Translation
pub mod Worst
pub mod Image
-- The machine, and running an image
pub mod Machine
pub mod Run
-- From the text's bytes to the answer
pub mod Compile
pub mod Evaluate
-- How tokens, the tree and the core program lie in lent numbers; what the answers of the code stand for
pub mod Cells
pub mod CoreCells
pub mod KindNumbers
pub mod Answers
-- Worked cases
pub mod Opened
pub mod Cases
pub mod Figures
pub mod Sentences
