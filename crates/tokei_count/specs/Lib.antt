-- What contracts say of counting: the plain reading of a text and of its children, its steps and
-- its weight, and what a call that counts one answers.
-- The code's own words, which no public contract has:
pub mod ClassLines
pub mod CountedTexts
pub mod Countings
pub mod Gathered
pub mod Languages
pub mod LineLooks
pub mod NoComments
pub mod NotebookCells
pub mod OpeningItems
pub mod PartLaw
pub mod PlainReading
pub mod QuietLaw
pub mod Readers
pub mod ReadingLaws
pub mod Seen
pub mod Spelling
pub mod StepLaw
pub mod Steps
pub mod UnderWay
pub mod Weight
pub mod WeightLaws
