-- What contracts say of what is printed: cells, rows, the order of rows, the whole report, streams,
-- and when sums fit.
pub mod BlobRows
pub mod Cells
pub mod ChildRows
pub mod ChildrenBlock
pub mod ChildrenBlockFits
pub mod ChildrenFit
pub mod FileRows
pub mod FilesAndCounts
pub mod FilesFit
pub mod Heading
pub mod LanguageRow
pub mod Layouts
pub mod LinesFit
pub mod ListedLanguages
pub mod ListedReports
pub mod NameOrder
pub mod NameSection
pub mod PrintedReports
pub mod ReportSums
pub mod Results
pub mod ResultsFit
pub mod Rules
pub mod Sorted
pub mod StreamRows
pub mod Subtotal
pub mod Total
