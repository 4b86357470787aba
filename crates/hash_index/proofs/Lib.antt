pub mod PlaceLaws
pub mod EntryLaws
pub mod SplitLaws
pub mod RowLaws
pub mod IndexLaws
pub mod RetainLaws
