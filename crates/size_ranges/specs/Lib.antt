-- What the contracts of `size_ranges` cite, and what is true of it.
pub mod SizeRanges
pub mod RangeLaws
pub mod SizeRangesExamples
