-- What stands for a dedicated block's record at the boundary.
pub mod RecordOut
pub mod RecordOutExamples
