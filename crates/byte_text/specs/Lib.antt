-- What the contracts of `byte_text` cite. Assumes nothing.
pub mod ByteText
pub mod ByteTextLaws
pub mod Reader
pub mod ByteTextExamples
