-- The theorems of traces: what was written is read back (ReadBack), what is read is what the writer writes (Written), the offset of a refusal (First), and
-- the beginnings of a trace (Torn); with examples.
pub mod Stands
pub mod Fields
pub mod PiecesBack
pub mod ReadBack
pub mod Numbers
pub mod PiecesWritten
pub mod RecordsWritten
pub mod EventsWritten
pub mod Written
pub mod First
pub mod Beginnings
pub mod Cut
pub mod Torn
pub mod Examples
