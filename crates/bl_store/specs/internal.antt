pub mod LedgerCounts
pub mod SubmissionRanges
