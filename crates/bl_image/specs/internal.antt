pub mod PlaceRecords
pub mod SinkWriting
pub mod SourceReading
