pub mod TableReading
pub mod EntryReading
pub mod FirmwareReading
