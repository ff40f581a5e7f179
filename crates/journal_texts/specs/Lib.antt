pub mod JournalReading
