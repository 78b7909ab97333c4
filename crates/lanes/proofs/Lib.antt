-- Laws of a record in its words, of a cabinet's part, and of sums of offsets.
pub mod Offsets
pub mod RecordLaws
pub mod CabinetLaws
