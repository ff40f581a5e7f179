pub mod CodeLaws
pub mod DecodingLaws
pub mod EncodingLaws
pub mod FieldLaws
pub mod InstructionLaws
pub mod Loops
pub mod SwitchLaws
pub mod TableLaws
