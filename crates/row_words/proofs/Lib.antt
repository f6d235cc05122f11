mod DigitLaws
mod StatusLaws
mod ValueLaws
pub mod RowLaws
mod Loops
pub mod FieldLaws
pub mod SettingLaws
mod OpeningLaws
pub mod PatchLaws
pub mod MeaningLaws
mod ShapeLaws
pub mod Marks
mod LayLaws
mod CutLaws
pub mod ScalarLaws
