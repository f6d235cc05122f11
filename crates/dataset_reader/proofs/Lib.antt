mod Notes
mod KeepingLaws
mod RunLaws
mod NextLaws
mod NumberedLaws
mod ListLaws
mod EveryLaws
mod BreakLaws
mod AnswerLaws
mod CountLaws
mod PassedLaws
mod Rows
mod Places
pub mod Passing
