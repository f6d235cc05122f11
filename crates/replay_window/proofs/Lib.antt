pub mod MarksLemmas
pub mod TakenLemmas
pub mod OnceLaws
