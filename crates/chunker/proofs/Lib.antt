pub mod RangeLaws
pub mod CoverLaws
pub mod JoinerLaws
pub mod ChunkLaws
pub mod CutLaws
pub mod ListLaws
pub mod SpellingLaws
