pub mod ChoiceLaws
pub mod StreamLaws
pub mod WalkLaws
pub mod NewestLaws
