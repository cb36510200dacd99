pub mod PageLaws
pub mod PayloadLaws
pub mod PlaceLaws
pub mod CommitLaws
