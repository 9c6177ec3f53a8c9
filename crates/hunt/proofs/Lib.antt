pub mod SofarLaws
pub mod GoingLaws
pub mod ServeLaws
pub mod JoinLaws
