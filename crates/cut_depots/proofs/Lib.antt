pub mod Keyed
pub mod CutRules
pub mod CutDeeds
pub mod Sound
