pub mod Bodies
pub mod OneAfterOther
pub mod PutRows
pub mod NextRows
pub mod Texts
