pub mod CreditRows
pub mod Refusing
pub mod Filing
pub mod Ending
pub mod Opened
pub mod Stepping
pub mod Deciding
pub mod PendingRows
