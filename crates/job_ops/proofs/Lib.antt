mod JobRows
mod Numbering
mod Refusing
mod BlankForm
mod ChangeRows
mod Distinct
mod Stepping
pub mod Telling
