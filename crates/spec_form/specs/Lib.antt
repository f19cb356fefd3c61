pub mod Shapes
pub mod Texts
pub mod Form
pub mod Fields
pub mod Reading
pub mod Printing
pub mod Places
