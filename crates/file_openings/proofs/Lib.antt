pub mod FirstBars
pub mod NamesRise
pub mod PlusBytes
pub mod Told
