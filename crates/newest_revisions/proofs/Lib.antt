pub mod NewestRead
