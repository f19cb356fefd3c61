pub mod Drawn
pub mod Running
pub mod Beginning
pub mod Counted
pub mod Answering
pub mod Along
pub mod Taking
pub mod Going
