pub mod Along
pub mod CutContents
pub mod Ends
pub mod Exits
pub mod Fits
pub mod Following
pub mod Masters
pub mod Moving
pub mod OneMore
pub mod Positions
pub mod Replies
pub mod Turns
pub mod Unmoved
-- what stands below, for the crates above
pub use Rattle.depot_commit.proofs as depot_commit
