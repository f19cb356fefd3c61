mod Answering
mod Asked
mod Behind
mod Collecting
mod Entries
mod Finishing
mod Marked
mod Together
-- what stands below, for the crates above
pub use Rattle.run_parties.proofs.depot_commit as depot_commit
