-- Memory that is had before the first thread. This project's own choice.
use Rattle.std.specs.Prelude.{◌≡◌, ◌≤◌, ℕ, [], vec_capacity}
use Rattle.party_threads.specs.declared.threads.Room.{Room}

-- nothing is in it, and so many parties have room
pub record IsRoom {K N : Type 0} (parties : ℕ) (room : Room K N) : Type 0 where
  pub no_parties : room.parties.items ≡ []
  pub no_runs : room.runs.items ≡ []
  pub no_sinks : room.sinks.items ≡ []
  pub wide : parties ≤ vec_capacity room.parties
  pub wide_runs : parties ≤ vec_capacity room.runs
  pub wide_sinks : parties ≤ vec_capacity room.sinks
