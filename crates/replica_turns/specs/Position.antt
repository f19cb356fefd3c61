-- Memory for the reply to `pull`. This project's own choice.
use Rattle.std.specs.Prelude.{◌≡◌, ◌≤◌, [], vec_capacity}
use Rattle.replica_turns.specs.declared.position.Room.{Room}

-- nothing is in it, and the reply to any `pull` has room
pub record IsRoom (room : Room) : Type 0 where
  pub none : room.bytes.items ≡ []
  pub wide : 128 ≤ vec_capacity room.bytes
