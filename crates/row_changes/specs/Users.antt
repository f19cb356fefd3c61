-- The rows with those of users of a group. This project's own choice.
use Rattle.std.specs.Prelude.{ℕ, List, [], ◌∷◌, Some}
use Rattle.depot_rows.specs.db_records.declared.key.Key.TheVariants as keys
use Rattle.depot_rows.specs.depot_model.Rules.{Rows}
use Rattle.depot_rows.specs.Effects.{put_at, group_row}

abbrev pub with_users : List ℕ → List (List ℕ) → Rows → Rows
with_users group [] before = before
with_users group (user ∷ users) before = with_users group users (put_at (keys.Group group user) (Some (group_row group user)) before)
