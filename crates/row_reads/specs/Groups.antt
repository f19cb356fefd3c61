-- The groups that list a user, as rows have them (Helix Core database schema reference, "db.group"). That a row whose group is no name is
-- passed over is this project's own choice; no sound depot has one.
use Rattle.std.specs.Prelude.{ℕ, List, [], ◌∷◌, filter, flat_map, if◌then◌else◌}
use Rattle.depot_rows.specs.depot_path.Name.{is_name}
use Rattle.depot_rows.specs.db_records.declared.record.Record.{Record}
use Rattle.depot_rows.specs.db_records.declared.record.Record.TheVariants.{Group}
use Rattle.depot_rows.specs.table_store.Marks.{is_of_user}

abbrev pub group_in : Record → List (List ℕ)
group_in (Group r) = if is_name r.group then r.group ∷ [] else []
group_in _ = []

abbrev pub groups_in : List ℕ → List Record → List (List ℕ)
groups_in user rows = flat_map group_in (filter (is_of_user user) rows)

-- the users in rows of groups
abbrev pub user_in : Record → List (List ℕ)
user_in (Group r) = r.user ∷ []
user_in _ = []

abbrev pub users_in : List Record → List (List ℕ)
users_in rows = flat_map user_in rows
