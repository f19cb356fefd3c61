-- Who asks, with which rights, and where the caller's client puts files (Command-Line Reference, "p4 protect", "p4 client").
use Rattle.std.specs.Prelude.{ℕ, Bool, List, [], filter, codes, Some, None, Ok, Err, is_some}
use Rattle.std.specs.List.{list_any}
use Rattle.db_records.specs.depot_path.Bytes.{same}
use Rattle.spec_form.specs.Form.{lines_of}
use Rattle.view_map.specs.declared.line.ViewLine.{ViewLine}
use Rattle.view_map.specs.Reading.{view_of}
use Rattle.protect_table.specs.declared.line.ProtectLine.{ProtectLine}
use Rattle.protect_table.specs.declared.who.Who.{Who}
pub use Rattle.protect_table.specs.Line.{lines_or_none, read_lines}
use Rattle.protect_table.specs.Rights.{may, may_any}
use Rattle.depot_model.specs.declared.request.Caller.{Caller}
use Rattle.depot_model.specs.Deeds.{Deed, ClientForm, LabelForm}
use Rattle.depot_model.specs.Latest.{keys_of, spec, users, guard_lines, group_name}

-- the groups that list a user, by name
abbrev pub groups_of : List Deed → List ℕ → List (List ℕ)
groups_of d user = filter (λ group. list_any (same user) (users d group)) (keys_of group_name d)

abbrev pub who_of : List Deed → Caller → Who
who_of d caller = record { user = caller.user; groups = groups_of d caller.user; host = caller.host }

abbrev pub protects : List Deed → List ProtectLine
protects d = read_lines (guard_lines d)

-- the caller may do at a path what the need asks, and somewhere
abbrev pub may_at : List Deed → Caller → List ℕ → ℕ → Bool
may_at d caller path need = may (protects d) (who_of d caller) path need

abbrev pub may_anywhere : List Deed → Caller → ℕ → Bool
may_anywhere d caller need = may_any (protects d) (who_of d caller) need

-- the needs of commands
abbrev pub to_list : ℕ
to_list = 1

abbrev pub to_read : ℕ
to_read = 2

abbrev pub to_open : ℕ
to_open = 3

abbrev pub to_write : ℕ
to_write = 4

abbrev pub to_super : ℕ
to_super = 6

abbrev pub may_list : List Deed → Caller → List ℕ → Bool
may_list d caller path = may_at d caller path to_list

-- the view of a saved client
abbrev pub view : List Deed → List ℕ → List ViewLine
view d client = elim (spec d ClientForm client) [
  | None ↦ []
  | Some form ↦ elim (view_of client (lines_of form (codes "View"))) [ Ok lines ↦ lines | Err fault ↦ [] ]
]

abbrev pub is_client : List Deed → List ℕ → Bool
is_client d name = is_some (spec d ClientForm name)

abbrev pub is_label : List Deed → List ℕ → Bool
is_label d name = is_some (spec d LabelForm name)
