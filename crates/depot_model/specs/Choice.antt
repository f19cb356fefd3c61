-- The revision of a file that a file spec chooses (Command-Line Reference, "File specifications", the table of revision specifiers), and where the
-- client's view shows it ("Views"). A number above the head, and a change that made no revision, pass the file over: this project's own choice.
use Rattle.std.specs.Prelude.{ℕ, pos, int_le, Bool, false, ◌==◌, nat_le, List, if◌then◌else◌, Option, Some, None}
use Rattle.std.specs.List.{list_any}
use Rattle.db_records.specs.depot_path.declared.revision.RevSpec.{RevSpec}
use Rattle.db_records.specs.depot_path.declared.revision.RevSpec.TheVariants.{Number, Newest, Have, Zero, Change, Only, Moment, Named}
use Rattle.db_records.specs.depot_path.declared.revision.Wanted.{Wanted}
use Rattle.db_records.specs.depot_path.declared.revision.Wanted.TheVariants.{Head, One, Range}
use Rattle.view_map.specs.Mapping.{mapped}
use Rattle.view_map.specs.declared.mapped.Mapped.TheVariants.{Nothing, At as MappedAt}
use Rattle.depot_model.specs.declared.request.Caller.{Caller}
use Rattle.depot_model.specs.Deeds.{Deed}
use Rattle.depot_model.specs.Latest.{have, labelled}
use Rattle.depot_model.specs.Revisions.{Revision, revisions, head, last_passing, is_live_at}
use Rattle.depot_model.specs.Asking.{view, is_label}

-- a revision, 0 for none, or the file is passed over
pub data Choice : Type 0 where
  PassedOver : Choice
  At : ℕ → Choice

abbrev pub made_by_most : ℕ → Revision → Bool
made_by_most n r = nat_le r.landing.change n

abbrev pub made_by : ℕ → Revision → Bool
made_by n r = r.landing.change == n

abbrev pub at_or_above_one : ℕ → Choice
at_or_above_one n = if n == 0 then PassedOver else At n

abbrev pub chosen_by : List Deed → Caller → List ℕ → RevSpec → Choice
chosen_by d caller path (Number n) = if nat_le n (head d path) then At n else PassedOver
chosen_by d caller path Newest = At (head d path)
chosen_by d caller path Have = At (have d caller.client path)
chosen_by d caller path Zero = At 0
chosen_by d caller path (Change n) = At (last_passing (made_by_most n) 1 (revisions d path))
chosen_by d caller path (Only n) = at_or_above_one (last_passing (made_by n) 1 (revisions d path))
chosen_by d caller path (Moment t) = At (last_passing (λ r. int_le (pos r.landing.moment) t) 1 (revisions d path))
chosen_by d caller path (Named name) = At (if is_label d name then labelled d name path else have d name path)

-- of a range, its second end
abbrev pub chosen : List Deed → Caller → List ℕ → Wanted → Choice
chosen d caller path Head = At (head d path)
chosen d caller path (One end) = chosen_by d caller path end
chosen d caller path (Range first second) = chosen_by d caller path second

abbrev pub is_live_choice : List Deed → List ℕ → Choice → Bool
is_live_choice d path PassedOver = false
is_live_choice d path (At n) = is_live_at d path n

-- the client path at which a file is shown at a choice: no rival is live there
abbrev pub shown : List Deed → Caller → Wanted → List ℕ → Option (List ℕ)
shown d caller wanted path = elim (mapped (view d caller.client) path) [
  | Nothing ↦ None
  | MappedAt place rivals ↦ if list_any (λ rival. is_live_choice d rival (chosen d caller rival wanted)) rivals then None else Some place
]
