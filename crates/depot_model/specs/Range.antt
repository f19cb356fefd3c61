-- The revisions of a file that a range asks for (Command-Line Reference, "File specifications", on revision ranges).
use Rattle.std.specs.Prelude.{ℕ, ◌==◌, pos, int_le, List, filter, Bool, true, false, ◌&&◌, nat_le}
use Rattle.std.specs.Option.{option_map_or}
use Rattle.std.specs.List.{range_with_len}
use Rattle.db_records.specs.depot_path.declared.revision.Wanted.{Wanted}
use Rattle.db_records.specs.depot_path.declared.revision.Wanted.TheVariants.{One, Range}
use Rattle.db_records.specs.depot_path.declared.revision.RevSpec.{RevSpec}
use Rattle.db_records.specs.depot_path.declared.revision.RevSpec.TheVariants.{Only, Number, Newest, Change, Moment}
use Rattle.depot_model.specs.declared.request.Caller.{Caller}
use Rattle.depot_model.specs.Deeds.{Deed}
use Rattle.depot_model.specs.Revisions.{Revision, revision, head}
use Rattle.depot_model.specs.Choice.{Choice, PassedOver, At, chosen}

abbrev pub is_up_to : ℕ → Choice → Bool
is_up_to n PassedOver = false
is_up_to n (At m) = nat_le n m

-- revision n is at or after an end
abbrev pub is_from : List Deed → List ℕ → RevSpec → ℕ → Bool
is_from d path (Number m) n = nat_le m n
is_from d path Newest n = nat_le (head d path) n
is_from d path (Change m) n = option_map_or (λ (r : Revision). nat_le m r.landing.change) (revision d path n) false
is_from d path (Moment t) n = option_map_or (λ (r : Revision). int_le t (pos r.landing.moment)) (revision d path n) false
is_from d path _ n = true

-- revision n is one of those from the first end on; `@=n` means that change alone
abbrev pub is_begun : List Deed → List ℕ → Wanted → ℕ → Bool
is_begun d path (Range first second) n = is_from d path first n
is_begun d path (One (Only m)) n = option_map_or (λ (r : Revision). r.landing.change == m) (revision d path n) false
is_begun d path _ n = true

-- the revisions that are asked for: up to the chosen one, and from the first end of a range on
abbrev pub in_range : List Deed → Caller → List ℕ → Wanted → List ℕ
in_range d caller path wanted = filter (λ n. is_begun d path wanted n && is_up_to n (chosen d caller path wanted)) (range_with_len 1 (head d path))
