-- What a replica answers: it changes nothing, shows no shelved files, and counts what it took (Server Administrator Guide, on read-only replicas).
-- The row of `pull` is this project's own choice.
use Rattle.std.specs.Prelude.{◌≡◌, ◌⊎◌, ℕ, suc, List, [], ◌∷◌, length, codes, if◌then◌else◌, Bool, true, false, ◌||◌, Ok, Err, nat_lt}
use Rattle.depot_model.specs.declared.request.Request.{Request}
use Rattle.depot_model.specs.declared.reply.Row.{Row}
use Rattle.depot_model.specs.declared.command.Command.{Command}
use Rattle.depot_model.specs.declared.command.Command.TheVariants.{DescribeShelved}
use Rattle.depot_model.specs.declared.refusal.Refusal.TheVariants.{ReadOnly}
use Rattle.depot_model.specs.Deeds.{Deed}
use Rattle.depot_model.specs.About.{about}
use Rattle.depot_model.specs.Tables.{own_tables}
use Rattle.depot_model.specs.Common.{word_refusal}
use Rattle.depot_model.specs.Refusals.{refusal_row}
use Rattle.depot_model.specs.Rows.{row, number_field}
use Rattle.depot_model.specs.Step.{after}
use Rattle.depot_model.specs.Commands.{whole_step, step}
use Rattle.depot_model.specs.Places.{Placed, done_at}
use Rattle.depot_runs.specs.Kept.{IsChange}

abbrev pub shows_shelf : Command → Bool
shows_shelf (DescribeShelved n) = true
shows_shelf _ = false

-- a replica answers no command that writes a table, and shows no shelf
abbrev pub is_refused : Command → Bool
is_refused command = nat_lt 0 (length (own_tables command).written) || shows_shelf command

abbrev pub answered : List Deed → Request → Command → List Row
answered d request command = if is_refused command then refusal_row (ReadOnly (about command).word) ∷ [] else (whole_step d request command).rows

-- what a replica answers whose depot is this one
abbrev pub replica_reply : List Deed → Request → List Row
replica_reply d request = elim request.command [ Err fault ↦ refusal_row (word_refusal fault) ∷ [] | Ok command ↦ answered d request command ]

-- the reply to `pull`: how far the replica is
abbrev pub position_row : ℕ → ℕ → Row
position_row generation changes = row (number_field (codes "generation") generation ∷ number_field (codes "changes") changes ∷ [])

-- a depot is another after the first n changes among the places of an order
abbrev pub IsAfterChanges : ℕ → List Deed → List Placed → List Deed → Type 0
IsAfterChanges n d [] e = (n ≡ 0) × (e ≡ d)
IsAfterChanges n d (p ∷ order) e =
    ((n ≡ 0) × (e ≡ d))
    ⊎ ((IsChange d p → ⊥) × IsAfterChanges n (after d (done_at step d p)) order e)
    ⊎ (IsChange d p × (m : ℕ) × (n ≡ suc m) × IsAfterChanges m (after d (done_at step d p)) order e)
