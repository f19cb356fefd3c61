-- A step that is two steps, one after another.
use Rattle.std.proofs.Common.{◌≡◌, List, ◌++◌, sym, subst}
use Rattle.depot_rows.specs.table_changes.Changed.{AllRows}
use Rattle.depot_rows.specs.depot_model.Deeds.{Deed}
use Rattle.depot_rows.specs.depot_model.Step.{Step as ModelStep, after, both}
use Rattle.reply_rows.specs.declared.step.Step.{Step}
use Rattle.reply_rows.specs.Made.{IsMade}
use Rattle.reply_rows.proofs.Joined.{made_on, then_on}

pub joined_made : (all : AllRows) (d e : List Deed) (m more : ModelStep) (step other joined : Step) → IsMade all d e m step → IsMade all d (after e m.deeds) more other
    → joined.deeds ≡ step.deeds ++ other.deeds → joined.rows ≡ step.rows ++ other.rows → joined.stores ≡ step.stores ++ other.stores
    → joined.reads ≡ step.reads ++ other.reads → IsMade all d e (both m more) joined
joined_made all d e m more step other joined was is deeds rows stores reads =
    let one : joined ≡ then_on step other = λ i. record { deeds = deeds i; rows = rows i; stores = stores i; reads = reads i } in
    subst (λ (x : Step). IsMade all d e (both m more) x) (sym one) (made_on all d e m more step other was is)
