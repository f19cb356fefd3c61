-- Deeds behind others.
use Rattle.std.proofs.Common.{◌≡◌, List, [], ◌∷◌, ◌++◌, None, sym, subst, append_assoc, append-nil}
use Rattle.depot_rows.specs.table_changes.Changed.{AllRows}
use Rattle.depot_rows.specs.depot_model.declared.reply.Row.{Row}
use Rattle.depot_rows.specs.depot_model.Deeds.{Deed}
use Rattle.depot_rows.specs.depot_model.Step.{Step as ModelStep, after, both, does}
use Rattle.depot_rows.specs.Effects.{Follow}
use Rattle.depot_rows.specs.declared.deed.Deed.{Deed as Done}
use Rattle.opening_parts.proofs.Joined.{joined_made}
use Rattle.reply_rows.specs.Made.{IsMade, does as does_so}
use Rattle.reply_rows.specs.declared.step.Step.{Step}
use Rattle.reply_rows.proofs.Joined.{follow_on, made_done}
use Rattle.integ_records.specs.Turns.{Adds}

pub adds_none : (old : List Done) → Adds old old []
adds_none old e done before = subst (λ (l : List Deed). Follow e old l) (sym (append-nil done)) before

pub adds_one : (old new : List Done) (one : Done) (deed : Deed) → new ≡ old ++ one ∷ [] → ((e : List Deed) → Follow e (one ∷ []) (deed ∷ [])) → Adds old new (deed ∷ [])
adds_one old new one deed is may e done before =
    subst (λ (l : List Done). Follow e l (done ++ deed ∷ [])) (sym is) (follow_on e old (one ∷ []) done (deed ∷ []) before (may (after e done)))

pub adds_more : (old mid new : List Done) (deeds more : List Deed) → Adds old mid deeds → Adds mid new more → Adds old new (deeds ++ more)
adds_more old mid new deeds more was is e done before =
    subst (λ (l : List Deed). Follow e new l) (append_assoc done deeds more) (is e (done ++ deeds) (was e done before))

-- a step of deeds and a row behind another one
pub made_more : (all : AllRows) (d e : List Deed) (m : ModelStep) (old other new : Step) (dones : List Done) (deeds : List Deed) (row is : Row) → IsMade all d e m old
    → Adds [] dones deeds → row ≡ is → is.content ≡ None → other ≡ does_so dones row → new.deeds ≡ old.deeds ++ other.deeds → new.rows ≡ old.rows ++ other.rows
    → new.stores ≡ old.stores ++ other.stores → new.reads ≡ old.reads ++ other.reads → IsMade all d e (both m (does deeds is)) new
made_more all d e m old other new dones deeds row is was adds same none made by_deeds by_rows by_stores by_reads =
    joined_made all d e m (does deeds is) old other new was
    (made_done all d (after e m.deeds) dones deeds row is other (adds (after e m.deeds) [] tt) same none made) by_deeds by_rows by_stores by_reads
