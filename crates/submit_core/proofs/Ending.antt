-- What a submit does behind its change, and its rows.
use Rattle.std.proofs.Common.{◌≡◌, ◌+◌, ℕ, Bool, true, false, List, [], ◌∷◌, map, Some, inl, inr, refl, sym, subst}
use Rattle.std.specs.Prelude.{◌==◌, ◌||◌, flat_map, if◌then◌else◌, codes}
use Rattle.depot_rows.specs.depot_model.declared.request.Request.{Request}
use Rattle.depot_rows.specs.depot_model.Deeds as model
use Rattle.depot_rows.specs.depot_model.Deeds.{Deed, Opening}
use Rattle.depot_rows.specs.depot_model.Opened.{opened}
use Rattle.depot_rows.specs.depot_model.Revisions.{head, is_live_action}
use Rattle.depot_rows.specs.depot_model.Rows.{row, path_field, number_field, text_field, action_word}
use Rattle.depot_rows.specs.depot_model.Steps.Submitting.{dropped, entry_of, file_row, got_and_shut, landing_number, new_have, openings_of}
use Rattle.depot_rows.specs.Deed.{AreEntries, action_of, opening_of}
use Rattle.depot_rows.specs.declared.deed.Opening.{Opening as CodeOpening}
use Rattle.depot_rows.proofs.Entries.{In}
use Rattle.depot_rows.proofs.Locks.{opened-is}
use Rattle.depot_facts.proofs.OpenFiles.{opening_in}
use Rattle.submit_core.specs.Premises.{AreOpened}
use Rattle.depot_rows.specs.depot_model.declared.request.Caller.{Caller}
use Rattle.depot_rows.specs.declared.deed.Deed.{Deed as Done}
use Rattle.depot_rows.specs.declared.deed.Deed.TheVariants as dones
use Rattle.depot_rows.specs.declared.deed.Entry.{Entry}
use Rattle.depot_facts.specs.Following.{AreTold}
use Rattle.submit_core.specs.Landing.{dropped_by, ends_of, had_then, row_of_entry}
use Rattle.job_fixes.specs.Telling.{Tells}
use Rattle.job_fixes.proofs.Telling.{told_on}

-- ---- the number that is dropped

pub dropped_told : (d : List Deed) (n m : ℕ) → m ≡ landing_number d n → AreTold (dropped_by n m) (dropped d n)
dropped_told d n m is =
    subst (λ (k : ℕ). AreTold (if (n == 0) || (n == m) then [] else dones.Drop n ∷ []) (if (n == 0) || (n == k) then [] else model.Drop n ∷ [])) is (go ((n == 0) || (n == m)))
  where
    go : (b : Bool) → AreTold (if b then [] else dones.Drop n ∷ []) (if b then [] else model.Drop n ∷ [])
    go true = tt
    go false = (refl, tt)

-- ---- the files

had_is : (d : List Deed) (e : Entry) (o : Opening) → e.rev ≡ head d o.path + 1 → action_of e.action ≡ o.action → had_then e ≡ new_have d o
had_is d e o rev action = λ i. if is_live_action (action i) then rev i else 0

-- the openings are of the client
abbrev pub OfClient : List ℕ → List Opening → Type 0
OfClient client [] = Unit {0}
OfClient client (o ∷ os) = (o.client ≡ client) × OfClient client os

all_of_client : (client : List ℕ) (os : List Opening) → ((o : Opening) → In os o → o.client ≡ client) → OfClient client os
all_of_client client [] each = tt
all_of_client client (o ∷ os) each = (each o (inl refl), all_of_client client os (λ x h. each x (inr h)))

pub of_client : (d : List Deed) (caller : Caller) (n : ℕ) → OfClient caller.client (openings_of d caller n)
of_client d caller n = all_of_client caller.client (openings_of d caller n) (λ o h. (opened-is d caller.client o.path o (opening_in d caller n o h).0).0)

-- openings of the code that are those of a change are opened
all_opened : (d : List Deed) (client : List ℕ) (os : List CodeOpening) → ((o : Opening) → In (map opening_of os) o → opened d client o.path ≡ Some o) → AreOpened d client os
all_opened d client [] each = tt
all_opened d client (o ∷ os) each = (each (opening_of o) (inl refl), all_opened d client os (λ x h. each x (inr h)))

pub are_opened : (d : List Deed) (caller : Caller) (n : ℕ) (os : List CodeOpening) → map opening_of os ≡ openings_of d caller n → AreOpened d caller.client os
are_opened d caller n os is = all_opened d caller.client os (λ o h. (opening_in d caller n o (subst (λ (l : List Opening). In l o) is h)).0)

module _ (d : List Deed) (request : Request) (client : List ℕ) where
  pub ends_told : (es : List Entry) (os : List Opening) → OfClient client os → AreEntries d es (map (entry_of d request) os) → AreTold (flat_map (ends_of client) es) (flat_map (got_and_shut d) os)
  ends_told [] [] of are = tt
  ends_told [] (o ∷ os) of are = absurd are
  ends_told (e ∷ es) [] of are = absurd are
  ends_told (e ∷ es) (o ∷ os) of are =
      told_on (ends_of client e) (flat_map (ends_of client) es) (got_and_shut d o) (flat_map (got_and_shut d) os)
      (λ i. Some (model.Got (record { client = sym of.0 i; path = are.0.path i }) (had_is d e o are.0.rev are.0.action i)), (λ i. Some (model.Shut (record { client = sym of.0 i; path = are.0.path i })), tt))
      (ends_told es os of.1 are.1)

pub rows_told : (d : List Deed) (request : Request) (es : List Entry) (os : List Opening) → AreEntries d es (map (entry_of d request) os) → map row_of_entry es ≡ map (file_row d) os
rows_told d request [] [] are = refl
rows_told d request [] (o ∷ os) are = absurd are
rows_told d request (e ∷ es) [] are = absurd are
rows_told d request (e ∷ es) (o ∷ os) are =
    λ i. row (path_field (codes "depotFile") (are.0.path i) ∷ number_field (codes "rev") (are.0.rev i) ∷ text_field (codes "action") (action_word (are.0.action i)) ∷ [])
    ∷ rows_told d request es os are.1 i

-- ---- deeds behind others

pub told_all : (now : List Done) (told : List Deed) → Tells [] now told → AreTold now told
told_all now told h = subst (λ (l : List Done). AreTold l told) (sym h.1.0) h.1.1
