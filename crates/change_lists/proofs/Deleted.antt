-- By what the deletion of a change is refused is what its row tells.
use Rattle.std.proofs.Common.{◌≡◌, ℕ, Bool, true, false, Option, Some, None, List, [], ◌∷◌, refl, ap, ◌∙◌}
use Rattle.std.specs.Prelude.{if◌then◌else◌, is_none, is_some, IsSome, not, ◌&&◌, ◌||◌, length, nat_lt, option_map}
use Rattle.std.specs.Option.{option_map_or}
use Rattle.depot_rows.specs.depot_path.Bytes.{same}
use Rattle.depot_rows.specs.db_records.declared.record.Record.{Record}
use Rattle.depot_rows.specs.depot_model.declared.request.Caller.{Caller}
use Rattle.depot_rows.specs.depot_model.declared.refusal.Refusal.{Refusal}
use Rattle.depot_rows.specs.depot_model.declared.refusal.Refusal.TheVariants.{NoSuchChange, NotDeletable, NotYours}
use Rattle.depot_rows.specs.depot_model.Deeds.{Deed, Landing, Pending}
use Rattle.depot_rows.specs.depot_model.Numbers.{landing, pending}
use Rattle.depot_rows.specs.depot_model.Records.{change_record, landed_record, pending_record}
use Rattle.depot_rows.specs.depot_model.Refusals.{refusal_row}
use Rattle.depot_rows.specs.depot_model.Rules.{NotBoth}
use Rattle.depot_rows.specs.depot_model.Step.{refuse_if}
use Rattle.depot_rows.specs.depot_model.Steps.Changing.{delete_refusals, landed_by}
use Rattle.depot_rows.specs.depot_model.Steps.Opening.{is_of}
use Rattle.depot_rows.specs.depot_model.Steps.Submitting.{openings_of}
use Rattle.depot_rows.specs.Effects.{is_submitted}
use Rattle.reply_rows.specs.Refusing.{first_of}
use Rattle.change_lists.specs.Deleting.{delete_told}

module _ (caller : Caller) (n : ℕ) (holds : Bool) where
  abbrev tests : Option Pending → Option Landing → List (Option Refusal)
  tests p l =
      refuse_if (is_none p && is_none l) (NoSuchChange n)
      ∷ refuse_if (not (option_map_or (is_of caller) p true) || not (option_map_or (landed_by caller) l true)) (NotYours n)
      ∷ refuse_if (is_some l || holds) (NotDeletable n)
      ∷ []

  abbrev row_of : Option Pending → Option Landing → Option Record
  row_of p l = elim p as (λ _. Option Record) [ Some x ↦ Some (pending_record x) | None ↦ option_map landed_record l ]

  told : (p : Option Pending) (l : Option Landing) → (IsSome p → IsSome l → ⊥) → delete_told caller n holds (row_of p l) ≡ first_of (tests p l)
  told None None apart = refl
  told None (Some l) apart = go (same l.user caller.user && same l.client caller.client)
    where
      go : (own : Bool) → (if not own then Some (NotYours n) else Some (NotDeletable n))
          ≡ first_of (refuse_if (not own) (NotYours n) ∷ Some (NotDeletable n) ∷ [])
      go true = refl
      go false = refl
  told (Some p) None apart = go (same p.user caller.user && same p.client caller.client) holds
    where
      go : (own held : Bool) → (if not own then Some (NotYours n) else if held then Some (NotDeletable n) else None)
          ≡ first_of (refuse_if (not own || false) (NotYours n) ∷ refuse_if held (NotDeletable n) ∷ [])
      go true true = refl
      go true false = refl
      go false held = refl
  told (Some p) (Some l) apart = absurd (apart refl refl)

pub delete_is : (d : List Deed) (caller : Caller) (n : ℕ) (holds : Bool) → NotBoth d → holds ≡ nat_lt 0 (length (openings_of d caller n))
    → delete_told caller n holds (change_record d n) ≡ first_of (delete_refusals d caller n)
delete_is d caller n holds apart is =
    told caller n holds (pending d n) (landing d n) (apart n) ∙ ap (λ (b : Bool). first_of (tests caller n b (pending d n) (landing d n))) is

-- what is deleted isn't submitted
pub not_landed : (d : List Deed) (caller : Caller) (n : ℕ) (holds : Bool) → None ≡ option_map refusal_row (delete_told caller n holds (change_record d n))
    → is_submitted (change_record d n) ≡ false
not_landed d caller n holds is = go (pending d n) (landing d n) is
  where
    landed : (l : Landing) (own : Bool) → None ≡ option_map refusal_row (if not own then Some (NotYours n) else Some (NotDeletable n)) → true ≡ false
    landed l true e = absurd cc
    landed l false e = absurd cc

    go : (p : Option Pending) (l : Option Landing) → None ≡ option_map refusal_row (delete_told caller n holds (row_of caller n holds p l)) → is_submitted (row_of caller n holds p l) ≡ false
    go None None e = absurd cc
    go None (Some l) e = landed l (same l.user caller.user && same l.client caller.client) e
    go (Some p) l e = refl
