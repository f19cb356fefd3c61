-- A change that isn't refused is pending, of the client, and its row has its description.
use Rattle.std.proofs.Common.{◌≡◌, ℕ, Bool, true, false, List, [], ◌∷◌, Option, Some, None, refl, sym, ap, ◌∙◌}
use Rattle.std.specs.Prelude.{not, option_map}
use Rattle.std.specs.Option.{option_map_or}
use Rattle.std.proofs.lemmas.Bool.{and_parts}
use Rattle.depot_rows.specs.depot_path.Bytes.{same}
use Rattle.depot_rows.specs.db_records.declared.record.Record.{Record}
use Rattle.depot_rows.specs.db_records.declared.record.Record.TheVariants.{Change}
use Rattle.depot_rows.specs.db_records.declared.rows.ChangeRecord.{ChangeRecord}
use Rattle.depot_rows.specs.depot_model.declared.refusal.Refusal.{Refusal}
use Rattle.depot_rows.specs.depot_model.declared.refusal.Refusal.TheVariants.{NoSuchChange, NotYours}
use Rattle.depot_rows.specs.depot_model.declared.request.Request.{Request}
use Rattle.depot_rows.specs.depot_model.Deeds.{Deed, Landing, Pending}
use Rattle.depot_rows.specs.depot_model.Numbers.{landing, pending}
use Rattle.depot_rows.specs.depot_model.Records.{change_record, landed_record, pending_record}
use Rattle.depot_rows.specs.depot_model.Refusals.{refusal_row}
use Rattle.depot_rows.specs.depot_model.Step.{Step as ModelStep, refuse_if, unless}
use Rattle.depot_rows.specs.depot_model.Steps.Opening.{change_refusal, is_of}
use Rattle.depot_rows.specs.depot_model.Steps.Submitting.{submit, submit_change}
use Rattle.depot_rows.proofs.Keys.{same-is}

abbrev row_of : Option Pending → Option Landing → Option Record
row_of p l = elim p [ Some x ↦ Some (pending_record x) | None ↦ option_map landed_record l ]

pub text_is : (d : List Deed) (n : ℕ) (p : Pending) (row : ChangeRecord) → pending d n ≡ Some p → Some (Change row) ≡ change_record d n → row.text ≡ p.text
text_is d n p row is e =
    let one : Some (Change row) ≡ Some (pending_record p) = e ∙ ap (λ (o : Option Pending). row_of o (landing d n)) is in
    let own : Change row ≡ pending_record p = cc in
    ap text own
  where
    text : Record → List ℕ
    text (Change r) = r.text
    text _ = []

pub has_row : (d : List Deed) (n : ℕ) (p : Pending) → pending d n ≡ Some p → None ≡ change_record d n → ⊥
has_row d n p is e = let one : None ≡ Some (pending_record p) = e ∙ ap (λ (o : Option Pending). row_of o (landing d n)) is in absurd cc

-- a pending change of the client
pub record IsOwn (d : List Deed) (request : Request) (n : ℕ) : Type 0 where
  pub change : Pending
  pub is : pending d n ≡ Some change
  pub client : change.client ≡ request.caller.client

pub own_change : (d : List Deed) (request : Request) (n : ℕ) → None ≡ option_map refusal_row (change_refusal d request.caller n) → IsOwn d request n
own_change d request n is = go (pending d n) refl is
  where
    client : (p : Pending) (b : Bool) → is_of request.caller p ≡ b → None ≡ option_map refusal_row (refuse_if (not b) (NotYours n)) → p.client ≡ request.caller.client
    client p true e f = same-is p.client request.caller.client (and_parts (same p.user request.caller.user) (same p.client request.caller.client) e).1
    client p false e f = absurd cc

    go : (o : Option Pending) → pending d n ≡ o
        → None ≡ option_map refusal_row (elim o as (λ _. Option Refusal) [ None ↦ Some (NoSuchChange n) | Some p ↦ refuse_if (not (is_of request.caller p)) (NotYours n) ])
        → IsOwn d request n
    go None e f = absurd cc
    go (Some p) e f = record { change = p; is = e; client = client p (is_of request.caller p) refl f }

-- it is submitted under its description
pub own_submitted : (d : List Deed) (request : Request) (n : ℕ) (p : Pending) → pending d n ≡ Some p → None ≡ option_map refusal_row (change_refusal d request.caller n)
    → submit d request n p.text ≡ submit_change d request n
own_submitted d request n p e is =
    ap (λ (o : Option Pending). submit d request n (option_map_or (λ (x : Pending). x.text) o [])) (sym e)
    ∙ go (change_refusal d request.caller n) is
  where
    inner : ModelStep
    inner = submit d request n (option_map_or (λ (x : Pending). x.text) (pending d n) [])

    go : (o : Option Refusal) → None ≡ option_map refusal_row o → inner ≡ unless (o ∷ []) inner
    go None f = refl
    go (Some why) f = absurd cc
