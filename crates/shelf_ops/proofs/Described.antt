-- What is told of kept files and their change, by forms and a record, is what the model tells.
use Rattle.std.proofs.Common.{◌≡◌, ◌≤◌, ◌<◌, ℕ, Bool, true, false, List, [], ◌∷◌, ◌++◌, Option, Some, None, refl, sym, ap, ◌∙◌, length, take, drop, get_or, ◌+◌, ◌-◌, arith, append_assoc, append-nil}
use Rattle.std.specs.Prelude.{◌&&◌, ◌||◌, ◌==◌, codes, decimal, flat_map, if◌then◌else◌, not, option_and_then, option_map, unwrap_or}
use Rattle.std.specs.List.{enumerate_from}
use Rattle.std.specs.Option.{option_flatten, option_map_or, option_or}
use Rattle.std.proofs.lemmas.Bool.{and_parts}
use Rattle.depot_rows.specs.depot_path.Bytes.{same}
use Rattle.depot_rows.specs.depot_path.Digits.{is_digits, number_of}
use Rattle.depot_rows.specs.db_records.declared.record.Record.{Record}
use Rattle.depot_rows.specs.db_records.declared.record.Record.TheVariants as records
use Rattle.depot_rows.specs.db_records.declared.rows.ChangeRecord.{ChangeRecord}
use Rattle.depot_rows.specs.spec_form.Form.{FormValue}
use Rattle.depot_rows.specs.spec_form.Printing.{printed_form}
use Rattle.depot_rows.specs.spec_form.declared.shape.Shape.TheVariants.{Shelf as ShelfShape}
use Rattle.depot_rows.specs.table_changes.Changed.{AllRows}
use Rattle.depot_rows.specs.depot_model.declared.refusal.Refusal.TheVariants.{NoShelf}
use Rattle.depot_rows.specs.depot_model.declared.reply.Field.{Field}
use Rattle.depot_rows.specs.depot_model.declared.reply.Row.{Row}
use Rattle.depot_rows.specs.depot_model.declared.request.Caller.{Caller}
use Rattle.depot_rows.specs.depot_model.Deeds.{Add, Deed, Delete, Drop, Edit, Land, Landing, Pend, Pending, ShelfForm}
use Rattle.depot_rows.specs.depot_model.Latest.{latest, spec, when}
use Rattle.depot_rows.specs.depot_model.Numbers.{landing, pending, pending_said}
use Rattle.depot_rows.specs.depot_model.Numerals.{is_numeral}
use Rattle.depot_rows.specs.depot_model.Records.{change_record, landed_record, pending_record}
use Rattle.depot_rows.specs.depot_model.Refusals.{refusal_row}
use Rattle.depot_rows.specs.depot_model.Rows.{action_word, path_field, text_field}
use Rattle.depot_rows.specs.depot_model.Rules.{IsKept, IsShelf, IsSound, has_shelf_value, is_number_in, shelf_value}
use Rattle.depot_rows.specs.depot_model.Records.{record_of}
use Rattle.depot_rows.specs.depot_model.Shelves.{is_kept, kept, kept_action, kept_base, shelf_name}
use Rattle.depot_rows.specs.depot_model.Step.{Step as ModelStep, refuses, tells}
use Rattle.depot_rows.specs.depot_model.Steps.Shelving.{describe_kept, fields_of_kept, listable, shelved_fields}
use Rattle.depot_rows.specs.depot_model.Values.{value_of}
use Rattle.depot_rows.proofs.Keys.{number-is, same-is}
use Rattle.opening_reads.proofs.Onwards.{all_but_first}
use Rattle.reply_rows.specs.declared.step.Step.{Step}
use Rattle.reply_rows.specs.Made.{IsMade, told}
use Rattle.reply_rows.proofs.Joined.{made_refusal, made_row}
use Rattle.depot_facts.proofs.Found.{saved_shelf, spec_value}
use Rattle.shelf_ops.specs.Described.{change_told, form_fields, kept_word}

-- ---- the base in the form of a kept file

fifth : (a b c t e : Bool) → (a && (b && (c && (t && (e && true))))) ≡ true → e ≡ true
fifth a b c t e h = (and_parts e true (and_parts t (e && true) (and_parts c (t && (e && true)) (and_parts b (c && (t && (e && true))) (and_parts a (b && (c && (t && (e && true)))) h).1).1).1).1).0

there_too : (a b : Bool) → (not a || b) ≡ true → a ≡ true → b ≡ true
there_too true b h e = h
there_too false b h e = absurd cc

module _ (d : List Deed) (sound : IsSound d) (n : ℕ) (path : List ℕ) (form : FormValue) (saved : spec d ShelfForm (shelf_name n path) ≡ Some form) (on : is_kept form ≡ true) where
  shelf : IsShelf (record_of d) (shelf_name n path) (printed_form form)
  shelf = saved_shelf d sound (shelf_name n path) form saved

  abbrev has : List ℕ → Bool
  has field = has_shelf_value (printed_form form) field

  abbrev counts : List ℕ → Bool
  counts field = is_number_in ShelfShape (printed_form form) field

  base_text : decimal (kept_base form) ≡ value_of form (codes "Base")
  base_text =
      let value : (field : List ℕ) → shelf_value field (printed_form form) ≡ value_of form field = spec_value d sound ShelfForm (shelf_name n path) form saved in
      let whole : IsKept (record_of d) (printed_form form) = shelf.kept (value (codes "State") ∙ same-is (value_of form (codes "State")) (codes "kept") on) in
      let numeral : is_numeral (value_of form (codes "Base")) ≡ true =
      ap is_numeral (sym (value (codes "Base")))
      ∙ there_too (has (codes "Base")) (is_numeral (shelf_value (codes "Base") (printed_form form)))
      (and_parts (counts (codes "Base")) (counts (codes "FromRev") && true) (and_parts (counts (codes "Change")) (counts (codes "Base") && (counts (codes "FromRev") && true)) shelf.numbers).1).0
      (fifth (has (codes "Client")) (has (codes "User")) (has (codes "Action")) (has (codes "Type")) (has (codes "Base")) whole.whole) in
      same-is (decimal (number_of (value_of form (codes "Base")))) (value_of form (codes "Base"))
      (and_parts (is_digits (value_of form (codes "Base"))) _ numeral).1

-- ---- the word of the action in the form of a kept file

pub word_is : (form : FormValue) → kept_word (value_of form (codes "Action")) ≡ action_word (kept_action form)
word_is form = go (same (codes "add") word) (same (codes "edit") word) (same (codes "delete") word)
  where
    word : List ℕ
    word = value_of form (codes "Action")

    go : (a b c : Bool) → (if a then codes "add" else (if b then codes "edit" else (if c then codes "delete" else codes "add")))
        ≡ action_word (unwrap_or (if a then Some Add else (if b then Some Edit else (if c then Some Delete else None))) Add)
    go true b c = refl
    go false true c = refl
    go false false true = refl
    go false false false = refl

-- ---- the fields of a file

pub form_shown : (d : List Deed) → IsSound d → (n : ℕ) (path : List ℕ) (k : ℕ) → form_fields k path (kept d n path) ≡ shelved_fields d n (k, path)
form_shown d sound n path k = go (spec d ShelfForm (shelf_name n path)) refl
  where
    go : (o : Option FormValue) → spec d ShelfForm (shelf_name n path) ≡ o
        → form_fields k path (option_and_then (λ form. when (is_kept form) form) o) ≡ option_map_or (fields_of_kept (decimal k) path) (option_and_then (λ form. when (is_kept form) form) o) []
    go None e = refl
    go (Some form) e = test (is_kept form) refl
      where
        test : (b : Bool) → is_kept form ≡ b → form_fields k path (when b form) ≡ option_map_or (fields_of_kept (decimal k) path) (when b form) []
        test false on = refl
        test true on = λ i.
            path_field (codes "depotFile" ++ decimal k) path ∷ text_field (codes "action" ++ decimal k) (action_word (kept_action form))
            ∷ text_field (codes "rev" ++ decimal k) (sym (base_text d sound n path form e on) i) ∷ []

-- three fields one after another
pub three_pushed : (f f1 f2 f3 : List Field) (a b c : Field) → f1 ≡ f ++ a ∷ [] → f2 ≡ f1 ++ b ∷ [] → f3 ≡ f2 ++ c ∷ [] → f3 ≡ f ++ a ∷ b ∷ c ∷ []
three_pushed f f1 f2 f3 a b c e1 e2 e3 =
    e3 ∙ ap (λ (l : List Field). l ++ c ∷ []) e2 ∙ append_assoc f1 (b ∷ []) (c ∷ []) ∙ ap (λ (l : List Field). l ++ b ∷ c ∷ []) e1 ∙ append_assoc f (a ∷ []) (b ∷ c ∷ [])

-- ---- the fields of files, numbered

pub numbered_on : (f : ℕ × List ℕ → List Field) (done new : List Field) (k : ℕ) (paths : List (List ℕ)) (path : List ℕ) → 1 ≤ length paths → path ≡ get_or paths 0 path
    → new ≡ done ++ f (k, path) → new ++ flat_map f (enumerate_from (k + 1) (take (length paths - 1) (drop 1 paths))) ≡ done ++ flat_map f (enumerate_from k paths)
numbered_on f done new k [] path some first is = absurd (omega arith)
numbered_on f done new k (x ∷ paths) path some first is =
    ap (λ l. new ++ flat_map f (enumerate_from (k + 1) l)) (all_but_first x paths)
    ∙ ap (λ l. l ++ flat_map f (enumerate_from (k + 1) paths)) (is ∙ ap (λ y. done ++ f (k, y)) first)
    ∙ append_assoc done (f (k, x)) (flat_map f (enumerate_from (k + 1) paths))

pub numbered_all : (f : ℕ × List ℕ → List Field) (done all : List Field) (k : ℕ) (paths : List (List ℕ)) → length paths < 1
    → done ++ flat_map f (enumerate_from k paths) ≡ all → done ≡ all
numbered_all f done all k [] few is = sym (append-nil done) ∙ is
numbered_all f done all k (x ∷ paths) few is = absurd (omega arith)

-- ---- the change

-- a pending change has its number
number_is : (n : ℕ) (p : Pending) (d : List Deed) → pending d n ≡ Some p → p.change ≡ n
number_is n p [] e = absurd cc
number_is n p (Pend x ∷ d) e = go (x.change == n) refl e (number_is n p d)
  where
    go : (b : Bool) → (x.change == n) ≡ b → option_flatten (option_or (when b (Some x)) (latest (pending_said n) d)) ≡ Some p → (pending d n ≡ Some p → p.change ≡ n) → p.change ≡ n
    go true k h rest = let one : x ≡ p = cc in ap (λ (y : Pending). y.change) (sym one) ∙ number-is x.change n k
    go false k h rest = rest h
number_is n p (Drop m ∷ d) e = go (m == n) e (number_is n p d)
  where
    go : (b : Bool) → option_flatten (option_or (when b (let none : Option Pending = None in none)) (latest (pending_said n) d)) ≡ Some p → (pending d n ≡ Some p → p.change ≡ n) → p.change ≡ n
    go true h rest = absurd cc
    go false h rest = rest h
number_is n p (Land l ∷ d) e = go (l.change == n) e (number_is n p d)
  where
    go : (b : Bool) → option_flatten (option_or (when b (let none : Option Pending = None in none)) (latest (pending_said n) d)) ≡ Some p → (pending d n ≡ Some p → p.change ≡ n) → p.change ≡ n
    go true h rest = absurd cc
    go false h rest = rest h
number_is n p (_ ∷ d) e = number_is n p d e

-- what is told of a change that may be pending
abbrev pub by_pending : List Deed → Caller → ℕ → Option Pending → ModelStep
by_pending d caller n p = elim p [ None ↦ refuses (NoShelf n) | Some x ↦ tells (describe_kept d caller x ∷ []) ]

module _ (all : AllRows) (d : List Deed) (caller : Caller) (n : ℕ) (paths : List (List ℕ)) (found : Option ChangeRecord) (row : Row) (step : Step)
    (are : paths ≡ listable d caller n) (is : row ≡ change_told d n paths found) (made : step ≡ told (row ∷ [])) where
  no_change : row ≡ refusal_row (NoShelf n) → IsMade all d d (refuses (NoShelf n)) step
  no_change why = made_refusal all d d (NoShelf n) row step why made

  landed : (l : Option Landing) → option_map records.Change found ≡ option_map landed_record l → row ≡ refusal_row (NoShelf n)
  landed l at = is ∙ go found l at
    where
      go : (r : Option ChangeRecord) (l : Option Landing) → option_map records.Change r ≡ option_map landed_record l → change_told d n paths r ≡ refusal_row (NoShelf n)
      go None l e = refl
      go (Some r) None e = absurd cc
      go (Some r) (Some l) e =
          let status : r.status ≡ codes "submitted" = ap (λ (t : Option Record). elim t as (λ _. List ℕ) [ Some (records.Change x) ↦ x.status | _ ↦ [] ]) e in
          ap (λ (s : List ℕ). change_told d n paths (Some (record r { status = s }))) status

  opened : (p : Pending) → pending d n ≡ Some p → option_map records.Change found ≡ Some (pending_record p) → row ≡ describe_kept d caller p
  opened p there at = is ∙ go found at
    where
      go : (r : Option ChangeRecord) → option_map records.Change r ≡ Some (pending_record p) → change_told d n paths r ≡ describe_kept d caller p
      go None e = absurd cc
      go (Some r) e =
          let one : r ≡ record { change = p.change; status = codes "pending"; user = p.user; client = p.client; moment = p.moment; text = p.text } =
          ap (λ (t : Option Record). elim t as (λ _. ChangeRecord) [ Some (records.Change x) ↦ x | _ ↦ r ]) e in
          ap (λ (x : ChangeRecord). change_told d n paths (Some x)) one
          ∙ ap (λ (l : List (List ℕ)). change_told d n l (Some (record { change = p.change; status = codes "pending"; user = p.user; client = p.client; moment = p.moment; text = p.text })))
          (are ∙ ap (listable d caller) (sym (number_is n p d there)))

  pub described : option_map records.Change found ≡ change_record d n → IsMade all d d (by_pending d caller n (pending d n)) step
  described at = go (pending d n) refl at
    where
      go : (p : Option Pending) → pending d n ≡ p
          → option_map records.Change found ≡ (elim p as (λ _. Option Record) [ Some x ↦ Some (pending_record x) | None ↦ option_map landed_record (landing d n) ])
          → IsMade all d d (by_pending d caller n p) step
      go None e h = no_change (landed (landing d n) h)
      go (Some p) e h = made_row all d d row (describe_kept d caller p) step (opened p e h) refl made
