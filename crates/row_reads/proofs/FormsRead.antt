-- The row of a saved form has the form, and the rows of forms have their names.
use Rattle.std.proofs.Common.{◌≡◌, ℕ, Bool, true, false, ◌&&◌, ◌⊎◌, inl, inr, List, [], ◌∷◌, Option, Some, None, Ok, refl, sym, ap, ◌∙◌, subst}
use Rattle.std.specs.Prelude.{IfSome, filter, if◌then◌else◌, is_some, option_map}
use Rattle.std.specs.List.{list_any}
use Rattle.std.specs.Borrow.{Bor}
use Rattle.std.specs.Option.{option_copied, option_map_or, option_or}
use Rattle.std.specs.Result.{result_ok}
use Rattle.std.specs.Cmp.Lexicographic.{slice_cmp}
use Rattle.std.specs.Ordering.{nat_cmp}
use Rattle.std.specs.declared.cmp.Ordering.TheVariants.{Equal}
use Rattle.depot_rows.specs.depot_path.Bytes.{same}
use Rattle.depot_rows.specs.spec_form.Form.{FormValue}
use Rattle.depot_rows.specs.spec_form.Printing.{printed_form}
use Rattle.depot_rows.specs.spec_form.Reading.{form_of}
use Rattle.depot_rows.specs.spec_form.declared.shape.Shape.{Shape}
use Rattle.depot_rows.specs.db_records.Key.{key_cmp, key_table}
use Rattle.depot_rows.specs.db_records.Record.{key_of}
use Rattle.depot_rows.specs.db_records.declared.key.Key.{Key}
use Rattle.depot_rows.specs.db_records.declared.key.Key.TheVariants as keys
use Rattle.depot_rows.specs.db_records.declared.record.Record.{Record}
use Rattle.depot_rows.specs.db_records.declared.record.Record.TheVariants as records
use Rattle.depot_rows.specs.db_records.declared.table.TableId.{TableId}
use Rattle.depot_rows.specs.db_records.declared.table.TableId.TheVariants as tables
use Rattle.depot_rows.proofs.db_records.Order.{keys_equal}
use Rattle.row_ranges.specs.Ranges.{has_row, is_in}
use Rattle.row_ranges.specs.declared.range.KeyRange.TheVariants.{Forms}
use Rattle.depot_rows.specs.table_store.Rows.{AllOfTable, IsRising, TableRows, row_at}
use Rattle.depot_rows.specs.depot_model.Deeds as deeds
use Rattle.depot_rows.specs.depot_model.Deeds.{Deed, SpecKind, ClientForm, LabelForm, ShelfForm, JobForm, FixForm}
use Rattle.depot_rows.specs.depot_model.Latest.{keys_of, kind_word, same_kind, spec, spec_name, spec_said}
use Rattle.depot_rows.specs.depot_model.Records.{record_of, shape_of, unplaced}
use Rattle.depot_rows.specs.depot_model.Rules.{IsSound, IsSpelled}
use Rattle.depot_rows.specs.depot_model.Sorted.{inserted}
use Rattle.depot_rows.specs.depot_model.Steps.Labels.{is_locked_form}
use Rattle.depot_rows.specs.Standing.{unplaced_at}
use Rattle.row_reads.specs.Forms.{form_in, name_in, names_in}
use Rattle.row_reads.proofs.Alike.{unplaced_row}
use Rattle.row_reads.proofs.GroupsListed.{same_text, same_self}
use Rattle.row_reads.proofs.Named.{AllAre, AreRising, all_are, inserted_are, inserted_lacks, inserted_rise, names_read, rows_are, tied_then}

placed : (shape : Shape) (row : Option Record) → form_in shape (option_map unplaced row) ≡ form_in shape row
placed shape None = refl
placed shape (Some (records.Domain r)) = refl
placed shape (Some (records.Rev r)) = refl
placed shape (Some (records.Counter r)) = refl
placed shape (Some (records.Group r)) = refl
placed shape (Some (records.Protect r)) = refl
placed shape (Some (records.Have r)) = refl
placed shape (Some (records.Label r)) = refl
placed shape (Some (records.Integed r)) = refl
placed shape (Some (records.Resolve r)) = refl
placed shape (Some (records.Working r)) = refl
placed shape (Some (records.Change r)) = refl

-- the row of a saved form
abbrev form_row : List ℕ → List ℕ → Option FormValue → Option Record
form_row word name form = option_map (λ text. records.Domain (record { kind = word; name = name; form = text })) (option_map printed_form form)

abbrev said : SpecKind → List Deed → List ℕ → Option Record
said kind d name = form_row (kind_word kind) name (spec d kind name)

-- the word of a kind is its own
row_is : (kind : SpecKind) (d : List Deed) (name : List ℕ) → record_of d (keys.Domain (kind_word kind) name) ≡ said kind d name
row_is ClientForm d name = refl
row_is LabelForm d name = refl
row_is ShelfForm d name = refl
row_is JobForm d name = refl
row_is FixForm d name = refl

of_form : (kind : SpecKind) (name : List ℕ) (form : Option FormValue) → IfSome form (IsSpelled kind)
    → form_in (shape_of kind) (form_row (kind_word kind) name form) ≡ form
of_form kind name None h = refl
of_form kind name (Some form) h =
    let shaped : form_of (shape_of kind) (printed_form form) ≡ Ok form = let P : Shape → Type 0 = λ s. form_of s (printed_form form) ≡ Ok form in subst P h.0 h.1 in
    ap (λ read. result_ok read) shaped

pub form_read : (kind : SpecKind) (d : List Deed) (name : List ℕ) (row : Option Record) → IsSound d
    → option_map unplaced row ≡ record_of d (keys.Domain (kind_word kind) name) → form_in (shape_of kind) row ≡ spec d kind name
form_read kind d name row sound is =
    sym (placed (shape_of kind) row) ∙ ap (form_in (shape_of kind)) (is ∙ row_is kind d name) ∙ of_form kind name (spec d kind name) (sound.forms_read kind name)

still_there : (row : Option Record) → is_some (option_map unplaced row) ≡ is_some row
still_there None = refl
still_there (Some r) = refl

pub told_some : (row : Option (Bor Record)) (found : Bool) → found ≡ is_some row → found ≡ is_some (option_copied row)
told_some None found e = e
told_some (Some r) found e = e

row_there : (word name : List ℕ) (form : Option FormValue) → is_some (form_row word name form) ≡ is_some form
row_there word name None = refl
row_there word name (Some form) = refl

pub form_there : (kind : SpecKind) (d : List Deed) (name : List ℕ) (row : Option Record)
    → option_map unplaced row ≡ record_of d (keys.Domain (kind_word kind) name) → is_some row ≡ is_some (spec d kind name)
form_there kind d name row is =
    sym (still_there row) ∙ ap is_some (is ∙ row_is kind d name) ∙ row_there (kind_word kind) name (spec d kind name)

-- ---- the names

module _ (kind : SpecKind) where
  abbrev word : List ℕ
  word = kind_word kind

  own : (form : Option FormValue) (x : List ℕ) (r : Record) → form_row word x form ≡ Some r
      → (text : List ℕ) × (r ≡ records.Domain (record { kind = word; name = x; form = text }))
  own None x r e = absurd cc
  own (Some form) x r e = let h : records.Domain (record { kind = word; name = x; form = printed_form form }) ≡ r = cc in (printed_form form, sym h)

  -- names with one more, if so
  abbrev with_if : Bool → List ℕ → List (List ℕ) → List (List ℕ)
  with_if c n keys = option_map_or inserted (if c then Some n else None) (λ keys. keys) keys

  -- a name under which no form is saved has none
  unsaved_here : (x n : List ℕ) (form : FormValue) (rest : Option FormValue) (b : Bool) → same n x ≡ b → same x n ≡ false → rest ≡ None → (c : Bool)
      → option_or (if c && b then Some form else None) rest ≡ None
  unsaved_here x n form rest b e k more false = more
  unsaved_here x n form rest false e k more true = more
  unsaved_here x n form rest true e k more true =
      absurd (let P : List ℕ → Type 0 = λ z. same x z ≡ true in let h : true ≡ false = sym (subst P (sym (same_text n x e)) (same_self x)) ∙ k in cc)

  other_kind : (x n : List ℕ) (form : FormValue) (d : List Deed) (keys : List (List ℕ)) (c : Bool)
      → list_any (same x) (with_if c n keys) ≡ false
      → (list_any (same x) keys ≡ false → spec d kind x ≡ None) → option_or (if c && same n x then Some form else None) (spec d kind x) ≡ None
  other_kind x n form d keys false lacks more = more lacks
  other_kind x n form d keys true lacks more =
      let h = inserted_lacks x n keys lacks in unsaved_here x n form (spec d kind x) (same n x) refl h.0 (more h.1) true

  unsaved : (x : List ℕ) (d : List Deed) → list_any (same x) (keys_of (spec_name kind) d) ≡ false → spec d kind x ≡ None
  unsaved x [] lacks = refl
  unsaved x (deeds.Spec k n form ∷ d) lacks = other_kind x n form d (keys_of (spec_name kind) d) (same_kind k kind) lacks (unsaved x d)
  unsaved x (_ ∷ d) lacks = unsaved x d lacks

  rise_if : (n : List ℕ) (keys : List (List ℕ)) (c : Bool) → AreRising keys → AreRising (with_if c n keys)
  rise_if n keys false up = up
  rise_if n keys true up = inserted_rise n keys up

  names_rise : (d : List Deed) → AreRising (keys_of (spec_name kind) d)
  names_rise [] = tt
  names_rise (deeds.Spec k n form ∷ d) = rise_if n (keys_of (spec_name kind) d) (same_kind k kind) (names_rise d)
  names_rise (_ ∷ d) = names_rise d

  -- each of the names has a form
  abbrev IsSaved : List Deed → List ℕ → Type 0
  IsSaved d x = (form : FormValue) × (spec d kind x ≡ Some form)

  still : (one : Option FormValue) (rest : Option FormValue) → ((form : FormValue) × (rest ≡ Some form)) → (form : FormValue) × (option_or one rest ≡ Some form)
  still None rest h = h
  still (Some form) rest h = (form, refl)

  saved_if : (n : List ℕ) (form : FormValue) (d : List Deed) (k : SpecKind) (c : Bool) → same_kind k kind ≡ c → AllAre (IsSaved d) (keys_of (spec_name kind) d)
      → AllAre (IsSaved (deeds.Spec k n form ∷ d)) (with_if c n (keys_of (spec_name kind) d))
  saved_if n form d k c e all =
      let later : AllAre (IsSaved (deeds.Spec k n form ∷ d)) (keys_of (spec_name kind) d) =
      all_are (IsSaved d) (IsSaved (deeds.Spec k n form ∷ d)) (λ x h. still (spec_said kind x (deeds.Spec k n form)) (spec d kind x) h) (keys_of (spec_name kind) d) all in
      elim c as (λ b. same_kind k kind ≡ b → AllAre (IsSaved (deeds.Spec k n form ∷ d)) (with_if b n (keys_of (spec_name kind) d))) [
        | false ↦ λ e. later
        | true ↦ λ e. inserted_are (IsSaved (deeds.Spec k n form ∷ d)) n (keys_of (spec_name kind) d)
            (form, ap (λ b. option_or (if b && same n n then Some form else None) (spec d kind n)) e ∙ ap (λ b. option_or (if b then Some form else None) (spec d kind n)) (same_self n)) later
      ] e

  all_saved : (d : List Deed) → AllAre (IsSaved d) (keys_of (spec_name kind) d)
  all_saved [] = tt
  all_saved (deeds.Spec k n form ∷ d) = saved_if n form d k (same_kind k kind) refl (all_saved d)
  all_saved (_ ∷ d) = all_saved d

  abbrev HasRow : List Deed → List ℕ → Type 0
  HasRow d x = (r : Record) × (said kind d x ≡ Some r)

  have_rows : (d : List Deed) → AllAre (HasRow d) (keys_of (spec_name kind) d)
  have_rows d = all_are (IsSaved d) (HasRow d) (λ x h. (records.Domain (record { kind = word; name = x; form = printed_form h.0 }), ap (form_row word x) h.1)) (keys_of (spec_name kind) d) (all_saved d)

  -- the keys of the range
  of_word : (a b : List ℕ) (c : Bool) → same word a ≡ c
      → ((x : List ℕ) × (keys.Domain a b ≡ keys.Domain word x)) ⊎ ((r : Record) → has_row (Forms word) r ≡ true → key_cmp (key_of r) (keys.Domain a b) ≡ Equal → ⊥)
  of_word a b true e = inl (b, ap (λ w. keys.Domain w b) (sym (same_text word a e)))
  of_word a b false e = inr (λ r is k.
      let one : key_of r ≡ keys.Domain a b = (keys_equal (key_of r) (keys.Domain a b)).0 k in
      let P : Key → Type 0 = λ q. is_in (Forms word) q ≡ true in
      let h : (same word a && true) ≡ true = subst P one is in
      let g : (false && true) ≡ true = sym (ap (λ b. b && true) e) ∙ h in
      cc)

  known : (q : Key) → key_table q ≡ tables.Domain
      → ((x : List ℕ) × (q ≡ keys.Domain word x)) ⊎ ((r : Record) → has_row (Forms word) r ≡ true → key_cmp (key_of r) q ≡ Equal → ⊥)
  known (keys.Domain a b) k = of_word a b (same word a) refl
  known (keys.Counter name) k = absurd cc
  known (keys.Group a b) k = absurd cc
  known (keys.Protect n) k = absurd cc
  known (keys.Have a b) k = absurd cc
  known (keys.Label a b) k = absurd cc
  known (keys.Integed a b x y u v how change) k = absurd cc
  known (keys.Resolve a b x) k = absurd cc
  known (keys.Working a b) k = absurd cc
  known (keys.Change n) k = absurd cc
  known (keys.Rev a n) k = absurd cc

  compared : (a b : List ℕ) → key_cmp (keys.Domain word a) (keys.Domain word b) ≡ slice_cmp nat_cmp a b
  compared a b = tied_then word a b

  in_range : (x text : List ℕ) → has_row (Forms word) (records.Domain (record { kind = word; name = x; form = text })) ≡ true
  in_range x text = ap (λ b. b && true) (same_self word)

  module _ (d : List Deed) (rows : List Record) (up : IsRising rows) (of : AllOfTable tables.Domain rows) (has : (x : List ℕ) → row_at (keys.Domain word x) rows ≡ said kind d x) where
    pub names_are : names_in (filter (has_row (Forms word)) rows) ≡ keys_of (spec_name kind) d
    names_are =
        let key_is : (x : List ℕ) (r : Record) → said kind d x ≡ Some r → key_of r ≡ keys.Domain word x = λ x r e.
        let is = own (spec d kind x) x r e in let P : Record → Type 0 = λ s. key_of s ≡ keys.Domain word x in subst P (sym is.1) refl in
        ap (λ rs. names_in rs)
        (rows_are (keys.Domain word) compared (said kind d) key_is tables.Domain (λ x. refl) (has_row (Forms word))
        (λ x r e. let is = own (spec d kind x) x r e in let P : Record → Type 0 = λ s. has_row (Forms word) s ≡ true in subst P (sym is.1) (in_range x is.0))
        known rows up of (keys_of (spec_name kind) d) (names_rise d) (λ x lacks. ap (form_row word x) (unsaved x d lacks)) has)
        ∙ names_read (keys.Domain word) compared (said kind d) key_is name_in
        (λ x r e. let is = own (spec d kind x) x r e in let P : Record → Type 0 = λ s. name_in s ≡ x ∷ [] in subst P (sym is.1) refl)
        (keys_of (spec_name kind) d) (have_rows d)

pub names_told : (kind : SpecKind) (version : TableRows) (rows : List Record) → version.rows ≡ rows → version.table ≡ tables.Domain → AllOfTable version.table version.rows
    → IsRising version.rows → (d : List Deed) → ((key : Key) → key_table key ≡ tables.Domain → unplaced_at rows key ≡ record_of d key)
    → names_in (filter (has_row (Forms (kind_word kind))) rows) ≡ keys_of (spec_name kind) d
names_told kind version rows are is of up d has =
    let P : TableId → Type 0 = λ t. AllOfTable t rows in
    let Q : List Record → Type 0 = λ rs. AllOfTable version.table rs in
    let ours : AllOfTable tables.Domain rows = subst P is (subst Q are of) in
    names_are kind d rows (subst IsRising are up) ours
    (λ x. sym (unplaced_row tables.Domain (λ e. cc) rows ours (keys.Domain (kind_word kind) x)) ∙ has (keys.Domain (kind_word kind) x) refl ∙ row_is kind d x)

-- ---- locked labels

pub locked_by : (form : Option FormValue) → option_map_or is_locked_form form false ≡ elim form [ None ↦ false | Some f ↦ is_locked_form f ]
locked_by None = refl
locked_by (Some form) = refl
