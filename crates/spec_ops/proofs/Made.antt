-- The steps of commands that show and save forms.
use Rattle.std.proofs.Common.{◌≡◌, ◌≤◌, ◌<◌, ◌+◌, ◌++◌, get_or, drop, arith, ℕ, true, List, [], ◌∷◌, Option, Some, None, Result, Ok, Err, refl, sym, ap, ◌∙◌, subst, append_assoc, append-nil, add-one, drop-cons}
use Rattle.std.specs.List.{cons_option, list_all}
use Rattle.std.specs.Option.{option_to_list}
use Rattle.std.specs.declared.alloc.AllocError.{AllocError}
use Rattle.std.specs.Prelude.{IfOk, filter_map, map, length, codes, option_map}
use Rattle.std.proofs.lemmas.Bool.{and_parts}
use Rattle.depot_rows.specs.depot_path.Name.{is_name}
use Rattle.depot_rows.specs.spec_form.Form.{FormValue}
use Rattle.depot_rows.specs.table_changes.Changed.{AllRows}
use Rattle.depot_rows.specs.depot_model.declared.reply.Row.{Row}
use Rattle.depot_rows.specs.depot_model.Deeds.{Deed, LabelForm}
use Rattle.depot_rows.specs.depot_model.Latest.{count_name, keys_of, spec, spec_name}
use Rattle.depot_rows.specs.depot_model.Sorted.{inserted}
use Rattle.depot_rows.specs.depot_model.Step.{does}
use Rattle.depot_rows.specs.depot_model.Steps.Clients.{client_row}
use Rattle.depot_rows.specs.depot_model.Steps.Counters.{counter_of, counter_row, counters}
use Rattle.depot_rows.specs.depot_model.Steps.Labels.{label_row, labels, listed}
use Rattle.depot_rows.specs.db_records.declared.rows.CounterRecord.{CounterRecord}
use Rattle.row_reads.specs.Counters.{counters_of, valued}
use Rattle.depot_rows.specs.Effects.{Follow}
use Rattle.depot_rows.specs.declared.deed.Deed.{Deed as Done}
use Rattle.reply_rows.specs.declared.step.Step.{Step}
use Rattle.reply_rows.specs.Made.{IsMade, told}
use Rattle.reply_rows.proofs.Bare.{AreBare, tells_made}
use Rattle.reply_rows.proofs.Joined.{made_done}
use Rattle.spec_ops.specs.Saving.{shown}

-- what a call gives that is told by two clauses
pub if_both : {Q : Step → Type 0} (A P : Step → Type 0) (result : Result Step AllocError) → IfOk result A → IfOk result P → ((step : Step) → A step → P step → Q step) → IfOk result Q
if_both A P (Ok step) first second more = more step first second
if_both A P (Err e) first second more = tt

-- the step of a deed and a row
pub does_made : (all : AllRows) (d : List Deed) (done : Done) (deed : Deed) (row is : Row) (started : Step) (deeds : List Done) → Follow d (done ∷ []) (deed ∷ []) → row ≡ is → is.content ≡ None
    → started ≡ told (row ∷ []) → deeds ≡ started.deeds ++ done ∷ [] → IsMade all d d (does (deed ∷ []) is) (record started { deeds = deeds })
does_made all d done deed row is started deeds follow same bare tells deeds_are =
    made_done all d d (done ∷ []) (deed ∷ []) row is (record started { deeds = deeds }) follow same bare
    (λ i. record { deeds = (deeds_are ∙ ap (λ (s : Step). s.deeds ++ done ∷ []) tells) i; rows = (tells i).rows; stores = (tells i).stores; reads = (tells i).reads })

-- ---- clients and labels

pub client_shown : (name : List ℕ) (form : Option FormValue) → shown (codes "Client") name form ≡ client_row name form
client_shown name None = refl
client_shown name (Some form) = refl

pub client_bare : (name : List ℕ) (form : Option FormValue) → (client_row name form).content ≡ None
client_bare name None = refl
client_bare name (Some form) = refl

pub label_shown : (name : List ℕ) (form : Option FormValue) → shown (codes "Label") name form ≡ label_row name form
label_shown name None = refl
label_shown name (Some form) = refl

pub label_bare : (name : List ℕ) (form : Option FormValue) → (label_row name form).content ≡ None
label_bare name None = refl
label_bare name (Some form) = refl

-- ---- groups

pub first_named : (lines : List (List ℕ)) (line : List ℕ) → 1 ≤ length lines → line ≡ get_or lines 0 line → list_all is_name lines ≡ true → is_name line ≡ true
first_named [] line h e all = absurd (omega arith)
first_named (first ∷ lines) line h e all = ap is_name e ∙ (and_parts (is_name first) (list_all is_name lines) all).0

-- ---- rows of labels

row_bare : (name : List ℕ) (form : Option FormValue) (rows : List Row) → AreBare rows → AreBare (cons_option (option_map (listed name) form) rows)
row_bare name None rows bare = bare
row_bare name (Some form) rows bare = (refl, bare)

labels_bare : (d : List Deed) (names : List (List ℕ)) → AreBare (filter_map (λ name. option_map (listed name) (spec d LabelForm name)) names)
labels_bare d [] = tt
labels_bare d (name ∷ names) = row_bare name (spec d LabelForm name) (filter_map (λ n. option_map (listed n) (spec d LabelForm n)) names) (labels_bare d names)

pub labels_made : (all : AllRows) (d : List Deed) (rows : List Row) → rows ≡ (labels d).rows → IsMade all d d (labels d) (told rows)
labels_made all d rows e =
    subst (λ (r : List Row). IsMade all d d (labels d) (told r)) (sym e) (tells_made all d d (labels d).rows (labels_bare d (keys_of (spec_name LabelForm) d)))

with_next : (rows : List Row) (row : Option Row) (more : List Row) → (rows ++ option_to_list row) ++ more ≡ rows ++ cons_option row more
with_next rows None more = ap (λ (r : List Row). r ++ more) (append-nil rows)
with_next rows (Some row) more = append_assoc rows (row ∷ []) more

-- the row of one name more, if there is one
pub row_moved : (f : List ℕ → Option Row) (rows new : List Row) (names : List (List ℕ)) (i : ℕ) (name : List ℕ) → i < length names → name ≡ get_or names i name
    → new ≡ rows ++ option_to_list (f name) → new ++ filter_map f (drop (i + 1) names) ≡ rows ++ filter_map f (drop i names)
row_moved f rows new names i name within is told =
    ap (λ (r : List Row). r ++ filter_map f (drop (i + 1) names)) told ∙ with_next rows (f name) (filter_map f (drop (i + 1) names))
    ∙ ap (λ (l : List (List ℕ)). rows ++ filter_map f l) (sym (drop-cons names i name within ∙ (λ j. sym is j ∷ drop (sym (add-one i) j) names)))

-- ---- rows of counters

counter_bare : (name : List ℕ) (value : Option ℕ) (rows : List Row) → AreBare rows → AreBare (cons_option (option_map (counter_row name) value) rows)
counter_bare name None rows bare = bare
counter_bare name (Some n) rows bare = (refl, bare)

counters_bare : (d : List Deed) (names : List (List ℕ)) → AreBare (filter_map (λ name. option_map (counter_row name) (counter_of d name)) names)
counters_bare d [] = tt
counters_bare d (name ∷ names) =
    counter_bare name (counter_of d name) (filter_map (λ n. option_map (counter_row n) (counter_of d n)) names) (counters_bare d names)

first_row : (name : List ℕ) (value : Option ℕ) (counted : List CounterRecord) (rows : List Row) → map (λ (c : CounterRecord). counter_row c.name c.value) counted ≡ rows
    → map (λ (c : CounterRecord). counter_row c.name c.value) (cons_option (option_map (valued name) value) counted) ≡ cons_option (option_map (counter_row name) value) rows
first_row name None counted rows e = e
first_row name (Some n) counted rows e = ap (λ (r : List Row). counter_row name n ∷ r) e

all_rows : (d : List Deed) (names : List (List ℕ)) → map (λ (c : CounterRecord). counter_row c.name c.value) (filter_map (λ name. option_map (valued name) (counter_of d name)) names)
    ≡ filter_map (λ name. option_map (counter_row name) (counter_of d name)) names
all_rows d [] = refl
all_rows d (name ∷ names) =
    first_row name (counter_of d name) (filter_map (λ n. option_map (valued n) (counter_of d n)) names) (filter_map (λ n. option_map (counter_row n) (counter_of d n)) names) (all_rows d names)

pub counters_made : (all : AllRows) (d : List Deed) (rows : List Row) → rows ≡ map (λ (c : CounterRecord). counter_row c.name c.value) (counters_of d)
    → IsMade all d d (counters d) (told rows)
counters_made all d rows e =
    let names = inserted (codes "change") (keys_of count_name d) in
    subst (λ (r : List Row). IsMade all d d (counters d) (told r)) (sym (e ∙ all_rows d names)) (tells_made all d d (counters d).rows (counters_bare d names))
