-- A change that is saved, by what it is refused and what is done.
use Rattle.std.proofs.Common.{◌≡◌, ◌≤◌, ℕ, Bool, true, false, ◌+◌, List, [], ◌∷◌, ◌++◌, Option, Some, None, refl, sym, ap, ◌∙◌, length, arith, drop, get_or, take, append_assoc, Result, Ok, Err}
use Rattle.std.specs.Prelude.{◌-◌, IsSome, if◌then◌else◌, is_ok, is_some, map, nat_lt, not, option_map, unwrap_or, codes}
use Rattle.std.proofs.lemmas.Bool.{true≢false}
use Rattle.std.proofs.lemmas.Bool.Decides.{nat_tests}
use Rattle.std.proofs.lemmas.Grind.{common_steps}
use Rattle.depot_rows.specs.depot_path.Path.{path_of}
use Rattle.depot_rows.specs.depot_path.declared.fault.PathFault.{PathFault}
use Rattle.opening_reads.specs.Read.{path_in_text}
use Rattle.depot_rows.specs.db_records.declared.key.Key.TheVariants as keys
use Rattle.depot_rows.specs.spec_form.Form.{FormValue, lines_of}
use Rattle.depot_rows.specs.spec_form.Places.{field_place, line_place}
use Rattle.depot_rows.specs.depot_model.declared.refusal.Limit.TheVariants.{Text, Change, Files}
use Rattle.depot_rows.specs.depot_model.declared.refusal.Refusal.{Refusal}
use Rattle.depot_rows.specs.depot_model.declared.refusal.Refusal.TheVariants.{BadForm, NoSuchChange, NotYours, OverLimit}
use Rattle.depot_rows.specs.depot_model.declared.reply.Row.{Row}
use Rattle.depot_rows.specs.depot_model.declared.request.Caller.{Caller}
use Rattle.depot_rows.specs.depot_model.declared.request.Request.{Request}
use Rattle.depot_rows.specs.depot_model.Deeds.{Deed, Pending}
use Rattle.depot_rows.specs.depot_model.Numbers.{pending, top}
use Rattle.depot_rows.specs.depot_model.Records.{record_of}
use Rattle.depot_rows.specs.depot_model.Refusals.{refusal_row}
use Rattle.depot_rows.specs.depot_model.Rules.{IsSound}
use Rattle.depot_rows.specs.depot_model.Step.{Step as ModelStep, refuse_if, unless}
use Rattle.depot_rows.specs.depot_model.Steps.Changing.{bad_lines, change_form, form_number, form_text, has_number, listed_path, listed_paths, not_open, path_before_tab, saved}
use Rattle.depot_rows.specs.depot_model.Steps.Opening.{is_of}
use Rattle.depot_rows.specs.Effects.{is_submitted}
use Rattle.depot_rows.proofs.Allowed.{new_change, pending_change}
use Rattle.reply_rows.specs.Refusing.{first_of}
use Rattle.change_lists.specs.Lines.{first_bad}
use Rattle.change_lists.specs.Saving.{file_refusals, limit_refusals, with_limits}

-- tests in two parts
pub unless_on : (tests more : List (Option Refusal)) (own : ModelStep) → unless (tests ++ more) own ≡ unless tests (unless more own)
unless_on [] more own = refl
unless_on (None ∷ tests) more own = unless_on tests more own
unless_on (Some why ∷ tests) more own = refl

-- the first line that is no path is the first that is refused
abbrev pub line_refusal : List ℕ → ℕ → Refusal
line_refusal input k = BadForm (line_place input (codes "Files") k)

pub bad_is : (input : List ℕ) (k : ℕ) (lines : List (List ℕ)) → option_map (line_refusal input) (first_bad k lines) ≡ first_of (bad_lines input k lines)
bad_is input k [] = refl
bad_is input k (line ∷ lines) = go (is_ok (path_of (path_before_tab line))) (bad_is input (k + 1) lines)
  where
    go : (b : Bool) → option_map (line_refusal input) (first_bad (k + 1) lines) ≡ first_of (bad_lines input (k + 1) lines)
        → option_map (line_refusal input) (if b then first_bad (k + 1) lines else Some k) ≡ first_of (refuse_if (not b) (line_refusal input k) ∷ bad_lines input (k + 1) lines)
    go true more = more
    go false more = refl

abbrev pub number_refusal : List ℕ → FormValue → Option Refusal
number_refusal input form = refuse_if (not (has_number form)) (BadForm (field_place input (codes "Change")))

abbrev pub front : List ℕ → FormValue → List (Option Refusal)
front input form = number_refusal input form ∷ bad_lines input 0 (lines_of form (codes "Files"))

-- what is done where the form itself isn't refused
abbrev pub behind : List Deed → Request → FormValue → ModelStep
behind d request form =
    unless (file_refusals d request.caller (form_number form) (listed_paths form)) (with_limits d request (form_number form) (form_text form) (listed_paths form))

pub form_is : (d : List Deed) (request : Request) (input : List ℕ) (form : FormValue) → change_form d request input form ≡ unless (front input form) (behind d request form)
form_is d request input form =
    let n = unwrap_or (form_number form) (top d + 1) in
    let limits = limit_refusals (length (form_text form)) n (length (listed_paths form)) in
    let files = file_refusals d request.caller (form_number form) (listed_paths form) in
    unless_on (front input form ++ files) limits (saved d request form n) ∙ unless_on (front input form) files (unless limits (saved d request form n))

-- a change that may be saved isn't submitted
pub unlanded : (d : List Deed) (caller : Caller) (number : Option ℕ) (paths : List (List ℕ)) → IsSound d → first_of (file_refusals d caller number paths) ≡ None
    → is_submitted (record_of d (keys.Change (unwrap_or number (top d + 1)))) ≡ false
unlanded d caller None paths sound is = new_change d (top d + 1) sound (omega arith)
unlanded d caller (Some n) paths sound is = pending_change d n (go (pending d n) is)
  where
    go : (p : Option Pending)
        → first_of ((elim p as (λ _. Option Refusal) [ None ↦ Some (NoSuchChange n) | Some x ↦ refuse_if (not (is_of caller x)) (NotYours n) ]) ∷ map (not_open d caller) paths) ≡ None → IsSome p
    go None e = absurd cc
    go (Some p) e = refl

-- within the limits the number is small
pub small_number : (text n files : ℕ) → None ≡ option_map refusal_row (first_of (limit_refusals text n files)) → n ≤ 2147483647
small_number text n files is = go (nat_lt 65536 text) (nat_lt 2147483647 n) refl is
  where
    go : (a b : Bool) → nat_lt 2147483647 n ≡ b → None ≡ option_map refusal_row (first_of (refuse_if a (OverLimit Text) ∷ refuse_if b (OverLimit Change) ∷ refuse_if (nat_lt 10000 files) (OverLimit Files) ∷ []))
        → n ≤ 2147483647
    go true b e k = absurd cc
    go false true e k = absurd cc
    go false false e k = grind (arith, nat_tests)

-- no refusal has no row
pub none_refused : (tests : List (Option Refusal)) → None ≡ option_map refusal_row (first_of tests) → first_of tests ≡ None
none_refused tests is = go (first_of tests) is
  where
    go : (o : Option Refusal) → None ≡ option_map refusal_row o → o ≡ None
    go None e = refl
    go (Some why) e = absurd cc

-- where the form has a number, its first bad line is its first refusal
pub front_is : (input : List ℕ) (form : FormValue) → has_number form ≡ true → first_of (front input form) ≡ option_map (line_refusal input) (first_bad 0 (lines_of form (codes "Files")))
front_is input form numbered =
    ap (λ (b : Bool). first_of (refuse_if (not b) (BadForm (field_place input (codes "Change"))) ∷ bad_lines input 0 (lines_of form (codes "Files")))) numbered
    ∙ sym (bad_is input 0 (lines_of form (codes "Files")))

-- ---- the first file that isn't opened

all_but_first : (first : List ℕ) (items : List (List ℕ)) → take (length (first ∷ items) - 1) (drop 1 (first ∷ items)) ≡ items
all_but_first first items = grind (arith, common_steps)

pub first_here : (f : List ℕ → Option Refusal) (items : List (List ℕ)) (item : List ℕ) (row : Option Row) → 1 ≤ length items → item ≡ get_or items 0 item
    → row ≡ option_map refusal_row (f item) → is_some row ≡ true → row ≡ option_map refusal_row (first_of (map f items))
first_here f [] item row some first is there = absurd (omega arith)
first_here f (x ∷ items) item row some first is there = go (f x) (is ∙ ap (λ (y : List ℕ). option_map refusal_row (f y)) first)
  where
    go : (o : Option Refusal) → row ≡ option_map refusal_row o → row ≡ option_map refusal_row (first_of (o ∷ map f items))
    go None e = absurd (true≢false (sym there ∙ ap is_some e))
    go (Some why) e = e

pub first_on : (f : List ℕ → Option Refusal) (items : List (List ℕ)) (item : List ℕ) (row : Option Row) → 1 ≤ length items → item ≡ get_or items 0 item
    → row ≡ option_map refusal_row (f item) → is_some row ≡ false → first_of (map f (take (length items - 1) (drop 1 items))) ≡ first_of (map f items)
first_on f [] item row some first is gone = absurd (omega arith)
first_on f (x ∷ items) item row some first is gone =
    ap (λ (l : List (List ℕ)). first_of (map f l)) (all_but_first x items) ∙ go (f x) (is ∙ ap (λ (y : List ℕ). option_map refusal_row (f y)) first)
  where
    go : (o : Option Refusal) → row ≡ option_map refusal_row o → first_of (map f items) ≡ first_of (o ∷ map f items)
    go None e = refl
    go (Some why) e = absurd (true≢false (sym (ap is_some e) ∙ gone))

-- ---- lines of files

pub bad_here : (k : ℕ) (items : List (List ℕ)) (item : List ℕ) → 1 ≤ length items → item ≡ get_or items 0 item → None ≡ path_in_text (path_before_tab item)
    → Some k ≡ first_bad k items
bad_here k [] item some first none = absurd (omega arith)
bad_here k (x ∷ items) item some first none = go (path_of (path_before_tab x)) (none ∙ ap (λ (y : List ℕ). path_in_text (path_before_tab y)) first)
  where
    go : (r : Result (List ℕ) PathFault) → None ≡ (elim r as (λ _. Option (List ℕ)) [ Err fault ↦ None | Ok path ↦ Some path ]) → Some k ≡ (if is_ok r then first_bad (k + 1) items else Some k)
    go (Err fault) e = refl
    go (Ok path) e = absurd cc

pub good_on : (k : ℕ) (items : List (List ℕ)) (item path : List ℕ) → 1 ≤ length items → item ≡ get_or items 0 item → Some path ≡ path_in_text (path_before_tab item)
    → first_bad (k + 1) (take (length items - 1) (drop 1 items)) ≡ first_bad k items
good_on k [] item path some first found = absurd (omega arith)
good_on k (x ∷ items) item path some first found =
    ap (first_bad (k + 1)) (all_but_first x items) ∙ go (path_of (path_before_tab x)) (found ∙ ap (λ (y : List ℕ). path_in_text (path_before_tab y)) first)
  where
    go : (r : Result (List ℕ) PathFault) → Some path ≡ (elim r as (λ _. Option (List ℕ)) [ Err fault ↦ None | Ok path ↦ Some path ]) → first_bad (k + 1) items ≡ (if is_ok r then first_bad (k + 1) items else Some k)
    go (Err fault) e = absurd cc
    go (Ok path) e = refl

pub read_on : (done new items : List (List ℕ)) (item path : List ℕ) → 1 ≤ length items → item ≡ get_or items 0 item → Some path ≡ path_in_text (path_before_tab item)
    → new ≡ done ++ path ∷ [] → new ++ map listed_path (take (length items - 1) (drop 1 items)) ≡ done ++ map listed_path items
read_on done new [] item path some first found is = absurd (omega arith)
read_on done new (x ∷ items) item path some first found is =
    ap (λ (l : List (List ℕ)). new ++ map listed_path l) (all_but_first x items) ∙ ap (λ (l : List (List ℕ)). l ++ map listed_path items) is
    ∙ append_assoc done (path ∷ []) (map listed_path items)
    ∙ ap (λ (p : List ℕ). done ++ p ∷ map listed_path items) (go (path_of (path_before_tab x)) (found ∙ ap (λ (y : List ℕ). path_in_text (path_before_tab y)) first))
  where
    go : (r : Result (List ℕ) PathFault) → Some path ≡ (elim r as (λ _. Option (List ℕ)) [ Err fault ↦ None | Ok path ↦ Some path ])
        → path ≡ (elim r as (λ _. List ℕ) [ Err fault ↦ [] | Ok path ↦ path ])
    go (Err fault) e = absurd cc
    go (Ok p) e = cc
