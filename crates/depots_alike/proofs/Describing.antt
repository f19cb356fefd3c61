-- change -i, and describe.
use Rattle.std.proofs.Common.{◌≡◌, ℕ, ◌+◌, suc, Bool, true, false, not, List, [], ◌∷◌, ◌++◌, length, map, Option, Some, None, Ok, Err, refl, sym, ap, ◌∙◌}
use Rattle.std.specs.Prelude.{◌==◌, nat_lt, codes, if◌then◌else◌, filter, filter_map, find, flat_map, is_none, option_map, option_and_then, unwrap_or}
use Rattle.std.specs.List.{enumerate_from}
use Rattle.depot_rows.specs.spec_form.Form.{FormValue, lines_of}
use Rattle.depot_rows.specs.spec_form.Places.{field_place}
use Rattle.depot_rows.specs.spec_form.Reading.{form_of}
use Rattle.depot_rows.specs.spec_form.declared.shape.Shape.TheVariants.{Change as ChangeShape}
use Rattle.depot_rows.specs.depot_path.Path.{printed}
use Rattle.depot_rows.specs.depot_model.declared.refusal.Limit.TheVariants.{Text, Change, Files}
use Rattle.depot_rows.specs.depot_model.declared.refusal.Refusal.TheVariants.{BadForm, NotOpen, OverLimit, NoSuchChange}
use Rattle.depot_rows.specs.depot_model.declared.request.Caller.{Caller}
use Rattle.depot_rows.specs.depot_model.declared.request.Request.{Request}
use Rattle.depot_rows.specs.depot_model.Asking.{may_list}
use Rattle.depot_rows.specs.depot_model.Deeds.{Deed, Open, Pend, Opening, Pending, Landing}
use Rattle.depot_rows.specs.depot_model.Numbers.{landing}
use Rattle.depot_rows.specs.depot_model.Revisions.{Revision, revisions}
use Rattle.depot_rows.specs.depot_model.Rows.{row, number_field, text_field}
use Rattle.depot_rows.specs.depot_model.Step.{Step, tells, does, refuses, unless, refuse_if}
use Rattle.depot_rows.specs.depot_model.Steps.Changing.{form_number, form_text, has_number, bad_lines, listed_paths, not_open, moved_to, change_form, change_save, files_of_change}
use Rattle.depot_rows.specs.depot_model.Steps.History.{numbered_from, describe_fields, change_fields, made_in, landed_files, describe_landed, describe_pending, describe}
use Rattle.depot_rows.specs.depot_model.Steps.Listing.{Numbered}
use Rattle.depot_rows.specs.depot_model.Steps.Opening.{change_refusal}
use Rattle.depot_facts.specs.Contents.{bare, seen}
use Rattle.depots_alike.proofs.Changes.{files_of_change_same}
use Rattle.depots_alike.proofs.Choosing.{may_list_same}
use Rattle.depots_alike.proofs.Files.{seen_number}
use Rattle.depots_alike.proofs.Revisions.{revisions_same}
use Rattle.depots_alike.proofs.Searches.{opened_same, top_same, pending_same, landing_same}
use Rattle.depots_alike.proofs.Simple.{change_refusal_same}
use Rattle.depots_alike.proofs.Twins.{Twins}
use Rattle.depots_alike.proofs.Alike.{alike_of}

-- ---- change -i

module _ (d e : List Deed) (twins : Twins d e) (request : Request) where
  asked_same : (number : Option ℕ) → option_and_then (change_refusal d request.caller) number ≡ option_and_then (change_refusal e request.caller) number
  asked_same None = refl
  asked_same (Some n) = change_refusal_same d e twins request.caller n

  not_open_same : (path : List ℕ) → not_open d request.caller path ≡ not_open e request.caller path
  not_open_same path = ap (λ (o : Option Opening). refuse_if (is_none o) (NotOpen (printed path))) (opened_same d e twins request.caller.client path)

  moved_to_same : (n : ℕ) (path : List ℕ) → moved_to n d request.caller path ≡ moved_to n e request.caller path
  moved_to_same n path = ap (option_map (λ (o : Opening). Open (record o { change = n }))) (opened_same d e twins request.caller.client path)

  form_same : (input : List ℕ) (form : FormValue) → change_form d request input form ≡ change_form e request input form
  form_same input form = λ i. unless (
      refuse_if (not (has_number form)) (BadForm (field_place input (codes "Change")))
      ∷ bad_lines input 0 (lines_of form (codes "Files"))
      ++ asked_same (form_number form) i
      ∷ map (λ path. not_open_same path i) (listed_paths form)
      ++ refuse_if (nat_lt 65536 (length (form_text form))) (OverLimit Text)
      ∷ refuse_if (nat_lt 2147483647 (unwrap_or (form_number form) (top_same d e twins i + 1))) (OverLimit Change)
      ∷ refuse_if (nat_lt 10000 (length (listed_paths form))) (OverLimit Files)
      ∷ [])
      (does (
      Pend (record {
        change = unwrap_or (form_number form) (top_same d e twins i + 1);
        user = request.caller.user;
        client = request.caller.client;
        moment = request.moment;
        text = form_text form;
      })
      ∷ filter_map (λ path. moved_to_same (unwrap_or (form_number form) (top_same d e twins i + 1)) path i) (listed_paths form))
      (row (number_field (codes "Change") (unwrap_or (form_number form) (top_same d e twins i + 1)) ∷ text_field (codes "action") (codes "saved") ∷ [])))

  pub change_save_same : (input : List ℕ) → change_save d request input ≡ change_save e request input
  change_save_same input = λ i. elim (form_of ChangeShape input) as (λ _. Step) [ Err fault ↦ refuses (BadForm fault.line) | Ok form ↦ form_same input form i ]

-- ---- describe

abbrev is_by : ℕ → Numbered → Bool
is_by n r = r.made.landing.change == n

pub numbers_seen : (k : ℕ) (rs : List Revision) → map seen_number (numbered_from k rs) ≡ numbered_from k (map seen rs)
numbers_seen k [] = refl
numbers_seen k (r ∷ rs) = ap (λ rest. record { number = k; made = seen r } ∷ rest) (numbers_seen (k + 1) rs)

find_seen : (n : ℕ) (rs : List Numbered) → option_map seen_number (find (is_by n) rs) ≡ find (is_by n) (map seen_number rs)
find_seen n [] = refl
find_seen n (r ∷ rs) = go (is_by n r) (find_seen n rs)
  where
    go : (b : Bool) → option_map seen_number (find (is_by n) rs) ≡ find (is_by n) (map seen_number rs)
        → option_map seen_number (if b then Some r else find (is_by n) rs) ≡ (if b then Some (seen_number r) else find (is_by n) (map seen_number rs))
    go true h = refl
    go false h = h

some_seen : (f : List ℕ → Option Numbered) (xs : List (List ℕ)) → map seen_number (filter_map f xs) ≡ filter_map (λ x. option_map seen_number (f x)) xs
some_seen f [] = refl
some_seen f (x ∷ xs) = go (f x) refl (some_seen f xs)
  where
    go : (o : Option Numbered) → f x ≡ o → map seen_number (filter_map f xs) ≡ filter_map (λ x. option_map seen_number (f x)) xs
        → map seen_number (filter_map f (x ∷ xs)) ≡ filter_map (λ x. option_map seen_number (f x)) (x ∷ xs)
    go None k h = rw k h
    go (Some y) k h = rw k (ap (λ rest. seen_number y ∷ rest) h)

fields_seen : (d : List Deed) (k : ℕ) (rs : List Numbered) → flat_map (describe_fields d) (enumerate_from k (map seen_number rs))
    ≡ flat_map (describe_fields d) (enumerate_from k rs)
fields_seen d k [] = refl
fields_seen d k (r ∷ rs) = ap (λ rest. describe_fields d (k, r) ++ rest) (fields_seen d (k + 1) rs)

length_seen : (rs : List Numbered) → length (map seen_number rs) ≡ length rs
length_seen [] = refl
length_seen (r ∷ rs) = ap suc (length_seen rs)

module _ (d e : List Deed) (twins : Twins d e) (caller : Caller) where
  made_in_same : (n : ℕ) (path : List ℕ) → option_map seen_number (made_in d n path) ≡ option_map seen_number (made_in e n path)
  made_in_same n path =
      find_seen n (numbered_from 1 (revisions d path)) ∙ ap (find (is_by n)) (numbers_seen 1 (revisions d path))
      ∙ ap (λ rs. find (is_by n) (numbered_from 1 rs)) (revisions_same d e twins path)
      ∙ ap (find (is_by n)) (sym (numbers_seen 1 (revisions e path))) ∙ sym (find_seen n (numbered_from 1 (revisions e path)))

  landed_files_same : (n : ℕ) → map seen_number (landed_files d caller n) ≡ map seen_number (landed_files e caller n)
  landed_files_same n =
      some_seen (made_in d n) (filter (may_list d caller) (files_of_change d n))
      ∙ (λ i. filter_map (λ path. made_in_same n path i) (filter (λ path. may_list_same d e (alike_of d e twins) caller path i) (files_of_change_same d e twins caller n i)))
      ∙ sym (some_seen (made_in e n) (filter (may_list e caller) (files_of_change e n)))

  count_same : (n : ℕ) → length (landed_files d caller n) ≡ length (landed_files e caller n)
  count_same n = sym (length_seen (landed_files d caller n)) ∙ ap length (landed_files_same n) ∙ length_seen (landed_files e caller n)

  all_fields_same : (n : ℕ) → flat_map (describe_fields d) (enumerate_from 0 (landed_files d caller n))
      ≡ flat_map (describe_fields e) (enumerate_from 0 (landed_files e caller n))
  all_fields_same n =
      sym (fields_seen d 0 (landed_files d caller n)) ∙ ap (λ rs. flat_map (describe_fields d) (enumerate_from 0 rs)) (landed_files_same n)
      ∙ fields_seen d 0 (landed_files e caller n)

  landed_same : (l : Landing) → describe_landed d caller l ≡ describe_landed e caller l
  landed_same l = λ i. unless (refuse_if (count_same l.change i == 0) (NoSuchChange l.change) ∷ [])
      (tells (row (change_fields l.change l.user l.client l.moment (codes "submitted") l.text ++ all_fields_same l.change i) ∷ []))

  pending_told : (n : ℕ) → describe_pending d n ≡ describe_pending e n
  pending_told n = ap (λ (p : Option Pending). elim p as (λ _. Step) [
    | None ↦ refuses (NoSuchChange n)
    | Some p ↦ tells (row (change_fields p.change p.user p.client p.moment (codes "pending") p.text) ∷ [])
  ]) (pending_same d e twins n)

  bare_landed : (x : List Deed) (n : ℕ) (o : Option Landing)
      → (elim (option_map bare o) as (λ _. Step) [ None ↦ describe_pending x n | Some l ↦ describe_landed x caller l ])
      ≡ (elim o as (λ _. Step) [ None ↦ describe_pending x n | Some l ↦ describe_landed x caller l ])
  bare_landed x n None = refl
  bare_landed x n (Some l) = refl

  pub describe_same : (n : ℕ) → describe d caller n ≡ describe e caller n
  describe_same n = sym (bare_landed d n (landing d n))
      ∙ (λ i. elim (landing_same d e twins n i) as (λ _. Step) [ None ↦ pending_told n i | Some l ↦ landed_same l i ])
      ∙ bare_landed e n (landing e n)
