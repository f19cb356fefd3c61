-- Submits of sound depots with the same rows and contents.
use Rattle.std.proofs.Common.{◌≡◌, ℕ, ◌+◌, Bool, true, false, not, List, [], ◌∷◌, ◌++◌, length, map, Option, Some, None, refl, sym, ap, ◌∙◌}
use Rattle.std.specs.Prelude.{◌&&◌, ◌||◌, ◌==◌, nat_lt, codes, if◌then◌else◌, filter, filter_map, flat_map, is_some, option_map}
use Rattle.std.specs.List.{list_any, list_all}
use Rattle.std.specs.Option.{option_map_or}
use Rattle.std.proofs.lemmas.Bool.{true≢false, or_parts, and_parts}
use Rattle.depot_rows.specs.depot_path.Bytes.{same}
use Rattle.depot_rows.specs.depot_path.Path.{is_path}
use Rattle.depot_rows.specs.spec_form.Form.{FormValue}
use Rattle.depot_rows.specs.depot_model.declared.refusal.Limit.TheVariants.{Text, Change, Files}
use Rattle.depot_rows.specs.depot_model.declared.refusal.Refusal.{Refusal}
use Rattle.depot_rows.specs.depot_model.declared.refusal.Refusal.TheVariants.{Stale, MustResolve, InMove, NoContent, EmptyChange, OverLimit, Locked}
use Rattle.depot_rows.specs.depot_model.declared.request.Caller.{Caller}
use Rattle.depot_rows.specs.depot_model.declared.request.Request.{Request}
use Rattle.depot_rows.specs.depot_model.Arguments.{paths_of}
use Rattle.depot_rows.specs.depot_model.Asking.{to_write}
use Rattle.depot_rows.specs.depot_model.Deeds.{Deed, Owe, Paid, Shut, Land, Drop, Got, Opening, Pending}
use Rattle.depot_rows.specs.depot_model.Fixes.{closing, renumbers_where, fixed_job}
use Rattle.depot_rows.specs.depot_model.Numbers.{pending}
use Rattle.depot_rows.specs.depot_model.Opened.{owed, paid_by}
use Rattle.depot_rows.specs.depot_model.Revisions.{is_live_action}
use Rattle.depot_rows.specs.depot_model.Rows.{row, path_field, number_field, text_field, action_word}
use Rattle.depot_rows.specs.depot_model.Rules.{has_paths}
use Rattle.depot_rows.specs.depot_model.Step.{unless, refuse_if}
use Rattle.depot_rows.specs.depot_model.Steps.Submitting.{owed_from, resolves_of, is_unpaid, credit_of, lock_refusal, is_in_change, move_refusal, file_refusals, landing_number, move_credits, entry_of, landing_of, got_and_shut, dropped, file_row, landed, submit, submit_default, submit_change}
use Rattle.depots_alike.proofs.Changes.{openings_same, fixes_of_same, closes_same}
use Rattle.depots_alike.proofs.Lists.{has, one_path_list, some_paths_rise, has_filter, has_all_inserted}
use Rattle.depots_alike.proofs.Names.{only_some}
use Rattle.depots_alike.proofs.Paths.{same_turned, only_test, paths_rise}
use Rattle.depots_alike.proofs.Searches.{owed_same, holder_same, head_same, top_same, pending_same}
use Rattle.depots_alike.proofs.Shelving.{content_of_same, lacks_content_same}
use Rattle.depots_alike.proofs.Simple.{partner_same, change_refusal_same}
use Rattle.depots_alike.proofs.Twins.{Twins}
use Rattle.depots_alike.proofs.Alike.{alike_of}
use Rattle.depots_alike.proofs.Asked.{right_same}

owed_are : (client path : List ℕ) (deed : Deed) → has_paths deed ≡ true → list_all is_path (owed_from client path deed) ≡ true
owed_are client path (Owe o) e = go (same o.client client && same o.path path)
  where
    go : (b : Bool) → list_all is_path (if b then o.from ∷ [] else []) ≡ true
    go true = (and_parts (is_path o.path) _ e).1
    go false = refl
owed_are client path _ e = refl

not_owed : (client path z : List ℕ) (d : List Deed) → has (paths_of (owed_from client path) d) z ≡ false → owed d client path z ≡ None
not_owed client path z [] e = refl
not_owed client path z (Owe o ∷ d) e =
    let parts = or_parts (has (owed_from client path (Owe o)) z) (has (paths_of (owed_from client path) d) z)
    (sym (has_all_inserted z (owed_from client path (Owe o)) (paths_of (owed_from client path) d)) ∙ e) in
    go (same o.client client) (same o.path path) (same o.from z) refl parts.0 (not_owed client path z d parts.1)
  where
    go : (a b c : Bool) → same o.from z ≡ c → has (if a && b then o.from ∷ [] else []) z ≡ false → owed d client path z ≡ None
        → (if a && b && c then Some (record { owing = o; how = None }) else owed d client path z) ≡ None
    go true true true k f h = absurd (true≢false (sym (ap (λ b. b || false) (same_turned z o.from ∙ k)) ∙ f))
    go true true false k f h = h
    go true false c k f h = h
    go false b c k f h = h
not_owed client path z (Paid held from how ∷ d) e = go (same held.client client && same held.path path && same from z) (not_owed client path z d e)
  where
    go : (b : Bool) → owed d client path z ≡ None → (if b then option_map (paid_by how) (owed d client path z) else owed d client path z) ≡ None
    go true h = ap (option_map (paid_by how)) h
    go false h = h
not_owed client path z (Shut held ∷ d) e = go (same held.client client && same held.path path) (not_owed client path z d e)
  where
    go : (b : Bool) → owed d client path z ≡ None → (if b then None else owed d client path z) ≡ None
    go true h = refl
    go false h = h
not_owed client path z (_ ∷ d) e = not_owed client path z d e

abbrev owed_paths : List Deed → List ℕ → List ℕ → List (List ℕ)
owed_paths d client path = filter (λ from. is_some (owed d client path from)) (paths_of (owed_from client path) d)

owed_has : (d : List Deed) (client path z : List ℕ) → has (owed_paths d client path) z ≡ is_some (owed d client path z)
owed_has d client path z = has_filter (λ from. is_some (owed d client path from)) (paths_of (owed_from client path) d) z
    ∙ only_test (has (paths_of (owed_from client path) d) z) (is_some (owed d client path z)) (λ e. ap is_some (not_owed client path z d e))

module _ (d e : List Deed) (twins : Twins d e) where
  owed_paths_same : (client path : List ℕ) → owed_paths d client path ≡ owed_paths e client path
  owed_paths_same client path = one_path_list (owed_paths d client path) (owed_paths e client path)
      (some_paths_rise (λ from. is_some (owed d client path from)) (paths_of (owed_from client path) d)
      (paths_rise (owed_from client path) (owed_are client path) d twins.left.paths))
      (some_paths_rise (λ from. is_some (owed e client path from)) (paths_of (owed_from client path) e)
      (paths_rise (owed_from client path) (owed_are client path) e twins.right.paths))
      (λ z. owed_has d client path z ∙ ap is_some (owed_same d e twins client path z) ∙ sym (owed_has e client path z))

  pub resolves_same : (o : Opening) → resolves_of d o ≡ resolves_of e o
  resolves_same o =
      only_some (owed d o.client o.path) (paths_of (owed_from o.client o.path) d)
      ∙ (λ i. filter_map (λ from. owed_same d e twins o.client o.path from i) (owed_paths_same o.client o.path i))
      ∙ sym (only_some (owed e o.client o.path) (paths_of (owed_from o.client o.path) e))

  number_same : (n : ℕ) → landing_number d n ≡ landing_number e n
  number_same n = ap (λ t. if not (n == 0) && (n == t) then n else t + 1) (top_same d e twins)

  closing_same : (n m other : ℕ) → m ≡ other → (form : FormValue) → closing d n m form ≡ closing e n other form
  closing_same n m other one form = λ i. renumbers_where (n == one i) n (one i) form ++ closes_same d e twins (fixed_job form) i

module _ (d e : List Deed) (twins : Twins d e) (request : Request) where
  abbrev asker : Caller
  asker = request.caller

  lock_refusal_same : (o : Opening) → lock_refusal d o ≡ lock_refusal e o
  lock_refusal_same o = ap (λ (who : Option (List ℕ)). elim who as (λ _. Option Refusal) [
    | None ↦ None
    | Some client ↦ refuse_if (not (same client o.client))
        (Locked o.path client)
  ])
      (holder_same d e twins o.path)

  move_refusal_same : (o : Opening) → move_refusal d o ≡ move_refusal e o
  move_refusal_same o = λ i. elim o.moved as (λ _. Option Refusal) [
    | None ↦ None
    | Some other ↦ refuse_if (not (is_in_change o.change (partner_same d e twins asker o i))) (InMove o.path other)
  ]

  file_refusals_same : (o : Opening) → file_refusals d request o ≡ file_refusals e request o
  file_refusals_same o = λ i.
      right_same d e (alike_of d e twins) asker to_write o.path i
      ∷ lock_refusal_same o i
      ∷ refuse_if (not (o.base == head_same d e twins o.path i)) (Stale o.path o.base (head_same d e twins o.path i))
      ∷ refuse_if (list_any is_unpaid (resolves_same d e twins o i)) (MustResolve o.path)
      ∷ move_refusal_same o i
      ∷ refuse_if (lacks_content_same d e twins request o i) (NoContent o.path)
      ∷ []

  entry_same : (o : Opening) → entry_of d request o ≡ entry_of e request o
  entry_same o = λ i. record {
    path = o.path;
    action = o.action;
    file_type = o.file_type;
    content = content_of_same d e twins request o i;
    credits = filter_map (credit_of o.path) (resolves_same d e twins o i) ++ move_credits o;
    moved = o.moved;
  }

  landing_told : (n : ℕ) (text : List ℕ) (openings : List Opening) → landing_of d request n text openings ≡ landing_of e request n text openings
  landing_told n text openings = λ i. record {
    change = number_same d e twins n i;
    user = asker.user;
    client = asker.client;
    moment = request.moment;
    text = text;
    entries = map (λ o. entry_same o i) openings;
  }

  got_same : (o : Opening) → got_and_shut d o ≡ got_and_shut e o
  got_same o = λ i. Got (record { client = o.client; path = o.path }) (if is_live_action o.action then head_same d e twins o.path i + 1 else 0)
      ∷ Shut (record { client = o.client; path = o.path }) ∷ []

  dropped_same : (n : ℕ) → dropped d n ≡ dropped e n
  dropped_same n = ap (λ m. if (n == 0) || (n == m) then [] else Drop n ∷ []) (number_same d e twins n)

  row_same : (o : Opening) → file_row d o ≡ file_row e o
  row_same o = ap (λ h. row (path_field (codes "depotFile") o.path ∷ number_field (codes "rev") (h + 1) ∷ text_field (codes "action") (action_word o.action) ∷ []))
      (head_same d e twins o.path)

  landed_same : (n : ℕ) (text : List ℕ) (openings : List Opening) → landed d request n text openings ≡ landed e request n text openings
  landed_same n text openings = λ i. record {
    deeds =
        Land (landing_told n text openings i) ∷ dropped_same n i ++ flat_map (λ o. got_same o i) openings
        ++ flat_map (λ form. closing_same d e twins n (landing_number d n) (landing_number e n) (number_same d e twins n) form i) (fixes_of_same d e twins n i);
    rows = map (λ o. row_same o i) openings ++ row (number_field (codes "submittedChange") (number_same d e twins n i) ∷ []) ∷ [];
  }

  submit_with : (n : ℕ) (text : List ℕ) → submit d request n text ≡ submit e request n text
  submit_with n text =
      let all = openings_same d e twins asker n in
      λ i. unless (
      refuse_if (length (all i) == 0) (EmptyChange n)
      ∷ refuse_if (nat_lt 65536 (length text)) (OverLimit Text)
      ∷ flat_map (λ o. file_refusals_same o i) (all i)
      ++ refuse_if (nat_lt 2147483647 (number_same d e twins n i)) (OverLimit Change)
      ∷ refuse_if (nat_lt 10000 (length (all i))) (OverLimit Files)
      ∷ [])
      (landed_same n text (all i) i)

  pub submit_default_same : (text : List ℕ) → submit_default d request text ≡ submit_default e request text
  submit_default_same text = submit_with 0 text

  pub submit_change_same : (n : ℕ) → submit_change d request n ≡ submit_change e request n
  submit_change_same n =
      let text = ap (λ (p : Option Pending). option_map_or (λ (p : Pending). p.text) p []) (pending_same d e twins n) in
      let rest = ap (submit d request n) text ∙ submit_with n (option_map_or (λ (p : Pending). p.text) (pending e n) []) in
      λ i. unless (change_refusal_same d e twins asker n i ∷ []) (rest i)
