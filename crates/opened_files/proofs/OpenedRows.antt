-- The rows of openings are those of the model.
use Rattle.std.proofs.Common.{◌≡◌, ℕ, Bool, true, false, List, [], ◌∷◌, ◌++◌, Option, Some, None, refl, sym, ap, ◌∙◌}
use Rattle.std.specs.Prelude.{codes, filter, filter_map, if◌then◌else◌, map}
use Rattle.std.specs.List.{cons_option}
use Rattle.depot_rows.specs.depot_path.Bytes.{same}
use Rattle.depot_rows.specs.db_records.declared.rows.WorkingRecord.{WorkingRecord}
use Rattle.depot_rows.specs.depot_model.declared.request.Caller.{Caller}
use Rattle.depot_rows.specs.depot_model.declared.reply.Row.{Row}
use Rattle.depot_rows.specs.depot_model.Deeds.{Deed, Opening}
use Rattle.depot_rows.specs.depot_model.Opened.{holder, opened}
use Rattle.depot_rows.specs.depot_model.Records.{working_record}
use Rattle.depot_rows.specs.depot_model.Rows.{action_word, change_word, number_field, path_field, row, text_field}
use Rattle.depot_rows.specs.depot_model.Steps.Opening.{openers}
use Rattle.depot_rows.specs.depot_model.Steps.Reverting.{opened_row, openers_shown}
use Rattle.depot_rows.proofs.Locks.{opened-is}
use Rattle.reply_rows.proofs.Bare.{AreBare}
use Rattle.file_openings.specs.Openings.{openings, workings}
use Rattle.opened_files.specs.Shown.{is_shown, row_of_working}

abbrev rows_of : List WorkingRecord → List Row
rows_of rs = map row_of_working rs

module _ (d : List Deed) where
  -- the lock's number
  lock_is : (who : Option (List ℕ)) (client : List ℕ) → (if (elim who as (λ _. Bool) [ None ↦ false | Some c ↦ same c client ]) then 1 else 0)
      ≡ (elim who as (λ _. ℕ) [ None ↦ 0 | Some c ↦ if same c client then 1 else 0 ])
  lock_is None client = refl
  lock_is (Some c) client = refl

  -- the row of an opening
  one : (o : Opening) (n : ℕ) → Row
  one o n = row (
      path_field (codes "depotFile") o.path ∷ number_field (codes "rev") o.base ∷ text_field (codes "action") (action_word o.action)
      ∷ text_field (codes "change") (change_word o.change) ∷ text_field (codes "type") o.file_type ∷ text_field (codes "client") o.client
      ∷ number_field (codes "lock") n ∷ [])

  own_row : (o : Opening) → rows_of (workings (working_record d o ∷ [])) ≡ opened_row d o ∷ []
  unfolding one
  own_row o = ap (λ (n : ℕ). one o n ∷ []) (lock_is (holder d o.path) o.client)

  module _ (path : List ℕ) where
    abbrev found : List ℕ → Option Opening
    found c = opened d c path

    abbrev rows_at : List (List ℕ) → List WorkingRecord
    rows_at cs = workings (map (working_record d) (filter_map found cs))

    -- those of all clients
    every : (client : List ℕ) (cs : List (List ℕ)) → rows_of (filter (is_shown true client) (rows_at cs)) ≡ map (opened_row d) (filter_map found cs)
    every client [] = refl
    every client (c ∷ cs) = go (found c) (every client cs)
      where
        go : (o : Option Opening) → rows_of (filter (is_shown true client) (rows_at cs)) ≡ map (opened_row d) (filter_map found cs)
            → rows_of (filter (is_shown true client) (workings (map (working_record d) (cons_option o (filter_map found cs))))) ≡ map (opened_row d) (cons_option o (filter_map found cs))
        go None more = more
        go (Some o) more = λ i. own_row o i ++ more i

    abbrev kept : List ℕ → List (List ℕ) → List (List ℕ)
    kept client cs = filter (same client) cs

    -- that of a client
    mine : (client : List ℕ) (cs : List (List ℕ)) → rows_of (filter (is_shown false client) (rows_at cs)) ≡ map (opened_row d) (filter_map found (filter (same client) cs))
    mine client [] = refl
    mine client (c ∷ cs) = go (found c) refl (same client c) refl (mine client cs)
      where
        go : (o : Option Opening) → found c ≡ o → (b : Bool) → same client c ≡ b → rows_of (filter (is_shown false client) (rows_at cs)) ≡ map (opened_row d) (filter_map found (kept client cs))
            → rows_of (filter (is_shown false client) (workings (map (working_record d) (cons_option o (filter_map found cs)))))
            ≡ map (opened_row d) (filter_map found (if b then c ∷ kept client cs else kept client cs))
        go None e true n more = more ∙ sym (ap (λ x. map (opened_row d) (cons_option x (filter_map found (kept client cs)))) e)
        go None e false n more = more
        go (Some o) e true n more =
            let of = opened-is d c path o e in
            (λ i. rows_of (if (ap (same client) of.0 ∙ n) i then workings (working_record d o ∷ []) ++ filter (is_shown false client) (rows_at cs) else filter (is_shown false client) (rows_at cs)))
            ∙ (λ i. own_row o i ++ more i) ∙ sym (ap (λ x. map (opened_row d) (cons_option x (filter_map found (kept client cs)))) e)
        go (Some o) e false n more =
            let of = opened-is d c path o e in
            (λ i. rows_of (if (ap (same client) of.0 ∙ n) i then workings (working_record d o ∷ []) ++ filter (is_shown false client) (rows_at cs) else filter (is_shown false client) (rows_at cs)))
            ∙ more

    pub all_shown : (all : Bool) (caller : Caller) → rows_of (filter (is_shown all caller.client) (workings (map (working_record d) (openings d path))))
        ≡ map (opened_row d) (filter_map found (openers_shown all d caller path))
    all_shown true caller = every caller.client (openers d path)
    all_shown false caller = mine caller.client (openers d path)

  pub bare : (os : List Opening) → AreBare (map (opened_row d) os)
  bare [] = tt
  bare (o ∷ os) = (refl, bare os)
