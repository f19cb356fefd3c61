-- What `resolve` does with a file by its row is what the model does.
use Rattle.std.proofs.Common.{◌≡◌, ℕ, List, [], Option, Some, None, map, refl, sym, ap, subst, ◌∙◌}
use Rattle.std.specs.Prelude.{filter, option_map}
use Rattle.std.proofs.lemmas.Option.{same_Some}
use Rattle.depot_rows.specs.db_records.declared.record.Record.TheVariants.{Working}
use Rattle.depot_rows.specs.db_records.declared.rows.WorkingRecord.{WorkingRecord}
use Rattle.depot_rows.specs.depot_model.declared.command.Taking.{Taking}
use Rattle.depot_rows.specs.depot_model.declared.request.Caller.{Caller}
use Rattle.depot_rows.specs.depot_model.Deeds.{Deed, Opening, Owing}
use Rattle.depot_rows.specs.depot_model.Opened.{opened, Resolve}
use Rattle.depot_rows.specs.depot_model.Records.{working_record}
use Rattle.depot_rows.specs.depot_model.Rules.{IsSound}
use Rattle.depot_rows.specs.depot_model.Step.{Step, nothing}
use Rattle.depot_rows.specs.depot_model.Steps.Resolving.{owings, resolve_next, resolve_opened}
use Rattle.depot_rows.specs.depot_model.Steps.Submitting.{is_unpaid, resolves_of}
use Rattle.opening_reads.proofs.OwingRows.{owings_of_file}
use Rattle.integ_records.specs.Turns.{turns}
use Rattle.integ_records.proofs.Turning.{turned}

module _ (d : List Deed) (caller : Caller) (taking : Taking) (path : List ℕ) where
  abbrev next : List Owing → Step
  next rs = resolve_next (λ e. resolve_opened taking e caller path) d caller path rs

  abbrev owed_by : Option Opening → List Owing
  owed_by found = elim found as (λ _. List Owing) [ None ↦ [] | Some o ↦ map (λ (r : Resolve). r.owing) (filter is_unpaid (resolves_of d o)) ]

  pub not_resolved : None ≡ option_map (working_record d) (opened d caller.client path) → nothing ≡ next (owings d caller path)
  not_resolved is = go (opened d caller.client path) refl is
    where
      go : (found : Option Opening) → opened d caller.client path ≡ found → None ≡ option_map (working_record d) found → nothing ≡ next (owings d caller path)
      go None e k = ap (λ (x : Option Opening). next (owed_by x)) (sym e)
      go (Some o) e k = absurd cc

  pub resolved_by : IsSound d → (P : Step → Type 0) (row : WorkingRecord) → Some (Working row) ≡ option_map (working_record d) (opened d caller.client path)
      → ((o : Opening) → opened d caller.client path ≡ Some o → Working row ≡ working_record d o → P (turns d taking (Some o) (owed_by (Some o)))) → P (next (owings d caller path))
  resolved_by sound P row is made = go (opened d caller.client path) refl is
    where
      go : (found : Option Opening) → opened d caller.client path ≡ found → Some (Working row) ≡ option_map (working_record d) found → P (next (owings d caller path))
      go None e k = absurd cc
      go (Some o) e k =
          subst P
          (sym (turned d caller taking path d (λ p. refl) (Some o) e (owed_by (Some o)) (owings_of_file d sound.paths caller.client path o e))
          ∙ ap (λ (x : Option Opening). next (owed_by x)) (sym e))
          (made o e (same_Some (Working row) (working_record d o) k))
