-- What `reopen` does with a file by its row is what the model does.
use Rattle.std.proofs.Common.{◌≡◌, ℕ, List, [], ◌∷◌, Option, Some, None, refl, sym, ap, ◌∙◌}
use Rattle.std.specs.Prelude.{option_map}
use Rattle.std.proofs.lemmas.Option.{same_Some}
use Rattle.depot_rows.specs.db_records.declared.record.Record.TheVariants.{Working}
use Rattle.depot_rows.specs.db_records.declared.rows.WorkingRecord.{WorkingRecord}
use Rattle.depot_rows.specs.depot_model.declared.request.Caller.{Caller}
use Rattle.depot_rows.specs.depot_model.Asking.{to_open}
use Rattle.depot_rows.specs.depot_model.Deeds.{Deed, Open, Opening}
use Rattle.depot_rows.specs.depot_model.Opened.{opened}
use Rattle.depot_rows.specs.depot_model.Records.{working_record}
use Rattle.depot_rows.specs.depot_model.Rules.{IsSound}
use Rattle.depot_rows.specs.depot_model.Step.{Step as ModelStep, does, nothing, unless}
use Rattle.depot_rows.specs.depot_model.Steps.Opening.{right_refusal}
use Rattle.depot_rows.specs.depot_model.Steps.Reverting.{moved, reopen_file, reopen_opening, reopen_row}
use Rattle.depot_rows.specs.Deed.{opening_of}
use Rattle.depot_rows.proofs.Locks.{opened-is}
use Rattle.opening_reads.specs.Read.{opening_in_row}
use Rattle.opening_reads.proofs.Opens.{row_opens}

module _ (d : List Deed) (caller : Caller) (path : List ℕ) (change : Option ℕ) (type : Option (List ℕ)) where
  abbrev model_of : Option Opening → ModelStep
  model_of found = elim found as (λ _. ModelStep) [ None ↦ nothing | Some o ↦ reopen_opening d caller (moved change type o) ]

  pub not_reopened : None ≡ option_map (working_record d) (opened d caller.client path) → nothing ≡ reopen_file d caller change type path
  not_reopened is = go (opened d caller.client path) is
    where
      go : (found : Option Opening) → None ≡ option_map (working_record d) found → nothing ≡ model_of found
      go None e = refl
      go (Some o) e = absurd cc

  -- the opening has the file's path
  pub reopened_by : (row : WorkingRecord) → IsSound d → Some (Working row) ≡ option_map (working_record d) (opened d caller.client path)
      → (let o = opening_of (opening_in_row caller.client path row change type) in
      unless (right_refusal to_open d caller path ∷ []) (does (Open o ∷ []) (reopen_row o))) ≡ reopen_file d caller change type path
  reopened_by row sound is = go (opened d caller.client path) refl is
    where
      by : List ℕ → Opening → ModelStep
      by p o = unless (right_refusal to_open d caller p ∷ []) (does (Open o ∷ []) (reopen_row o))

      go : (found : Option Opening) → opened d caller.client path ≡ found → Some (Working row) ≡ option_map (working_record d) found
          → by path (opening_of (opening_in_row caller.client path row change type)) ≡ model_of found
      go None e k = absurd cc
      go (Some o) e k =
          ap (λ (x : Opening). by path x) (row_opens d caller.client path o row change type sound e (same_Some (Working row) (working_record d o) k))
          ∙ sym (ap (λ (p : List ℕ). by p (moved change type o)) (opened-is d caller.client path o e).1)
