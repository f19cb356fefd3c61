-- The rights of a caller over depots with the same rows.
use Rattle.std.proofs.Common.{◌≡◌, ℕ, List, ap, ◌∙◌}
use Rattle.depot_rows.specs.protect_table.Rights.{may, may_any}
use Rattle.depot_rows.specs.depot_model.declared.request.Caller.{Caller}
use Rattle.depot_rows.specs.depot_model.Asking.{may_at, may_anywhere, protects, who_of}
use Rattle.depot_rows.specs.depot_model.Deeds.{Deed}
use Rattle.depot_rows.specs.depot_model.Records.{SameRows}
use Rattle.depot_rows.specs.depot_model.Rules.{IsSound}
use Rattle.row_reads.proofs.GroupsListed.{same_groups}
use Rattle.row_reads.proofs.LinesRead.{same_protects}

module _ (d e : List Deed) (caller : Caller) (left : IsSound d) (right : IsSound e) (same : SameRows d e) where
  same_who : who_of d caller ≡ who_of e caller
  same_who = ap (λ groups. record { user = caller.user; groups = groups; host = caller.host }) (same_groups caller.user d e left right same)

  pub same_at : (path : List ℕ) (need : ℕ) → may_at d caller path need ≡ may_at e caller path need
  same_at path need =
      ap (λ lines. may lines (who_of d caller) path need) (same_protects d e left right same) ∙ ap (λ who. may (protects e) who path need) same_who

  pub same_somewhere : (need : ℕ) → may_anywhere d caller need ≡ may_anywhere e caller need
  same_somewhere need = ap (λ lines. may_any lines (who_of d caller) need) (same_protects d e left right same) ∙ ap (λ who. may_any (protects e) who need) same_who
