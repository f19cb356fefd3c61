-- The deeds that open a target may follow, and what is done by the ends of the revisions is the model's.
use Rattle.std.proofs.Common.{◌≡◌, ℕ, Bool, true, false, List, [], ◌∷◌, Option, Some, None, refl, ap, ◌∙◌}
use Rattle.std.specs.Prelude.{if◌then◌else◌, unwrap_or}
use Rattle.std.specs.List.{last_or}
use Rattle.depot_rows.specs.depot_path.Path.{is_path}
use Rattle.depot_rows.specs.depot_model.declared.refusal.Refusal.TheVariants.{AllIntegrated}
use Rattle.depot_rows.specs.depot_model.declared.request.Caller.{Caller}
use Rattle.depot_rows.specs.depot_model.Deeds as model
use Rattle.depot_rows.specs.depot_model.Deeds.{Deed, Got, Open, Owe, Paid, Opening, Source}
use Rattle.depot_rows.specs.depot_model.Revisions.{head, is_live_at, is_live_head}
use Rattle.depot_rows.specs.depot_model.Step.{does, refuses}
use Rattle.depot_rows.specs.depot_model.Steps.Integrating.{integrate_revs, integrate_row, new_type, opening, owing, type_at}
use Rattle.depot_rows.specs.depot_model.Steps.Opening.{held}
use Rattle.depot_rows.specs.Deed.{how_of, opening_of}
use Rattle.depot_rows.specs.Effects.{Follow}
use Rattle.depot_rows.specs.declared.deed.Deed.TheVariants as dones
use Rattle.depot_rows.specs.declared.deed.Held.{Held}
use Rattle.depot_rows.specs.declared.deed.How.{How}
use Rattle.depot_rows.specs.declared.deed.Opening.{Opening as DoneOpening}
use Rattle.depot_rows.specs.declared.deed.Owing.{Owing}
use Rattle.integ_records.specs.Ends.{ends_of, last_in}
use Rattle.integ_records.specs.Ways.{by_ends, by_way, way_in}
use Rattle.integ_records.specs.declared.crediting.Span.{Span}
use Rattle.integ_records.proofs.Ending.{ends_are}

-- ---- deeds that may follow

module _ (e : List Deed) (caller : Caller) (s t : List ℕ) (ends : Span) (is_s : is_path s ≡ true) (is_t : is_path t ≡ true) (made : Opening) (done : DoneOpening)
    (file : Held) (owed : Owing) (opens : opening_of done ≡ made) (of_target : done.path ≡ t) (file_is : file ≡ record { client = caller.client; path = t })
    (owed_is : owed ≡ record { client = caller.client; path = t; from = s; first = ends.first; last = ends.last }) where
  abbrev there : is_path done.path ≡ true
  there = ap is_path of_target ∙ is_t

  pub may_get : (base head_ : ℕ) → base ≡ head_
      → Follow e (dones.Open done ∷ dones.Got file base ∷ dones.Owe owed ∷ []) (Open made ∷ Got (held caller t) head_ ∷ Owe (owing caller s t ends.first ends.last) ∷ [])
  may_get base head_ over = (
    ap (λ (o : Opening). Some (Open o)) opens,
    there,
    (
      (λ i. Some (Got (record { client = (file_is i).client; path = (file_is i).path }) (over i))),
      ap (λ (h : Held). is_path h.path) file_is ∙ is_t,
      (
        ap (λ (o : Owing). Some (Owe (record { client = o.client; path = o.path; from = o.from; first = o.first; last = o.last }))) owed_is,
        (ap (λ (o : Owing). is_path o.path) owed_is ∙ is_t, ap (λ (o : Owing). is_path o.from) owed_is ∙ is_s),
        tt,
      ),
    ),
  )

  pub may_pay : (from : List ℕ) (how : How) → from ≡ s
      → Follow e (dones.Open done ∷ dones.Owe owed ∷ dones.Paid file from how ∷ []) (Open made ∷ Owe (owing caller s t ends.first ends.last) ∷ Paid (held caller t) s (how_of how) ∷ [])
  may_pay from how from_is = (
    ap (λ (o : Opening). Some (Open o)) opens,
    there,
    (
      ap (λ (o : Owing). Some (Owe (record { client = o.client; path = o.path; from = o.from; first = o.first; last = o.last }))) owed_is,
      (ap (λ (o : Owing). is_path o.path) owed_is ∙ is_t, ap (λ (o : Owing). is_path o.from) owed_is ∙ is_s),
      (
        (λ i. Some (Paid (record { client = (file_is i).client; path = (file_is i).path }) (from_is i) (how_of how))),
        (ap (λ (h : Held). is_path h.path) file_is ∙ is_t, ap is_path from_is ∙ is_s),
        tt,
      ),
    ),
  )

-- ---- by the ends of the revisions

module _ (d : List Deed) (caller : Caller) (change : Option ℕ) (s t : List ℕ) where
  -- the type with which the target is opened
  abbrev type_by : Bool → ℕ → List ℕ
  type_by live last = if live then type_at d t (head d t) else type_at d s last

  abbrev opened_for : model.Action → List ℕ → Option Source → Opening
  opened_for action type source = opening d caller change action type t source

  ends_way : (ends : Span) (source target : Bool) → by_way d caller change (type_by target ends.last) s t ends (way_in source target)
      ≡ (if source
      then (if target
      then does (Open (opened_for model.Integrate (type_at d t (head d t)) None) ∷ Got (held caller t) (head d t) ∷ Owe (owing caller s t ends.first ends.last) ∷ [])
      (integrate_row s t ends.first ends.last model.Integrate)
      else does (Open (opened_for model.Branch (type_at d s ends.last) (Some (record { path = s; rev = ends.last }))) ∷ Owe (owing caller s t ends.first ends.last)
      ∷ Paid (held caller t) s model.BranchFrom ∷ []) (integrate_row s t ends.first ends.last model.Branch))
      else (if target
      then does (Open (opened_for model.Delete (type_at d t (head d t)) None) ∷ Owe (owing caller s t ends.first ends.last) ∷ Paid (held caller t) s model.DeleteFrom ∷ [])
      (integrate_row s t ends.first ends.last model.Delete)
      else refuses (AllIntegrated t)))
  ends_way ends true true = refl
  ends_way ends true false = refl
  ends_way ends false true = refl
  ends_way ends false false = refl

  pub ends_step : (revs : List ℕ) → by_ends d caller change (new_type d s t (last_in (ends_of revs))) s t (ends_of revs) ≡ integrate_revs d caller change s t revs
  ends_step [] = refl
  ends_step (first ∷ revs) =
      let last = unwrap_or (last_or (Some first) revs) first in
      ap (λ (o : Option Span). by_ends d caller change (new_type d s t (last_in o)) s t o) (ends_are first revs)
      ∙ ends_way (record { first = first; last = last }) (is_live_at d s last) (is_live_head d t)
