-- A file of which the revision of a change is chosen has one that the change made.
use Rattle.std.proofs.Common.{◌≡◌, ℕ, ◌+◌, Bool, true, false, List, [], ◌∷◌, refl, sym, ap, ◌∙◌}
use Rattle.std.specs.Prelude.{◌||◌, if◌then◌else◌, is_some, max}
use Rattle.std.specs.List.{list_any}
use Rattle.std.proofs.lemmas.Bool.{false≢true}
use Rattle.depot_rows.specs.depot_path.declared.revision.RevSpec.TheVariants.{Only}
use Rattle.depot_rows.specs.depot_path.declared.revision.Wanted.{Wanted}
use Rattle.depot_rows.specs.depot_path.declared.revision.Wanted.TheVariants.{One}
use Rattle.depot_rows.specs.depot_model.declared.request.Caller.{Caller}
use Rattle.depot_rows.specs.depot_model.Choice.{at_or_above_one, chosen, made_by}
use Rattle.depot_rows.specs.depot_model.Deeds.{Deed}
use Rattle.depot_rows.specs.depot_model.Revisions.{Revision, last_passing, revisions}
use Rattle.depot_rows.specs.depot_model.Steps.Listing.{numbered}

none_last : (test : Revision → Bool) (k : ℕ) (revs : List Revision) → list_any test revs ≡ false → last_passing test k revs ≡ 0
none_last test k [] e = refl
none_last test k (r ∷ revs) e = go (test r) e (none_last test (k + 1) revs)
  where
    go : (b : Bool) → (b || list_any test revs) ≡ false → (list_any test revs ≡ false → last_passing test (k + 1) revs ≡ 0)
        → max (if b then k else 0) (last_passing test (k + 1) revs) ≡ 0
    go true f more = absurd (false≢true (sym f))
    go false f more = ap (max 0) (more f)

pub chosen_made : (d : List Deed) (caller : Caller) (path : List ℕ) (wanted : Wanted) (n : ℕ) → wanted ≡ One (Only n)
    → is_some (numbered d path (chosen d caller path wanted)) ≡ true → list_any (made_by n) (revisions d path) ≡ true
chosen_made d caller path wanted n only there = go (list_any (made_by n) (revisions d path)) refl
  where
    go : (b : Bool) → list_any (made_by n) (revisions d path) ≡ b → b ≡ true
    go true e = refl
    go false e = absurd (false≢true
        (sym (ap (λ (w : Wanted). is_some (numbered d path (chosen d caller path w))) only
        ∙ ap (λ (last : ℕ). is_some (numbered d path (at_or_above_one last))) (none_last (made_by n) 1 (revisions d path) e))
        ∙ there))
