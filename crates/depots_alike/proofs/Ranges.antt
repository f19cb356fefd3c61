-- The revisions that a range asks for, in depots that tell alike.
use Rattle.std.proofs.Common.{◌≡◌, ℕ, Bool, false, List, Option, Some, None, refl, sym, ap, ◌∙◌}
use Rattle.std.specs.Prelude.{◌&&◌, ◌==◌, pos, int_le, nat_le, filter, option_map}
use Rattle.std.specs.List.{range_with_len}
use Rattle.std.specs.Option.{option_map_or}
use Rattle.depot_rows.specs.depot_path.declared.revision.RevSpec.{RevSpec}
use Rattle.depot_rows.specs.depot_path.declared.revision.RevSpec.TheVariants.{Number, Newest, Have, Zero, Change, Only, Moment, Named}
use Rattle.depot_rows.specs.depot_path.declared.revision.Wanted.{Wanted}
use Rattle.depot_rows.specs.depot_path.declared.revision.Wanted.TheVariants.{Head, One, Range}
use Rattle.depot_rows.specs.depot_model.declared.request.Caller.{Caller}
use Rattle.depot_rows.specs.depot_model.Deeds.{Deed}
use Rattle.depot_rows.specs.depot_model.Range.{is_up_to, is_from, is_begun, in_range}
use Rattle.depot_rows.specs.depot_model.Revisions.{Revision, revision}
use Rattle.depot_facts.specs.Contents.{seen}
use Rattle.depots_alike.proofs.Alike.{Alike}
use Rattle.depots_alike.proofs.Choosing.{chosen_same, head_same, revision_same}

test_seen : (test : Revision → Bool) → ((r : Revision) → test (seen r) ≡ test r) → (o : Option Revision)
    → option_map_or test (option_map seen o) false ≡ option_map_or test o false
test_seen test same_seen None = refl
test_seen test same_seen (Some r) = same_seen r

module _ (d e : List Deed) (alike : Alike d e) where
  tested_same : (test : Revision → Bool) → ((r : Revision) → test (seen r) ≡ test r) → (path : List ℕ) (n : ℕ)
      → option_map_or test (revision d path n) false ≡ option_map_or test (revision e path n) false
  tested_same test same_seen path n =
      sym (test_seen test same_seen (revision d path n)) ∙ ap (λ (o : Option Revision). option_map_or test o false) (revision_same d e alike path n)
      ∙ test_seen test same_seen (revision e path n)

  from_same : (path : List ℕ) (end : RevSpec) (n : ℕ) → is_from d path end n ≡ is_from e path end n
  from_same path (Number m) n = refl
  from_same path Newest n = ap (λ m. nat_le m n) (head_same d e alike path)
  from_same path Have n = refl
  from_same path Zero n = refl
  from_same path (Change m) n = tested_same (λ r. nat_le m r.landing.change) (λ r. refl) path n
  from_same path (Only m) n = refl
  from_same path (Moment t) n = tested_same (λ r. int_le t (pos r.landing.moment)) (λ r. refl) path n
  from_same path (Named name) n = refl

  begun_same : (path : List ℕ) (wanted : Wanted) (n : ℕ) → is_begun d path wanted n ≡ is_begun e path wanted n
  begun_same path (Range first second) n = from_same path first n
  begun_same path (One (Only m)) n = tested_same (λ r. r.landing.change == m) (λ r. refl) path n
  begun_same path (One _) n = refl
  begun_same path Head n = refl

  pub in_range_same : (caller : Caller) (path : List ℕ) (wanted : Wanted) → in_range d caller path wanted ≡ in_range e caller path wanted
  in_range_same caller path wanted = λ i. filter (λ n. begun_same path wanted n i && is_up_to n (chosen_same d e alike caller path wanted i))
      (range_with_len 1 (head_same d e alike path i))
