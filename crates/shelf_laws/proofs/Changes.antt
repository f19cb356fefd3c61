-- changes, in depots of which all is read alike but shelved files.
use Rattle.std.proofs.Common.{◌≡◌, ℕ, Bool, false, List, [], ◌∷◌, ◌++◌, length, map, Option, Some, None, refl, ap}
use Rattle.std.specs.Prelude.{◌&&◌, ◌==◌, pos, int_le, nat_le, if◌then◌else◌, filter, filter_map, flat_map, option_map}
use Rattle.std.specs.List.{list_any, range_with_len}
use Rattle.std.specs.Option.{option_map_or, option_or}
use Rattle.depot_model.specs.depot_path.declared.revision.RevSpec.{RevSpec}
use Rattle.depot_model.specs.depot_path.declared.revision.RevSpec.TheVariants.{Number, Newest, Have, Zero, Change, Only, Moment, Named}
use Rattle.depot_model.specs.depot_path.declared.revision.Wanted.{Wanted}
use Rattle.depot_model.specs.depot_path.declared.revision.Wanted.TheVariants.{Head, One, Range}
use Rattle.depot_model.specs.Arguments.{named, not_in, submitted}
use Rattle.depot_model.specs.Deeds.{Deed}
use Rattle.depot_model.specs.Range.{in_range, is_begun, is_from, is_up_to}
use Rattle.depot_model.specs.Refusals.{refusal_row}
use Rattle.depot_model.specs.Revisions.{Revision, revision}
use Rattle.depot_model.specs.Step.{tells}
use Rattle.depot_model.specs.Steps.Changes.{Listed, listed_pending, listed_landing, is_listable, listed_submitted, listed, change_at, made_of, made_over, is_made, passes, change_row, at_most, missing, changes}
use Rattle.depot_model.specs.declared.command.FileArgument.{FileArgument}
use Rattle.depot_model.specs.declared.refusal.Refusal.TheVariants.{NoSuchFile}
use Rattle.depot_model.specs.declared.request.Caller.{Caller}
use Rattle.shelf_laws.proofs.Apart.{Alike}
use Rattle.shelf_laws.proofs.Choosing.{landing_same, pending_same, may_list_same, head_same, revision_same, chosen_same, named_same}
use Rattle.shelf_laws.proofs.Telling.{files_of_change_same}

module _ (d e : List Deed) (alike : Alike d e) where
  -- ---- the revisions of a range

  tested_same : (test : Revision → Bool) (path : List ℕ) (n : ℕ) → option_map_or test (revision d path n) false ≡ option_map_or test (revision e path n) false
  tested_same test path n = ap (λ (o : Option Revision). option_map_or test o false) (revision_same d e alike path n)

  from_same : (path : List ℕ) (end : RevSpec) (n : ℕ) → is_from d path end n ≡ is_from e path end n
  from_same path (Number m) n = refl
  from_same path Newest n = ap (λ m. nat_le m n) (head_same d e alike path)
  from_same path Have n = refl
  from_same path Zero n = refl
  from_same path (Change m) n = tested_same (λ r. nat_le m r.landing.change) path n
  from_same path (Only m) n = refl
  from_same path (Moment t) n = tested_same (λ r. int_le t (pos r.landing.moment)) path n
  from_same path (Named name) n = refl

  begun_same : (path : List ℕ) (wanted : Wanted) (n : ℕ) → is_begun d path wanted n ≡ is_begun e path wanted n
  begun_same path (Range first second) n = from_same path first n
  begun_same path (One (Only m)) n = tested_same (λ r. r.landing.change == m) path n
  begun_same path (One _) n = refl
  begun_same path Head n = refl

  change_at_same : (path : List ℕ) (n : ℕ) → change_at d path n ≡ change_at e path n
  change_at_same path n = ap (option_map (λ (r : Revision). r.landing.change)) (revision_same d e alike path n)

  module _ (caller : Caller) where
    in_range_same : (path : List ℕ) (wanted : Wanted) → in_range d caller path wanted ≡ in_range e caller path wanted
    in_range_same path wanted = λ i. filter (λ n. begun_same path wanted n i && is_up_to n (chosen_same d e alike caller path wanted i))
        (range_with_len 1 (head_same d e alike path i))

    -- ---- what is listed

    listable_same : (n : ℕ) → is_listable d caller n ≡ is_listable e caller n
    listable_same n = λ i. list_any (λ path. may_list_same d e alike caller path i) (files_of_change_same d e alike n i)

    submitted_same : (n : ℕ) → listed_submitted d caller n ≡ listed_submitted e caller n
    submitted_same n = λ i. elim (landing_same d e alike n i) as (λ _. Option Listed) [ None ↦ None | Some l ↦ if listable_same n i then Some (listed_landing l) else None ]

    listed_same : (n : ℕ) → listed d caller n ≡ listed e caller n
    listed_same n = λ i. option_or (option_map listed_pending (pending_same d e alike n i)) (submitted_same n i)

    -- ---- changes that made a named revision

    made_of_same : (a : FileArgument) (paths : List (List ℕ)) → made_of d caller a paths ≡ made_of e caller a paths
    made_of_same a paths = λ i. flat_map (λ path. filter_map (λ n. change_at_same path n i) (in_range_same path (a.spec).wanted i)) paths

    made_over_same : (taken others : List (List ℕ)) → taken ≡ others → (arguments : List FileArgument)
        → made_over d caller taken arguments ≡ made_over e caller others arguments
    made_over_same taken others one [] = refl
    made_over_same taken others one (a ∷ arguments) = λ i.
        made_of_same a (not_in (one i) (named_same d e alike caller a i)) i
        ++ made_over_same (taken ++ named false d caller (submitted d) a) (others ++ named false e caller (submitted e) a)
        (λ j. one j ++ named_same d e alike caller a j) arguments i

    is_made_same : (arguments : List FileArgument) (n : ℕ) → is_made d caller arguments n ≡ is_made e caller arguments n
    is_made_same [] n = refl
    is_made_same (a ∷ arguments) n = λ i. list_any (λ m. m == n) (made_over_same [] [] refl (a ∷ arguments) i)

    missing_same : (a : FileArgument) → missing d caller a ≡ missing e caller a
    missing_same a = ap (λ (files : List (List ℕ)). if length files == 0 then refusal_row (NoSuchFile a.text) ∷ [] else []) (named_same d e alike caller a)

    pub changes_same : (most : Option ℕ) (status user client : Option (List ℕ)) (arguments : List FileArgument)
        → changes d caller most status user client arguments ≡ changes e caller most status user client arguments
    changes_same most status user client arguments = λ i. tells (flat_map (λ a. missing_same a i) arguments
        ++ map change_row (at_most most (filter (λ l. passes status l.status && passes user l.user && passes client l.client)
        (filter_map (λ n. listed_same n i) (filter (λ n. is_made_same arguments n i) (alike.numbered i))))))
