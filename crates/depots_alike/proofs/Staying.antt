-- Depots with the same rows and contents have the same contents after the same deeds.
use Rattle.std.proofs.Common.{◌≡◌, ℕ, zero, suc, List, [], ◌∷◌, ◌++◌, map, Option, refl, sym, ap, ◌∙◌}
use Rattle.std.specs.Prelude.{option_and_then, slice_get}
use Rattle.depot_rows.specs.depot_model.Deeds.{Deed, Land}
use Rattle.depot_rows.specs.depot_model.Revisions.{Revision, revisions, entries_at}
use Rattle.depot_rows.specs.depot_model.Step.{after}
use Rattle.depot_facts.specs.Contents.{SameContents, seen}
use Rattle.depots_alike.proofs.Revisions.{revisions_same}
use Rattle.depots_alike.proofs.Twins.{Twins}

abbrev content : Revision → Option (List ℕ)
content r = r.entry.content

-- the contents of each file in the order of revisions
abbrev SameLists : List Deed → List Deed → Type 0
SameLists d e = (path : List ℕ) → map content (revisions d path) ≡ map content (revisions e path)

seen_content : (rs : List Revision) → map content (map seen rs) ≡ map content rs
seen_content [] = refl
seen_content (r ∷ rs) = ap (λ rest. content r ∷ rest) (seen_content rs)

joined : (rs more : List Revision) → map content (rs ++ more) ≡ map content rs ++ map content more
joined [] more = refl
joined (r ∷ rs) more = ap (λ rest. content r ∷ rest) (joined rs more)

nth : (rs : List Revision) (k : ℕ) → option_and_then (λ (c : Option (List ℕ)). c) (slice_get (map content rs) k) ≡ option_and_then content (slice_get rs k)
nth [] k = refl
nth (r ∷ rs) zero = refl
nth (r ∷ rs) (suc k) = nth rs k

grown : (d e : List Deed) (deed : Deed) → SameLists d e → SameLists (deed ∷ d) (deed ∷ e)
grown d e (Land l) h path =
    joined (revisions d path) (entries_at path l) ∙ ap (λ cs. cs ++ map content (entries_at path l)) (h path) ∙ sym (joined (revisions e path) (entries_at path l))
grown d e _ h path = h path

all_grown : (d e deeds : List Deed) → SameLists d e → SameLists (after d deeds) (after e deeds)
all_grown d e [] h = h
all_grown d e (deed ∷ deeds) h = all_grown (deed ∷ d) (deed ∷ e) deeds (grown d e deed h)

told : (d e : List Deed) → SameLists d e → SameContents d e
told d e h path zero = refl
told d e h path (suc k) =
    sym (nth (revisions d path) k) ∙ ap (λ cs. option_and_then (λ (c : Option (List ℕ)). c) (slice_get cs k)) (h path) ∙ nth (revisions e path) k

pub contents_stay : (d e deeds : List Deed) → Twins d e → SameContents (after d deeds) (after e deeds)
contents_stay d e deeds twins = told (after d deeds) (after e deeds) (all_grown d e deeds (λ path.
    sym (seen_content (revisions d path)) ∙ ap (map content) (revisions_same d e twins path) ∙ seen_content (revisions e path)))
