-- The ends of the revisions that are left are those of the model.
use Rattle.std.proofs.Common.{◌≡◌, ℕ, List, [], ◌∷◌, Some, None, refl, sym, ap}
use Rattle.std.specs.Prelude.{unwrap_or}
use Rattle.std.specs.List.{last_or}
use Rattle.integ_records.specs.Ends.{ends_from, ends_of, last_in}

-- the last of them
ends_last : (first m k : ℕ) (revs : List ℕ) → ends_from (Some (record { first = first; last = m })) revs ≡ Some (record { first = first; last = unwrap_or (last_or (Some m) revs) k })
ends_last first m k [] = refl
ends_last first m k (n ∷ revs) = ends_last first n k revs

pub ends_are : (first : ℕ) (revs : List ℕ) → ends_of (first ∷ revs) ≡ Some (record { first = first; last = unwrap_or (last_or (Some first) revs) first })
ends_are first revs = ends_last first first first revs

pub last_is : (revs : List ℕ) → unwrap_or (last_or None revs) 0 ≡ last_in (ends_of revs)
last_is [] = refl
last_is (first ∷ revs) = sym (ap last_in (ends_last first first 0 revs))
