-- A resolve is of its client and its paths.
use Rattle.std.proofs.Common.{◌≡◌, ℕ, Bool, true, false, List, [], ◌∷◌, Option, Some, None, refl}
use Rattle.std.specs.Prelude.{◌&&◌, IfSome, if◌then◌else◌, option_map}
use Rattle.depot_rows.specs.depot_path.Bytes.{same}
use Rattle.depot_rows.specs.depot_model.Deeds.{Deed, Spec, Guard, Group, Count, Pend, Drop, Open, Shut, Hold, Free, Got, Tag, Owe, Paid, Land}
use Rattle.depot_rows.specs.depot_model.Latest.{is_held}
use Rattle.depot_rows.specs.depot_model.Opened.{owed, Resolve, paid_by}
use Rattle.depot_rows.proofs.Keys.{same-is}
use Rattle.depot_rows.proofs.Resolves.{three_true}

abbrev pub IsOwed : List ℕ → List ℕ → List ℕ → Resolve → Type 0
IsOwed c p f r = (r.owing.client ≡ c) × (r.owing.path ≡ p) × (r.owing.from ≡ f)

pub owed_is : (d : List Deed) (c p f : List ℕ) → IfSome (owed d c p f) (IsOwed c p f)
owed_is [] c p f = tt
owed_is (Spec kind name form ∷ d) c p f = owed_is d c p f
owed_is (Guard lines ∷ d) c p f = owed_is d c p f
owed_is (Group name users ∷ d) c p f = owed_is d c p f
owed_is (Count name value ∷ d) c p f = owed_is d c p f
owed_is (Pend x ∷ d) c p f = owed_is d c p f
owed_is (Drop n ∷ d) c p f = owed_is d c p f
owed_is (Open o ∷ d) c p f = owed_is d c p f
owed_is (Hold held ∷ d) c p f = owed_is d c p f
owed_is (Free held ∷ d) c p f = owed_is d c p f
owed_is (Got held rev ∷ d) c p f = owed_is d c p f
owed_is (Tag label path rev ∷ d) c p f = owed_is d c p f
owed_is (Land l ∷ d) c p f = owed_is d c p f
owed_is (Owe o ∷ d) c p f = go (same o.client c && same o.path p && same o.from f) refl (owed_is d c p f)
  where
    go : (b : Bool) → (same o.client c && same o.path p && same o.from f) ≡ b → IfSome (owed d c p f) (IsOwed c p f)
        → IfSome (if b then Some (record { owing = o; how = None }) else owed d c p f) (IsOwed c p f)
    go true e h =
        let all = three_true (same o.client c) (same o.path p) (same o.from f) e in
        (same-is o.client c all.0, same-is o.path p all.1, same-is o.from f all.2)
    go false e h = h
owed_is (Paid held from how ∷ d) c p f = go (is_held c p held && same from f) (owed d c p f) (owed_is d c p f)
  where
    go : (b : Bool) (o : Option Resolve) → IfSome o (IsOwed c p f) → IfSome (if b then option_map (paid_by how) o else o) (IsOwed c p f)
    go true None h = tt
    go true (Some r) h = h
    go false o h = h
owed_is (Shut held ∷ d) c p f = go (is_held c p held) (owed_is d c p f)
  where
    go : (b : Bool) → IfSome (owed d c p f) (IsOwed c p f) → IfSome (if b then None else owed d c p f) (IsOwed c p f)
    go true h = tt
    go false h = h
