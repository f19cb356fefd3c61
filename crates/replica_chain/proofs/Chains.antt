-- Nodes behind nodes: journals that are earlier than earlier ones, and archives that have the first bytes of archives that have the first bytes.
use Rattle.std.proofs.Common.{◌≡◌, ◌⊎◌, inl, inr, ℕ, zero, suc, ◌+◌, ◌-◌, ◌≤◌, List, [], ◌∷◌, ◌++◌, length, take, drop, refl, sym, ap, subst, ◌∙◌, arith, length-take, length-append}
use Rattle.std.proofs.Math.Seq.{take-add}
use Rattle.std.proofs.lemmas.List.{drop-take, take-take, take_all, take-append-le, length-take-le}
use Rattle.outside_api.specs.Disk.{Files}
use Rattle.outside_api.specs.Link.{text_of, IsEarlier}
use Rattle.archive_file.specs.Archive.{AllHave, Has}
use Rattle.replica_chain.specs.Node.{HasFrontTo}
use Rattle.archive_file.specs.Contents.{IsFront}

-- ---- journals

-- a front of a front
fronts : (b d : ℕ) (text : List ℕ) → (y : ℕ) × (take b (take d text) ≡ take y text)
fronts b d text = go (order b d)
  where
    order : (n m : ℕ) → (n ≤ m) ⊎ (m ≤ n)
    order zero m = inl (omega arith)
    order (suc n) zero = inr (omega arith)
    order (suc n) (suc m) = step (order n m)
      where
        step : (n ≤ m) ⊎ (m ≤ n) → (suc n ≤ suc m) ⊎ (suc m ≤ suc n)
        step (inl le) = inl (omega (arith, le))
        step (inr le) = inr (omega (arith, le))

    go : (b ≤ d) ⊎ (d ≤ b) → (y : ℕ) × (take b (take d text) ≡ take y text)
    go (inl le) = (b, take-take b d text le)
    go (inr le) = (d, take_all b (take d text) (omega (arith, length-take d text, le)))

-- the journal as it was when so many bytes of a generation were committed
abbrev then : List (List ℕ) → ℕ → ℕ → List (List ℕ)
then now newest bytes = take newest now ++ take bytes (text_of now newest) ∷ []

cut_again : (now : List (List ℕ)) (c d a b : ℕ) → a ≤ c → c ≤ length now - 1 → (x : ℕ) × ((y : ℕ) × ((x ≤ c) × (then (then now c d) a b ≡ then now x y)))
cut_again now zero d zero b le there = let f = fronts b d (text_of now 0) in (0, (f.0, (omega arith, ap (λ (t : List ℕ). t ∷ []) f.1)))
cut_again now zero d (suc a) b le there = absurd (omega (arith, le))
cut_again [] (suc c) d a b le there = absurd (omega (arith, there))
cut_again (text ∷ now) (suc c) d zero b le there = (0, (b, (omega arith, refl)))
cut_again (text ∷ now) (suc c) d (suc a) b le there =
    let deeper = cut_again now c d a b (omega (arith, le)) (omega (arith, there)) in
    (suc deeper.0, (deeper.1.0, (omega (arith, deeper.1.1.0), ap (λ (l : List (List ℕ)). text ∷ l) deeper.1.1.1)))

last_of : (now : List (List ℕ)) (c d : ℕ) → c ≤ length now - 1 → length (then now c d) - 1 ≡ c
last_of now zero d there = omega arith
last_of [] (suc c) d there = absurd (omega (arith, there))
last_of (text ∷ now) (suc c) d there = omega (arith, length_then now c d (omega (arith, there)))
  where
    length_then : (now : List (List ℕ)) (c d : ℕ) → c ≤ length now - 1 → length (then now c d) ≡ c + 1
    length_then now zero d there = omega arith
    length_then [] (suc c) d there = absurd (omega (arith, there))
    length_then (text ∷ now) (suc c) d there = omega (arith, length_then now c d (omega (arith, there)))

-- what is earlier than an earlier journal is earlier
pub earlier_on : (first middle last : List (List ℕ)) → IsEarlier first middle → IsEarlier middle last → IsEarlier first last
earlier_on first middle last one two =
    let a_within : one.newest ≤ two.newest = omega (arith, one.there, ap (λ (l : List (List ℕ)). length l - 1) two.is, last_of last two.newest two.bytes two.there) in
    let found = cut_again last two.newest two.bytes one.newest one.bytes a_within two.there in
    record {
      newest = found.0;
      bytes = found.1.0;
      there = omega (arith, found.1.1.0, two.there);
      is = one.is ∙ ap (λ (l : List (List ℕ)). then l one.newest one.bytes) two.is ∙ found.1.1.1;
    }

-- ---- archives

-- bytes before a place, by what stands before it
front_of : (from n m : ℕ) (file : List ℕ) → from + n ≤ m → take n (drop from file) ≡ take n (drop from (take m file))
front_of from n m file le =
    sym (drop-take from n file) ∙ ap (λ (l : List ℕ). drop from l) (sym (take-take (from + n) m file le)) ∙ drop-take from n (take m file)

-- files with the same first bytes have the same at a spot among them
pub same_at : (file other : List ℕ) (place at n : ℕ) → take place other ≡ take place file → at + n ≤ place → take n (drop at other) ≡ take n (drop at file)
same_at file other place at n same le = front_of at n place other le ∙ ap (λ (l : List ℕ). take n (drop at l)) same ∙ sym (front_of at n place file le)

-- where a file has the first bytes, it has what stands among them
pub at_spot : (file bytes : List ℕ) (place at n : ℕ) → Has file (record { at = 0; length = place }) (take place bytes) → place ≤ length bytes → at + n ≤ place → Has file (record { at = at; length = n }) (take n (drop at bytes))
at_spot file bytes place at n has within le = record {
  within = omega (arith, has.within, le);
  is = front_of at n place file le ∙ ap (λ (l : List ℕ). take n (drop at l)) has.is ∙ sym (front_of at n place bytes le);
}

-- more bytes behind them
pub and_more : (file bytes content : List ℕ) (place n : ℕ) → Has file (record { at = 0; length = place }) (take place bytes) → Has file (record { at = place; length = n }) content → Has bytes (record { at = place; length = n }) content → Has file (record { at = 0; length = place + n }) (take (place + n) bytes)
and_more file bytes content place n first then there = record {
  within = omega (arith, then.within);
  is = take-add place n file ∙ ap (λ (l : List ℕ). l ++ take n (drop place file)) first.is ∙ ap (λ (l : List ℕ). take place bytes ++ l) (then.is ∙ sym there.is) ∙ sym (take-add place n bytes);
}

-- the first bytes of what has grown
pub grown : (images : Files → Type 0) (place : ℕ) (before now : List ℕ) → IsFront before now → HasFrontTo images place before → HasFrontTo images place now
grown images place before now front has =
    let same : take place now ≡ take place before = ap (take place) front.is ∙ take-append-le place before front.more has.within in
    record {
      within = omega (arith, has.within, ap length front.is, length-append before front.more);
      has = subst (AllHave images (record { at = 0; length = place })) (sym same) has.has;
    }

-- the first bytes of an archive that has the first bytes of another
pub front_on : (images : Files → Type 0) (file bytes : List ℕ) (place used : ℕ) → take used file ≡ take used bytes → used ≤ length bytes → HasFrontTo images place (take used file) → HasFrontTo images place bytes
front_on images file bytes place used same within has =
    let room : place ≤ used = omega (arith, has.within, length-take used file) in
    let front : take place (take used file) ≡ take place bytes = ap (take place) same ∙ take-take place used bytes room in
    record { within = omega (arith, room, within); has = subst (AllHave images (record { at = 0; length = place })) front has.has }

-- where it has grown, what stood there still does
pub front_same : (before now : List ℕ) (place : ℕ) → IsFront (take place before) now → place ≤ length before → (take place now ≡ take place before) × (place ≤ length now)
front_same before now place front within =
    let long : length (take place before) ≡ place = length-take-le place before within in (
      ap (take place) front.is ∙ take-append-le place (take place before) front.more (omega (arith, long)) ∙ take-take place place before (omega arith),
      omega (arith, long, ap length front.is, length-append (take place before) front.more),
    )
