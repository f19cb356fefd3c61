-- The first bytes of an archive, when a piece more was copied, and what an archive keeps.
use Rattle.std.proofs.Common.{◌≡◌, ◌⊎◌, inl, inr, ℕ, zero, suc, ◌+◌, ◌≤◌, ◌<◌, ◌^◌, max, min, List, [], ◌++◌, length, take, drop, refl, sym, ap, subst, ◌∙◌, arith, append_assoc, length-append}
use Rattle.std.proofs.Math.Seq.{drop-append_seam}
use Rattle.std.proofs.lemmas.List.{append-nil, length-take-le, take_all, take-take}
use Rattle.outside_api.specs.Disk.{Files, StillTells}
use Rattle.outside_api.specs.Moments.{LeavesOnly, started, then, weaker}
use Rattle.outside_api.specs.Says.{DiskSays}
use Rattle.archive_file.specs.Archive.{AllHave, Has, disk_of, end_of, used_of}
use Rattle.archive_file.specs.Contents.{IsFront}
use Rattle.archive_file.specs.declared.archive.Archive.{Archive}
use Rattle.depot_rows.specs.db_records.declared.change.Spot.{Spot}
use Rattle.recovery.specs.Looking.{OnlyReads}
use Rattle.replica_chain.specs.Copying.{AreCopied, IsAbsent, KeepsUsed}
use Rattle.replica_chain.specs.Node.{HasFrontTo}
use Rattle.replica_chain.proofs.Chains.{and_more, grown}

-- ---- fronts

pub fronts_on : (a b c : List ℕ) → IsFront a b → IsFront b c → IsFront a c
fronts_on a b c first second = record {
  more = first.more ++ second.more;
  is = second.is ∙ ap (λ (l : List ℕ). l ++ second.more) first.is ∙ append_assoc a first.more second.more;
}

pub front_itself : (bytes : List ℕ) → IsFront bytes bytes
front_itself bytes = record { more = []; is = sym (append-nil bytes) }

pub front_more : (old new : Files → Type 0) (place n : ℕ) (mid now content : List ℕ) → IsFront mid now → HasFrontTo old place mid → ((other : Spot) (bytes : List ℕ) → end_of other ≤ place → AllHave old other bytes → AllHave new other bytes)
    → AllHave new (record { at = place; length = n }) content → Has now (record { at = place; length = n }) content → HasFrontTo new (place + n) now
front_more old new place n mid now content more front kept all there =
    let whole : Spot = record { at = 0; length = place } in
    let still : HasFrontTo new place mid = record { within = front.within; has = kept whole (take place mid) (omega arith) front.has } in
    let first = grown new place mid now more still in
    record { within = there.within; has = λ image left. and_more (image 0) now content place n (first.has image left) (all image left) there }

-- the first bytes alone
pub front_cut : (images : Files → Type 0) (place : ℕ) (bytes : List ℕ) → HasFrontTo images place bytes → HasFrontTo images place (take place bytes)
front_cut images place bytes front = record {
  within = omega (arith, length-take-le place bytes front.within);
  has = subst (AllHave images (record { at = 0; length = place })) (sym (take-take place place bytes (omega arith))) front.has;
}

-- a piece more of the same bytes
pub same_more : (old new : Files → Type 0) (place n : ℕ) (mid content : List ℕ) → length mid ≡ place → length content ≡ n → HasFrontTo old place mid → ((other : Spot) (bytes : List ℕ) → end_of other ≤ place → AllHave old other bytes → AllHave new other bytes)
    → AllHave new (record { at = place; length = n }) content → HasFrontTo new (place + n) (mid ++ content)
same_more old new place n mid content long size front kept all =
    front_more old new place n mid (mid ++ content) content (record { more = content; is = refl }) front kept all
    (record {
      within = omega (arith, long, size, length-append mid content);
      is = ap (λ (k : ℕ). take n (drop k (mid ++ content))) (sym long) ∙ ap (take n) (drop-append_seam mid content) ∙ take_all n content (omega (arith, size));
    })

-- ---- what is kept

module _ {D : Type 0} (disk_says : DiskSays D) where
  -- before the first call
  pub keeps_all : (archive : Archive D) → ((image : Files) → disk_says.left_since (disk_of archive) (disk_says.moment (disk_of archive)) image → disk_says.may_leave (disk_of archive) image) → KeepsUsed disk_says archive archive
  keeps_all archive now = record {
    below = λ spot bytes le all. all;
    any_moment = λ spot bytes le all. started disk_says (disk_of archive) (λ image. Has (image 0) spot bytes) (λ image left. all image (now image left));
    tells = λ files sees. (files, sees);
    used = refl;
  }

  -- a call more, which keeps what ends at or before a place
  pub keeps_on : (old mid new : Archive D) (place : ℕ) → used_of old ≤ place → KeepsUsed disk_says old mid
      → ((spot : Spot) (bytes : List ℕ) → end_of spot ≤ place → AllHave (disk_says.may_leave (disk_of mid)) spot bytes → AllHave (disk_says.may_leave (disk_of new)) spot bytes)
      → ((spot : Spot) (bytes : List ℕ) → end_of spot ≤ place → AllHave (disk_says.may_leave (disk_of mid)) spot bytes → LeavesOnly disk_says (disk_of mid) (disk_of new) (λ image. Has (image 0) spot bytes))
      → StillTells (disk_says.seen (disk_of mid)) (disk_says.seen (disk_of new)) → used_of new ≡ used_of mid → KeepsUsed disk_says old new
  keeps_on old mid new place above so_far below any_moment tells used = record {
    below = λ spot bytes le all. below spot bytes (omega (arith, le, above)) (so_far.below spot bytes le all);
    any_moment = λ spot bytes le all.
        then disk_says (disk_of old) (disk_of mid) (disk_of new) (λ image. Has (image 0) spot bytes) (so_far.any_moment spot bytes le all)
        (any_moment spot bytes (omega (arith, le, above)) (so_far.below spot bytes le all));
    tells = λ files sees. (let mid_sees = so_far.tells files sees in tells mid_sees.0 mid_sees.1);
    used = used ∙ so_far.used;
  }

  -- a reading more
  pub keeps_read : (old mid new : Archive D) → KeepsUsed disk_says old mid → OnlyReads disk_says (disk_of mid) (disk_of new) → used_of new ≡ used_of mid → KeepsUsed disk_says old new
  keeps_read old mid new so_far reads used = record {
    below = λ spot bytes le all image left. so_far.below spot bytes le all image (reads.no_more image left);
    any_moment = λ spot bytes le all.
        then disk_says (disk_of old) (disk_of mid) (disk_of new) (λ image. Has (image 0) spot bytes) (so_far.any_moment spot bytes le all)
        (weaker disk_says (disk_of mid) (disk_of new) (disk_says.may_leave (disk_of mid)) (λ image. Has (image 0) spot bytes) (so_far.below spot bytes le all) reads.any_moment);
    tells = λ files sees. (let mid_sees = so_far.tells files sees in (mid_sees.0, reads.same.kept mid_sees.0 mid_sees.1));
    used = used ∙ so_far.used;
  }

  -- what was copied is there still
  front_read : (mid new : Archive D) (place : ℕ) (bytes : List ℕ) → OnlyReads disk_says (disk_of mid) (disk_of new) → HasFrontTo (disk_says.may_leave (disk_of mid)) place bytes → HasFrontTo (disk_says.may_leave (disk_of new)) place bytes
  front_read mid new place bytes reads front = record { within = front.within; has = λ image left. front.has image (reads.no_more image left) }

  pub copied_read : (told_before told_now : List ℕ → Type 0) (old mid new : Archive D) (place : ℕ) → AreCopied disk_says told_before told_now old mid place → OnlyReads disk_says (disk_of mid) (disk_of new)
      → AreCopied disk_says told_before told_now old new place
  copied_read told_before told_now old mid new place copied reads = record {
    reach = λ image left. copied.reach image (reads.no_more image left);
    same = λ before front. (let now = copied.same before front in (now.0, (now.1.0, front_read mid new (max (used_of old) place) now.0 reads now.1.1)));
    told = λ before told front. (let now = copied.told before told front in (now.0, (now.1.0, (now.1.1.0, front_read mid new (max (used_of old) place) now.0 reads now.1.1.1))));
  }

-- ---- where spots end

less_or_not : (a b : ℕ) → (a < b) ⊎ (b ≤ a)
less_or_not a zero = inr (omega arith)
less_or_not zero (suc b) = inl (omega arith)
less_or_not (suc a) (suc b) = step (less_or_not a b)
  where
    step : (a < b) ⊎ (b ≤ a) → (suc a < suc b) ⊎ (suc b ≤ suc a)
    step (inl less) = inl (omega (arith, less))
    step (inr le) = inr (omega (arith, le))

-- an end that isn't behind the longest file is exact
pub exact_end : (used end named : ℕ) → end ≡ min named 18446744073709551615 → (used < end → end < 2 ^ 63) → used < 2 ^ 63 → (end ≡ named) × (end < 2 ^ 63)
exact_end used end named is fits small = go (less_or_not used end)
  where
    go : (used < end) ⊎ (end ≤ used) → (end ≡ named) × (end < 2 ^ 63)
    go (inl less) = let fit = fits less in (omega (arith, is, fit), fit)
    go (inr le) = (omega (arith, is, le, small), omega (arith, le, small))

-- a piece that isn't there up to the one end isn't there up to a later one
pub absent_more : (bytes : List ℕ) (from end named at : ℕ) → end ≡ min named 18446744073709551615 → IsAbsent bytes from end at → IsAbsent bytes from named at
absent_more bytes from end named at is a = record {
  behind = a.behind;
  before = (let before = a.before in omega (arith, is, before));
  absent = (let absent = a.absent in omega (arith, is, absent));
}
