-- Marks of parties, and the counts of failed disks that they stand for.
use Rattle.std.proofs.Common.{◌≡◌, ◌≤◌, ◌+◌, ◌⊎◌, ◌∙◌, ◌==◌, ℕ, Bool, true, false, cond, List, [], ◌∷◌, ◌++◌, length, map, Result, Ok, Err, inl, inr, refl, sym, ap, arith}
use Rattle.std.specs.Prelude.{IfOk, OnErr, OnOk, count_by, is_err}
use Rattle.std.specs.List.{AllByRecursion}
use mathlib.Core.List.{IsPrefix, map-append}
use Rattle.std.proofs.lemmas.Bool.{true≢false}
use Rattle.std.proofs.lemmas.List.{length-append}
use Rattle.std.proofs.lemmas.List.Elements.{filter-append}
use Rattle.depot_rows.specs.depot_model.Deeds.{Deed}
use Rattle.depot_rows.specs.depot_model.declared.order.Place.{Place}
use Rattle.depot_rows.specs.table_changes.Changed.{AllRows}
use Rattle.locked_tables.specs.Known.{GoesOnWithout}
use Rattle.locked_tables.specs.Taken.{archive_lane, place_of}
use Rattle.locked_tables.specs.declared.taken.Taken.{Taken}
use Rattle.outside_api.specs.Count.{HasRisen}
use Rattle.outside_api.specs.Disk.{Files}
use Rattle.outside_api.specs.Says.{DiskSays}
use Rattle.order_words.specs.Seats.{Run}
use Rattle.party_marks.specs.Marks.{IsMarkOf, MayMark, marks_of}
use Rattle.party_marks.specs.declared.mark.Mark.{Mark}
use Rattle.replica_turns.specs.Going.{is_lost as tells_lost, one_if}
use Rattle.replica_turns.specs.declared.party.Answered.{Answered}
use Rattle.session_loop.specs.Served.{HaveRisenBy, fault_count}
use Rattle.shared_depot.specs.Common.{AreFaultless, GoesOnQuietly, IsCountAfter}
use Rattle.shared_depot.specs.Stored.{is_lost, is_unwritten}
use Rattle.shared_depot.proofs.Stored.{all_faults, count_append, count_caused, count_first, count_one, lost_kept}

-- an answer that tells of a failed disk has its cause
lost_caused : {E : Type 0} (answer : Result Answered E) (Cause : Type 0) → IfOk answer (λ answered. answered.lost ≡ true → Cause) → tells_lost answer ≡ true → Cause
lost_caused (Ok answered) Cause cause lost = cause lost
lost_caused (Err error) Cause cause lost = absurd (true≢false (sym lost))

-- and one that tells of none leaves the count
lost_only : {E : Type 0} (answer : Result Answered E) (Stands : Type 0) → IfOk answer (λ answered. answered.lost ≡ false → Stands) → OnErr answer Stands → tells_lost answer ≡ false → Stands
lost_only (Ok answered) Stands only no_memory kept = only kept
lost_only (Err error) Stands only no_memory kept = no_memory

-- what an answer that is no error leaves
pub ok_has : {T E : Type 0} (answer : Result T E) (P : Type 0) → OnOk answer P → is_err answer ≡ false → P
ok_has (Ok x) P has ok = has
ok_has (Err e) P has ok = absurd (true≢false ok)

-- ---- places of a fault

-- the first places of those without a fault are without one
pub faultless_first : (known order : List Taken) → IsPrefix known order → AreFaultless order → AreFaultless known
faultless_first known order begins none =
    let rest = begins.0 in
    let all = ap (λ (l : List Taken). fault_count (map place_of l)) begins.1 in
    let apart = ap fault_count (map-append place_of known rest) ∙ count_append (λ (place : Place). place.fault) (map place_of known) (map place_of rest) in
    omega (arith, all, apart, none)

-- and so is the last one
pub faultless_last : (order : List Taken) (entry : Taken) → AreFaultless (order ++ entry ∷ []) → entry.fault ≡ false
faultless_last order entry none =
    let apart = ap fault_count (map-append place_of order (entry ∷ [])) ∙ count_append (λ (place : Place). place.fault) (map place_of order) (place_of entry ∷ []) in
    let one = count_first (λ (place : Place). place.fault) (place_of entry) [] in
    go entry.fault (omega (arith, apart, one, none))
  where
    go : (fault : Bool) → cond {A = ℕ} fault 1 0 ≡ 0 → fault ≡ false
    go false is = refl
    go true is = absurd (omega (arith, is))

-- ---- the count of a disk

module _ (failed_at : Taken → Bool) (first : ℕ) where
  abbrev Counted : ℕ → List Taken → List Mark → Type 0
  Counted now order marks = IsCountAfter failed_at first now order marks

  -- at the start there is neither a place nor a mark
  pub count_new : (now : ℕ) (order : List Taken) (marks : List Mark) → order ≡ [] → marks ≡ [] → now ≡ first → Counted now order marks
  count_new now order marks fresh none same =
      let places = ap (count_by failed_at) fresh in
      let made = ap (length {A = Mark}) none in
      record { caused = omega (arith, places, made, same); no_fewer = omega (arith, same); stand = λ faultless unmarked. same }

  -- more places came, and the disk failed at none of them
  pub count_on : (mid now : ℕ) (known order : List Taken) (marks : List Mark) → mid ≤ now → IsPrefix known order → count_by failed_at order ≡ count_by failed_at known → (AreFaultless order → now ≡ mid)
      → Counted mid known marks → Counted now order marks
  count_on mid now known order marks le begins as_many only was = record {
    caused = let before = was.caused in omega (arith, before, as_many, le);
    no_fewer = let before = was.no_fewer in omega (arith, before, le);
    stand = λ none unmarked. only none ∙ was.stand (faultless_first known order begins none) unmarked;
  }

  -- one place more, at which it failed only where its count rose
  pub count_placed : (mid now : ℕ) (order : List Taken) (entry : Taken) (marks : List Mark) → mid ≤ now → (failed_at entry ≡ true → HasRisen mid now) → (entry.fault ≡ false → now ≡ mid)
      → Counted mid order marks → Counted now (order ++ entry ∷ []) marks
  count_placed mid now order entry marks le risen only was = record {
    caused =
        let one = count_one failed_at order entry in
        let more = count_caused (count_by failed_at order + length marks) first mid now (failed_at entry) was.caused le risen in
        omega (arith, one, more);
    no_fewer = let before = was.no_fewer in omega (arith, before, le);
    stand = λ none unmarked. only (faultless_last order entry none) ∙ was.stand (faultless_first order (order ++ entry ∷ []) (entry ∷ [], refl) none) unmarked;
  }

  -- a mark may have been made, just where its count rose
  pub count_marked : (mid now : ℕ) (order : List Taken) (old new : List Mark) (lost : Bool) → mid ≤ now → (lost ≡ true → HasRisen mid now) → (lost ≡ false → now ≡ mid)
      → length new ≤ length old + one_if lost → (length new ≡ 0 → length old + one_if lost ≡ 0) → Counted mid order old → Counted now order new
  count_marked mid now order old new lost le risen only few none was = record {
    caused = let more = count_caused (count_by failed_at order + length old) first mid now lost was.caused le risen in omega (arith, more, few);
    no_fewer = let before = was.no_fewer in omega (arith, before, le);
    stand = λ faultless unmarked. go lost refl (none unmarked) faultless;
  }
    where
      go : (told : Bool) → lost ≡ told → length old + one_if told ≡ 0 → AreFaultless order → now ≡ first
      go true is empty faultless = absurd (omega (arith, empty))
      go false is empty faultless = only is ∙ was.stand faultless (omega (arith, empty))

-- a replica's answer may have made one
pub count_answered : {E : Type 0} (failed_at : Taken → Bool) (first mid now : ℕ) (order : List Taken) (old new : List Mark) (answer : Result Answered E) → mid ≤ now → IfOk answer (λ answered. answered.lost ≡ true → HasRisen mid now)
    → IfOk answer (λ answered. answered.lost ≡ false → now ≡ mid) → OnErr answer (now ≡ mid) → length new ≡ length old + one_if (tells_lost answer) → IsCountAfter failed_at first mid order old → IsCountAfter failed_at first now order new
count_answered failed_at first mid now order old new answer le cause only no_memory more was =
    count_marked failed_at first mid now order old new (tells_lost answer) le (lost_caused answer (HasRisen mid now) cause) (lost_only answer (now ≡ mid) only no_memory) (omega (arith, more)) (λ unmarked. omega (arith, more, unmarked)) was

-- the archive's lane learnt more places
pub count_learnt : (first now : ℕ) (known order : List Taken) (marks : List Mark) → GoesOnWithout archive_lane known order → IsCountAfter is_lost first now known marks → IsCountAfter is_lost first now order marks
count_learnt first now known order marks on was = count_on is_lost first now now known order marks (omega arith) (on.behind, sym on.parts) (lost_kept known order on) (λ none. refl) was

-- the journal's did
pub count_quietly : {D : Type 0} {disk_says : DiskSays D} {rows : AllRows} {end : ℕ} {images : Files → Type 0} {begins : ℕ → List Deed → Type 0} (first now : ℕ) (known order : List Taken) (marks : List Mark)
    → GoesOnQuietly disk_says rows end images begins known order → IsCountAfter is_unwritten first now known marks → IsCountAfter is_unwritten first now order marks
count_quietly first now known order marks on was = count_on is_unwritten first now now known order marks (omega arith) on.begins_it on.unwritten (λ none. refl) was

-- the two counts together
pub both_risen : (first now contents_first contents_now : ℕ) (order : List Taken) (marks contents : List Mark) → IsCountAfter is_unwritten first now order marks → IsCountAfter is_lost contents_first contents_now order contents
    → HaveRisenBy (fault_count (map place_of order) + length (marks ++ contents)) first now contents_first contents_now
both_risen first now contents_first contents_now order marks contents one other =
    let all = all_faults order in
    let both = length-append marks contents in
    (count_by is_unwritten order + length marks, count_by is_lost order + length contents, omega (arith, all, both), one.caused, other.caused)

-- ---- marks of both kinds, one list behind the other

-- those of a party
marks_apart : (party : ℕ) (first second : List Mark) → marks_of party (first ++ second) ≡ marks_of party first ++ marks_of party second
marks_apart party first second = filter-append (λ (mark : Mark). mark.party == party) first second

count_apart : (party : ℕ) (first second : List Mark) → length (marks_of party (first ++ second)) ≡ length (marks_of party first) + length (marks_of party second)
count_apart party first second = ap (length {A = Mark}) (marks_apart party first second) ∙ length-append (marks_of party first) (marks_of party second)

-- with those of the other kind behind them
pub marked_before : (party : ℕ) (old new contents : List Mark) (more : ℕ) → length (marks_of party new) ≡ length (marks_of party old) + more → length (marks_of party (new ++ contents)) ≡ length (marks_of party (old ++ contents)) + more
marked_before party old new contents more is = let now = count_apart party new contents in let before = count_apart party old contents in omega (arith, now, before, is)

-- or before them
pub marked_behind : (party : ℕ) (journal old new : List Mark) (more : ℕ) → length (marks_of party new) ≡ length (marks_of party old) + more → length (marks_of party (journal ++ new)) ≡ length (marks_of party (journal ++ old)) + more
marked_behind party journal old new more is = let now = count_apart party journal new in let before = count_apart party journal old in omega (arith, now, before, is)

-- a party has made those that it knows
pub marked_alike : (party : ℕ) (journal archive marks contents : List Mark) → marks_of party marks ≡ marks_of party journal → marks_of party contents ≡ marks_of party archive
    → marks_of party (marks ++ contents) ≡ marks_of party (journal ++ archive)
marked_alike party journal archive marks contents own own_contents = marks_apart party marks contents ∙ ((λ k. own k ++ own_contents k) ∙ sym (marks_apart party journal archive))

-- an answer that tells of no failed disk leaves them
pub marked_still : (count : ℕ) (lost : Bool) → lost ≡ false → count ≡ count + one_if lost
marked_still count lost not_so = let none = ap one_if not_so in omega (arith, none)

-- each mark of both kinds is of a party of the run
pub both_of_run : (run contents_run : Run) (marks contents : List Mark) → AllByRecursion (IsMarkOf run) marks → AllByRecursion (IsMarkOf contents_run) contents
    → AllByRecursion (λ (mark : Mark). MayMark run mark.party ⊎ MayMark contents_run mark.party) (marks ++ contents)
both_of_run run contents_run [] [] all others = tt
both_of_run run contents_run [] (mark ∷ contents) all others = (inr others.0.party, both_of_run run contents_run [] contents all others.1)
both_of_run run contents_run (mark ∷ marks) contents all others = (inl all.0.party, both_of_run run contents_run marks contents all.1 others)
