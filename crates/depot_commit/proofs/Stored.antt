-- Contents that are stored, and those that stay.
use Rattle.std.proofs.Common.{◌≡◌, ℕ, zero, suc, ◌≤◌, ◌<◌, ◌+◌, ◌^◌, get_or, Bool, true, false, cond, eqb, List, [], ◌∷◌, ◌++◌, length, take, Result, Ok, Err, inl, inr, refl, sym, ap, subst, ◌∙◌, arith}
use Rattle.std.specs.Prelude.{OnErr, option_and_then}
use Rattle.std.specs.List.{AllByRecursion, filter}
use Rattle.std.proofs.lemmas.List.{take_all, take_more}
use Rattle.outside_api.specs.Count.{HasCause, HasRisen}
use Rattle.outside_api.specs.Disk.{Files, NoMore, StillTells}
use Rattle.outside_api.specs.Says.{DiskSays}
use Rattle.depot_rows.specs.depot_path.Path.{printed}
use Rattle.archive_file.specs.Archive.{AllHave, Has, RisesForFaults, disk_of, end_of, used_of}
use Rattle.archive_file.specs.declared.archive.Archive.{Archive}
use Rattle.archive_file.specs.declared.archive.ContentFault.{ContentFault}
use Rattle.archive_file.specs.declared.archive.ContentFault.TheVariants.{DiskFault, Memory}
use Rattle.depot_rows.specs.db_records.Record.{table_of}
use Rattle.depot_rows.specs.db_records.Table.{table_number}
use Rattle.depot_rows.specs.db_records.declared.change.Change.{Change}
use Rattle.depot_rows.specs.db_records.declared.change.Op.{Op}
use Rattle.depot_rows.specs.db_records.declared.change.Op.TheVariants.{Put, Replace, Remove}
use Rattle.depot_rows.specs.db_records.declared.change.Spot.{Spot}
use Rattle.depot_rows.specs.db_records.declared.key.Key.TheVariants as keys
use Rattle.depot_rows.specs.db_records.declared.record.Record.{Record}
use Rattle.depot_rows.specs.db_records.declared.record.Record.TheVariants.{Rev as RevRow}
use Rattle.depot_rows.specs.db_records.declared.rows.RevRecord.{RevRecord}
use Rattle.depot_rows.specs.db_records.declared.table.TableId.TheVariants.{Rev}
use Rattle.depot_rows.specs.table_store.Rows.{changed_once, is_above, is_below, left_by}
use Rattle.depot_rows.specs.db_records.Record.{key_of}
use Rattle.depot_rows.specs.table_changes.Changed.{AllRows, changed_by, changed_in}
use Rattle.depot_rows.specs.depot_model.Deeds.{Deed}
use Rattle.depot_rows.specs.depot_model.Revisions.{Revision, revision}
use Rattle.depot_rows.specs.depot_model.Rules.{IsSound}
use Rattle.depot_rows.specs.Standing.{Stand}
use Rattle.recovery.proofs.GoodSpots.{row_end}
use Rattle.recovery.specs.Holding.{spots_end}
use Rattle.recovery.specs.Rules.{DeletesAreUnplaced}
use Rattle.recovery.specs.Standing.{HasContent}
use Rattle.reply_rows.specs.declared.content.RowContent.{RowContent}
use Rattle.step_stores.specs.Stored.{StandsAmong}
use Rattle.stored_contents.specs.Placed.{HasNoneIfDeleted, HasPlace, HasSpot, IfPut, IsPlacedAt, StandAfter, spot_of}
use Rattle.depot_commit.specs.Holding.{KeepContents}
use Rattle.depot_commit.proofs.Contents.{one_row, revision_there}
use Rattle.depot_commit.proofs.Staying.{row_there}
use Rattle.depot_commit.specs.Placing.{KeepsUsed}
use Rattle.depot_commit.specs.Storing.{AllReach, AllStored, AllStoredTo, AreAt, AreStored, HasStored, IsAt, KeepsBelow, stores_end}

-- what holds anyway holds on an error
pub on_err : {T E : Type 0} (result : Result T E) (P : Type 0) → P → OnErr result P
on_err (Ok x) P p = tt
on_err (Err e) P p = p

-- ---- images that keep contents

pub keeps_more : (old new : Files → Type 0) (place : ℕ) → NoMore old new → KeepsBelow old new place
keeps_more old new place more spot bytes le all image left = all image (more image left)

pub keeps_same : (old : Files → Type 0) (place : ℕ) → KeepsBelow old old place
keeps_same old place spot bytes le all = all

-- how far a spot reaches, as an empty content there
reach_of : (images : Files → Type 0) (place : ℕ) → AllReach images place → AllHave images (record { at = place; length = 0 }) []
reach_of images place reach image left = record { within = let far = reach image left in omega (arith, far); is = refl }

pub keeps_reach : (old new : Files → Type 0) (used place : ℕ) → used ≤ place → KeepsBelow old new place → AllReach old used → AllReach new used
keeps_reach old new used place le keeps reach image left =
    let there = keeps (record { at = used; length = 0 }) [] (omega (arith, le)) (reach_of old used reach) image left in
    let within = there.within in
    omega (arith, within)

-- ---- where spots end

ends_append : (xs ys : List Record) (place : ℕ) → spots_end xs ≤ place → spots_end ys ≤ place → spots_end (xs ++ ys) ≤ place
ends_append [] ys place first second = second
ends_append (x ∷ xs) ys place first second = let rest = ends_append xs ys place (omega (arith, first)) second in omega (arith, first, rest)

ends_filter : (test : Record → Bool) (xs : List Record) (place : ℕ) → spots_end xs ≤ place → spots_end (filter test xs) ≤ place
ends_filter test [] place le = le
ends_filter test (x ∷ xs) place le = go (test x) (ends_filter test xs place (omega (arith, le)))
  where
    go : (b : Bool) → spots_end (filter test xs) ≤ place → spots_end (cond b (x ∷ filter test xs) (filter test xs)) ≤ place
    go true rest = omega (arith, le, rest)
    go false rest = rest

ends_once : (rows : List Record) (change : Change) (place : ℕ) → spots_end rows ≤ place → spots_end (left_by change.op change.row) ≤ place → spots_end (changed_once rows change) ≤ place
ends_once rows change place le put =
    ends_append (filter (is_below (key_of change.row)) rows) (left_by change.op change.row ++ filter (is_above (key_of change.row)) rows) place
    (ends_filter (is_below (key_of change.row)) rows place le)
    (ends_append (left_by change.op change.row) (filter (is_above (key_of change.row)) rows) place put (ends_filter (is_above (key_of change.row)) rows place le))

ends_changed : (rows : AllRows) (changes : List Change) (place : ℕ) → spots_end (rows Rev) ≤ place → AllByRecursion (λ change. spots_end (left_by change.op change.row) ≤ place) changes
    → spots_end (changed_by rows changes Rev) ≤ place
ends_changed rows [] place le all = le
ends_changed rows (change ∷ changes) place le all =
    ends_changed (changed_in rows change) changes place (go (eqb (table_number Rev) (table_number (table_of change.row)))) all.1
  where
    go : (b : Bool) → spots_end (cond b (changed_once (rows Rev) change) (rows Rev)) ≤ place
    go true = ends_once (rows Rev) change place le all.0
    go false = le

-- ---- deleted revisions without a place

unplaced_append : (xs ys : List Record) → DeletesAreUnplaced xs → DeletesAreUnplaced ys → DeletesAreUnplaced (xs ++ ys)
unplaced_append [] ys first second = second
unplaced_append (x ∷ xs) ys first second = (first.0, unplaced_append xs ys first.1 second)

unplaced_filter : (test : Record → Bool) (xs : List Record) → DeletesAreUnplaced xs → DeletesAreUnplaced (filter test xs)
unplaced_filter test [] all = tt
unplaced_filter test (x ∷ xs) all = go (test x) (unplaced_filter test xs all.1)
  where
    go : (b : Bool) → DeletesAreUnplaced (filter test xs) → DeletesAreUnplaced (cond b (x ∷ filter test xs) (filter test xs))
    go true rest = (all.0, rest)
    go false rest = rest

deletes_changed : (rows : AllRows) (changes : List Change) → DeletesAreUnplaced (rows Rev) → AllByRecursion (λ change. DeletesAreUnplaced (left_by change.op change.row)) changes
    → DeletesAreUnplaced (changed_by rows changes Rev)
deletes_changed rows [] old all = old
deletes_changed rows (change ∷ changes) old all =
    deletes_changed (changed_in rows change) changes (go (eqb (table_number Rev) (table_number (table_of change.row)))) all.1
  where
    go : (b : Bool) → DeletesAreUnplaced (cond b (changed_once (rows Rev) change) (rows Rev))
    go true =
        unplaced_append (filter (is_below (key_of change.row)) (rows Rev)) (left_by change.op change.row ++ filter (is_above (key_of change.row)) (rows Rev))
        (unplaced_filter (is_below (key_of change.row)) (rows Rev) old)
        (unplaced_append (left_by change.op change.row) (filter (is_above (key_of change.row)) (rows Rev)) all.0 (unplaced_filter (is_above (key_of change.row)) (rows Rev) old))
    go false = old

put_unplaced : (op : Op) (row : Record) → IfPut HasNoneIfDeleted op row → DeletesAreUnplaced (left_by op row)
put_unplaced Remove row none = tt
put_unplaced Put (RevRow row) none = (λ dead. ap (λ (s : Spot). s.at) (none dead), tt)
put_unplaced Replace (RevRow row) none = (λ dead. ap (λ (s : Spot). s.at) (none dead), tt)
put_unplaced Put _ none = (tt, tt)
put_unplaced Replace _ none = (tt, tt)

puts_unplaced : (changes : List Change) → AllByRecursion (λ change. IfPut HasNoneIfDeleted change.op change.row) changes → AllByRecursion (λ change. DeletesAreUnplaced (left_by change.op change.row)) changes
puts_unplaced [] all = tt
puts_unplaced (change ∷ changes) all = (put_unplaced change.op change.row all.0, puts_unplaced changes all.1)

-- ---- where contents are stored

pub grows : (stores : List (List ℕ)) (from : ℕ) → from ≤ stores_end stores from
grows [] from = omega arith
grows (store ∷ stores) from = let rest = grows stores (from + length store) in omega (arith, rest)

among_end : (stores : List (List ℕ)) (from : ℕ) (spot : Spot) (bytes : List ℕ) → StandsAmong stores from spot bytes → end_of spot ≤ stores_end stores from
among_end [] from spot bytes there = absurd there
among_end (store ∷ stores) from spot bytes (inl here) = let end : end_of spot ≡ from + length store = ap end_of here.0 in let rest = grows stores (from + length store) in omega (arith, end, rest)
among_end (store ∷ stores) from spot bytes (inr later) = among_end stores (from + length store) spot bytes later

module _ (rows : AllRows) (d : List Deed) (stores : List (List ℕ)) (from place : ℕ) (old : spots_end (rows Rev) ≤ place) (new : stores_end stores from ≤ place) where
  placed_end : (spot : Spot) (bytes : List ℕ) → IsPlacedAt rows d stores from spot bytes → end_of spot ≤ place
  placed_end spot bytes (inl s) =
      let end : end_of spot ≡ s.row.at + s.row.length = ap end_of s.at in
      let le : s.row.at + s.row.length ≤ spots_end (rows Rev) = row_end (rows Rev) (keys.Rev (printed s.path) s.rev) (RevRow s.row) s.there in
      omega (arith, end, le, old)
  placed_end spot bytes (inr among) = let le = among_end stores from spot bytes among in omega (arith, le, new)

  row_placed : (row : RevRecord) → HasSpot rows d stores from row → spots_end (RevRow row ∷ []) ≤ place
  row_placed row (inl none) = let end : row.at + row.length ≡ 0 + 0 = ap end_of none in omega (arith, end)
  row_placed row (inr (bytes, at)) = let le : row.at + row.length ≤ place = placed_end (spot_of row) bytes at in omega (arith, le)

  put_end : (op : Op) (row : Record) → HasPlace rows d stores from op row → spots_end (left_by op row) ≤ place
  put_end Remove row has = omega arith
  put_end Put (RevRow row) has = row_placed row has
  put_end Replace (RevRow row) has = row_placed row has
  put_end Put _ has = omega arith
  put_end Replace _ has = omega arith

  puts_end : (changes : List Change) → AllByRecursion (λ change. HasPlace rows d stores from change.op change.row) changes → AllByRecursion (λ change. spots_end (left_by change.op change.row) ≤ place) changes
  puts_end [] all = tt
  puts_end (change ∷ changes) all = (put_end change.op change.row all.0, puts_end changes all.1)

  pub ends_after : (changes : List Change) → AllByRecursion (λ change. HasPlace rows d stores from change.op change.row) changes → spots_end (changed_by rows changes Rev) ≤ place
  ends_after changes all = ends_changed rows changes place old (puts_end changes all)

-- ---- one content more is stored

pub end_push : (stores : List (List ℕ)) (from : ℕ) (store : List ℕ) → stores_end (stores ++ store ∷ []) from ≡ stores_end stores from + length store
end_push [] from store = refl
end_push (first ∷ stores) from store = end_push stores (from + length first) store

pub stored_push : (images : Files → Type 0) (stores : List (List ℕ)) (from : ℕ) (store : List ℕ) → AllStored images stores from
    → AllHave images (record { at = stores_end stores from; length = length store }) store → AllStored images (stores ++ store ∷ []) from
stored_push images [] from store all here = (here, tt)
stored_push images (first ∷ stores) from store all here = (all.0, stored_push images stores (from + length first) store all.1 here)

pub stored_kept : (old new : Files → Type 0) (place : ℕ) (stores : List (List ℕ)) (from : ℕ) → KeepsBelow old new place → stores_end stores from ≤ place → AllStored old stores from → AllStored new stores from
stored_kept old new place [] from keeps le all = tt
stored_kept old new place (store ∷ stores) from keeps le all =
    let rest = grows stores (from + length store) in
    (keeps (record { at = from; length = length store }) store (omega (arith, rest, le)) all.0, stored_kept old new place stores (from + length store) keeps le all.1)

module _ (contents : List (List ℕ)) (i at : ℕ) (x : List ℕ) (lt : i < length contents) (is : x ≡ get_or contents i x) where
  taken_more : take (i + 1) contents ≡ take i contents ++ x ∷ []
  taken_more = take_more contents i x lt ∙ ap (λ (y : List ℕ). take i contents ++ y ∷ []) (sym is)

  end_more : stores_end (take (i + 1) contents) at ≡ stores_end (take i contents) at + length x
  end_more = ap (λ (l : List (List ℕ)). stores_end l at) taken_more ∙ end_push (take i contents) at x

  stored_more : (old new : Files → Type 0) (end : ℕ) → end ≡ stores_end (take i contents) at → KeepsBelow old new end → AllStored old (take i contents) at
      → AllHave new (record { at = end; length = length x }) x → AllStored new (take (i + 1) contents) at
  stored_more old new end end_is keeps all here =
      let P : List (List ℕ) → Type 0 = λ l. AllStored new l at in
      let Q : ℕ → Type 0 = λ n. AllHave new (record { at = n; length = length x }) x in
      subst P (sym taken_more) (stored_push new (take i contents) at x (stored_kept old new end (take i contents) at keeps (omega (arith, end_is)) all) (subst Q end_is here))

  -- it is at its spot, behind the others
  pub stored_next : {bytes : List ℕ} → bytes ≡ x → {old new : Files → Type 0} {end : ℕ} {spot : Spot} → AllStoredTo old (take i contents) at end → KeepsBelow old new end → spot ≡ record { at = end; length = length bytes } → AllHave new spot bytes
      → end_of spot < 2 ^ 63 → AllStoredTo new (take (i + 1) contents) at (end_of spot)
  stored_next {bytes} same {old} {new} {end} {spot} was keeps spot_is here small =
      let here_is : spot ≡ record { at = end; length = length x } = spot_is ∙ ap (λ (l : List ℕ). let s : Spot = record { at = end; length = length l } in s) same in
      record {
        end_is = ap end_of here_is ∙ (ap (λ (n : ℕ). n + length x) was.end_is ∙ sym end_more);
        fits = small;
        stored = stored_more old new end was.end_is keeps was.stored (subst (λ (s : Spot). AllHave new s x) here_is (subst (AllHave new spot) same here));
        room = λ files seen. (here files seen).within;
      }

-- all of them are, in images that are no others
pub stored_in : (contents : List (List ℕ)) (n : ℕ) → length contents ≤ n → {old new : Files → Type 0} {at end : ℕ} → AllStoredTo old (take n contents) at end → NoMore old new → AllStoredTo new contents at end
stored_in contents n all {old} {new} {at} {end} stored more =
    let was = subst (λ (l : List (List ℕ)). AllStoredTo old l at end) (take_all n contents all) stored in
    let end_is = was.end_is in
    record { end_is = end_is; fits = was.fits; stored = stored_kept old new end contents at (keeps_more old new end more) (omega (arith, end_is)) was.stored; room = λ image left. was.room image (more image left) }

module _ {D : Type 0} {disk_says : DiskSays D} where
  -- nothing was done
  pub used_same : {place : ℕ} {archive : Archive D} → KeepsUsed disk_says place archive archive
  used_same {place} {archive} = record { kept = keeps_same (disk_says.may_leave (disk_of archive)) place; told = λ files read. (files, read); used = refl }

  -- something, and then something behind it
  pub used_two : {place end : ℕ} {old mid new : Archive D} → place ≤ end → KeepsUsed disk_says place old mid → KeepsUsed disk_says end mid new → KeepsUsed disk_says place old new
  used_two {place} {end} {old} {mid} {new} le first second = record {
    kept = λ spot bytes before all. second.kept spot bytes (omega (arith, before, le)) (first.kept spot bytes before all);
    told = λ files read. let there = first.told files read in second.told there.0 there.1;
    used = second.used ∙ first.used;
  }

  -- or a sync
  pub used_synced : {place : ℕ} {old mid new : Archive D} → KeepsUsed disk_says place old mid → NoMore (disk_says.may_leave (disk_of mid)) (disk_says.may_leave (disk_of new)) → StillTells (disk_says.seen (disk_of mid)) (disk_says.seen (disk_of new))
      → used_of new ≡ used_of mid → KeepsUsed disk_says place old new
  used_synced {place} {old} {mid} {new} first more told used =
      used_two (omega arith) first (record { kept = keeps_more (disk_says.may_leave (disk_of mid)) (disk_says.may_leave (disk_of new)) place more; told = told; used = used })

-- the cause of a fault that is passed on, after calls that didn't fail
pub cause_passed : {T E : Type 0} (passed : Result T E) {before mid now : ℕ} → mid ≡ before → mid ≤ now → HasRisen mid now → HasCause before now passed
cause_passed passed {before} {mid} {now} same more risen = record { never_falls = omega (arith, same, more); risen = on_err passed (HasRisen before now) (omega (arith, same, risen)) }

-- ---- images with contents that were stored

all_stored : (images : Files → Type 0) (stores : List (List ℕ)) (from : ℕ) → ((image : Files) → images image → AreStored (image 0) stores from) → AllStored images stores from
all_stored images [] from all = tt
all_stored images (store ∷ stores) from all = (λ image left. (all image left).0, all_stored images stores (from + length store) (λ image left. (all image left).1))

are_stored : (images : Files → Type 0) (stores : List (List ℕ)) (from : ℕ) → AllStored images stores from → (image : Files) → images image → AreStored (image 0) stores from
are_stored images [] from all image left = tt
are_stored images (store ∷ stores) from all image left = (all.0 image left, are_stored images stores (from + length store) all.1 image left)

module _ (images : Files → Type 0) (used : ℕ) (stores : List (List ℕ)) where
  pub stored_keeps : KeepsBelow images (HasStored images used stores) used
  stored_keeps spot bytes le all image has = has.below spot bytes le all

  pub stored_all : AllStored (HasStored images used stores) stores used
  stored_all = all_stored (HasStored images used stores) stores used (λ image has. has.stored)

  pub stored_reach : AllReach (HasStored images used stores) (stores_end stores used)
  stored_reach image has = has.reach

  -- what a disk may leave is among them, where it stored the contents behind what it was among
  pub stored_within : (old new : Files → Type 0) → NoMore images old → KeepsBelow old new used → AllStored new stores used → AllReach new (stores_end stores used) → NoMore (HasStored images used stores) new
  stored_within old new among keeps all reach image left = record {
    below = λ spot bytes le has. keeps spot bytes le (λ c was. has c (among c was)) image left;
    stored = are_stored new stores used all image left;
    reach = reach image left;
  }

ends_joined : (first second : List (List ℕ)) (from : ℕ) → stores_end (first ++ second) from ≡ stores_end second (stores_end first from)
ends_joined [] second from = refl
ends_joined (store ∷ first) second from = ends_joined first second (from + length store)

are_apart : (file : List ℕ) (first second : List (List ℕ)) (from : ℕ) → AreStored file (first ++ second) from → AreStored file first from × AreStored file second (stores_end first from)
are_apart file [] second from all = (tt, all)
are_apart file (store ∷ first) second from all = let rest = are_apart file first second (from + length store) all.1 in ((all.0, rest.0), rest.1)

are_together : (file : List ℕ) (first second : List (List ℕ)) (from : ℕ) → AreStored file first from → AreStored file second (stores_end first from) → AreStored file (first ++ second) from
are_together file [] second from one other = other
are_together file (store ∷ first) second from one other = (one.0, are_together file first second (from + length store) one.1 other)

-- contents that were stored, and then others, are all of them stored at once
module _ (images : Files → Type 0) (from : ℕ) (first second : List (List ℕ)) where
  abbrev once : Files → Type 0
  once = HasStored images from (first ++ second)

  abbrev twice : Files → Type 0
  twice = HasStored (HasStored images from first) (stores_end first from) second

  pub ends_twice : stores_end (first ++ second) from ≡ stores_end second (stores_end first from)
  ends_twice = ends_joined first second from

  pub stored_twice : NoMore twice once
  stored_twice image has =
      let parts = are_apart (image 0) first second from has.stored in
      let far = has.reach in
      let end = ends_twice in
      let more = grows second (stores_end first from) in
      record {
        below = λ spot bytes le all. all image (record { below = has.below; stored = parts.0; reach = omega (arith, far, end, more) });
        stored = parts.1;
        reach = omega (arith, far, end);
      }

  pub stored_once : NoMore once twice
  stored_once image has =
      let more = grows first from in
      let far = has.reach in
      let end = ends_twice in
      let kept : AllStored twice first from =
      stored_kept (HasStored images from first) twice (stores_end first from) first from (stored_keeps (HasStored images from first) (stores_end first from) second) (omega arith) (stored_all images from first) in
      record {
        below = λ spot bytes le all. has.below spot bytes (omega (arith, le, more)) (stored_keeps images from first spot bytes le all);
        stored = are_together (image 0) first second from (are_stored twice first from kept image has) has.stored;
        reach = omega (arith, far, end);
      }

-- ---- contents at their places

pub at_length : (file : List ℕ) (places : List RowContent) (contents : List (List ℕ)) → AreAt file places contents → length contents ≡ length places
at_length file [] [] at = refl
at_length file [] (content ∷ contents) at = absurd at
at_length file (place ∷ places) [] at = absurd at
at_length file (place ∷ places) (content ∷ contents) at = ap suc (at_length file places contents at.1)

-- the content of one place
pub record AtIndex (file : List ℕ) (place : RowContent) (contents : List (List ℕ)) (i : ℕ) : Type 0 where
  pub content : List ℕ
  pub here : IsAt file place content
  pub more : take (i + 1) contents ≡ take i contents ++ content ∷ []

pub at_index : (file : List ℕ) (places : List RowContent) (contents : List (List ℕ)) (i : ℕ) (d : RowContent) → AreAt file places contents → i < length places → AtIndex file (get_or places i d) contents i
at_index file [] contents i d at lt = absurd (omega (arith, lt))
at_index file (first ∷ places) [] i d at lt = absurd at
at_index file (first ∷ places) (content ∷ contents) zero d at lt =
    let on : zero + 1 ≡ suc zero = omega arith in
    record { content = content; here = at.0; more = ap (λ (n : ℕ). take n (content ∷ contents)) on }
at_index file (first ∷ places) (content ∷ contents) (suc i) d at lt =
    let rest = at_index file places contents i d at.1 (omega (arith, lt)) in
    let on : suc i + 1 ≡ suc (i + 1) = omega arith in
    record { content = rest.content; here = rest.here; more = ap (λ (n : ℕ). take n (content ∷ contents)) on ∙ ap (λ (l : List (List ℕ)). content ∷ l) rest.more }

-- ---- contents

-- the contents of a depot stay, where images keep what ends below what is used
pub contents_kept : (old new : Files → Type 0) (used used' : ℕ) (rows : AllRows) (d : List Deed) → used ≤ used' → KeepsBelow old new used → Stand rows d
    → KeepContents old used rows d → KeepContents new used' rows d
contents_kept old new used used' rows d le keeps stand kept = record {
  ends = let ends = kept.ends in omega (arith, ends, le);
  deletes = kept.deletes;
  contents = λ image left. record {
    within =
        let ends = kept.ends in
        let there = keeps (record { at = spots_end (rows Rev); length = 0 }) [] (omega (arith, ends)) (reach_of old (spots_end (rows Rev)) (λ c h. (kept.contents c h).within)) image left in
        let within = there.within in
        omega (arith, within);
    contents = λ path n r bytes there content.
        let row = row_there d stand.sound rows (stand.each Rev) path n r there in
        let le : row.0.at + row.0.length ≤ spots_end (rows Rev) = row_end (rows Rev) (keys.Rev (printed path) n) (RevRow row.0) row.1 in
        let ends = kept.ends in (
          row.0,
          row.1,
          keeps (record { at = row.0.at; length = row.0.length }) bytes (omega (arith, le, ends))
              (λ c h.
              let found = (kept.contents c h).contents path n r bytes there content in
              subst (λ (x : RevRecord). HasContent (c 0) x bytes) (one_row found.0 row.0 (sym found.1 ∙ row.1)) found.2) image left,
        );
  };
}

-- what is stored is there
stored_at : (images : Files → Type 0) (image : Files) → images image → (stores : List (List ℕ)) (from : ℕ) (spot : Spot) (bytes : List ℕ) → AllStored images stores from
    → StandsAmong stores from spot bytes → Has (image 0) spot bytes
stored_at images image left [] from spot bytes all there = absurd there
stored_at images image left (store ∷ stores) from spot bytes all (inl h) =
    subst (λ (x : List ℕ). Has (image 0) spot x) h.1 (subst (λ (s : Spot). Has (image 0) s store) (sym h.0) (all.0 image left))
stored_at images image left (store ∷ stores) from spot bytes all (inr h) = stored_at images image left stores (from + length store) spot bytes all.1 h

-- the contents after a command
pub contents_follow : (images : Files → Type 0) (used used' from : ℕ) (rows : AllRows) (d e : List Deed) (stores : List (List ℕ)) (changes : List Change) → StandAfter rows from d e stores changes
    → IsSound e → used ≤ used' → KeepContents images used rows d → AllStored images stores from → stores_end stores from ≤ used' → AllReach images used' → KeepContents images used' (changed_by rows changes) e
contents_follow images used used' from rows d e stores changes placed sound le kept stored end reach = record {
  ends = ends;
  deletes = deletes_changed rows changes kept.deletes (puts_unplaced changes (placed.deletes sound));
  contents = λ image left. record {
    within = let far = reach image left in omega (arith, ends, far);
    contents = λ path n r bytes there content.
        let put = placed.contents path n bytes (ap (option_and_then (λ (x : Revision). x.entry.content)) there ∙ content) in
        (put.0, put.1, at_spot image left (spot_of put.0) bytes put.2);
  };
}
  where
    ends : spots_end (changed_by rows changes Rev) ≤ used'
    ends = let before = kept.ends in ends_after rows d stores from used' (omega (arith, before, le)) end changes placed.places

    at_spot : (image : Files) → images image → (spot : Spot) (bytes : List ℕ) → IsPlacedAt rows d stores from spot bytes → Has (image 0) spot bytes
    at_spot image left spot bytes (inl s) =
        let r = revision_there (revision d s.path s.rev) bytes s.content_is in
        let found = (kept.contents image left).contents s.path s.rev r.0 bytes r.1 r.2 in
        let here : HasContent (image 0) s.row bytes = subst (λ (x : RevRecord). HasContent (image 0) x bytes) (one_row found.0 s.row (sym found.1 ∙ s.there)) found.2 in
        subst (λ (x : Spot). Has (image 0) x bytes) (sym s.at) here
    at_spot image left spot bytes (inr among) = stored_at images image left stores from spot bytes stored among

-- a fault that is passed on, after calls that didn't fail
pub rises_on : (T : Type 0) {U : Type 0} (result : Result U ContentFault) (fault : ContentFault) (before mid now : ℕ) → result ≡ Err fault → mid ≡ before → RisesForFaults {T = T} mid now (Err fault) → RisesForFaults before now result
rises_on T result DiskFault before mid now passed same rises = subst (RisesForFaults before now) (sym passed) tt
rises_on T result Memory before mid now passed same rises = subst (RisesForFaults before now) (sym passed) (rises ∙ same)
