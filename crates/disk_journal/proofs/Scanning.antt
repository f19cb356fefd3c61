-- What a scan of a closed generation's file meets, block by block.
use Rattle.std.proofs.Common.{◌≡◌, ◌≢◌, ℕ, ◌+◌, ◌-◌, ◌*◌, ◌^◌, ◌<◌, ◌≤◌, List, [], ◌∷◌, ◌++◌, length, take, drop, Option, Some, None, inl, inr, refl, sym, ◌∙◌, ap, subst, arith, append_assoc, length-append}
use Rattle.std.specs.Prelude.{decimal}
use Rattle.std.proofs.Math.Seq.{take-append-add}
use Rattle.std.proofs.lemmas.List.{drop_at, append-nil}
use Rattle.std.proofs.lemmas.Fmt.{length-decimal-le}
use Rattle.outside_api.specs.Disk.{Files, NoMore}
use Rattle.outside_api.specs.Says.{DiskSays}
use Rattle.disk_journal.specs.Text.{head, mark, blocks, IsGroup, AreGroupsFrom}
use Rattle.disk_journal.specs.Head.{HasBlock}
use Rattle.disk_journal.specs.Older.{IsClosed}
use Rattle.disk_journal.specs.Scanned.{HasScanned}
use Rattle.disk_journal.specs.declared.scanned.Scanned.{Scanned}
use Rattle.disk_journal.specs.Fetch.{IsBlockAt, IsReached, ReachesTo}
use Rattle.disk_journal.proofs.Blocks.{length_push, length-blocks, blocks-append, are_groups-behind}
use Rattle.disk_journal.proofs.Heads.{long_is}

-- the mark and the head are within the bytes that are read of them
head_short : (number size : ℕ) → number < 2 ^ 63 → size < 2 ^ 63 → 5 + length (head number size) ≤ 52
head_short number size few small =
    let n : length (decimal number) ≤ 19 = length-decimal-le 19 number (omega arith) (omega arith) (omega arith) in
    let s : length (decimal size) ≤ 19 = length-decimal-le 19 size (omega arith) (omega arith) (omega arith) in
    omega (arith, long_is number size)

-- a block is seen in its first bytes
front_has : (n : ℕ) (bytes : List ℕ) → HasBlock bytes n → n < 2 ^ 63 → HasBlock (take 52 bytes) n
front_has n bytes has small =
    let before = mark 101 ++ head has.number has.size in
    let size : has.size < 2 ^ 63 = omega (arith, has.long, small) in
    let long : length before ≡ 5 + length (head has.number has.size) = length-append (mark 101) (head has.number has.size) in
    let short = head_short has.number has.size has.small size in
    let room : 52 ≡ length before + (52 - length before) = omega (arith, long, short) in
    let whole : bytes ≡ before ++ has.rest = has.begins ∙ sym (append_assoc (mark 101) (head has.number has.size) has.rest) in
    record {
      number = has.number;
      size = has.size;
      rest = take (52 - length before) has.rest;
      small = has.small;
      begins =
          ap (λ (l : List ℕ). take 52 l) whole
          ∙ ap (λ (k : ℕ). take k (before ++ has.rest)) room
          ∙ take-append-add before has.rest (52 - length before)
          ∙ append_assoc (mark 101) (head has.number has.size) (take (52 - length before) has.rest);
      long = has.long;
    }

-- a mark is seen in its first bytes
front_mark : (byte : ℕ) (bytes rest : List ℕ) → bytes ≡ mark byte ++ rest → take 52 bytes ≡ mark byte ++ take 47 rest
front_mark byte bytes rest is = ap (λ (l : List ℕ). take 52 l) is ∙ take-append-add (mark byte) rest 47

pub block_seen : (bytes front : List ℕ) (found : Option ℕ) → front ≡ take 52 bytes → ((n : ℕ) → HasBlock front n → n < 2 ^ 63 → found ≡ Some n) → ((byte : ℕ) (rest : List ℕ) → byte ≢ 101 → front ≡ mark byte ++ rest → found ≡ None) → IsBlockAt bytes found
block_seen bytes front found is block closed = record {
  block = λ n has small. block n (subst (λ (l : List ℕ). HasBlock l n) (sym is) (front_has n bytes has small)) small;
  closed = λ byte rest shut begins. closed byte (take 47 rest) shut (is ∙ front_mark byte bytes rest begins);
}

-- ---- the blocks of a closed generation

pub from_start : (groups : List (List ℕ)) → IsReached groups 0
from_start groups = record { done = []; left = groups; parts = refl; place = refl }

-- no place that is reached lies behind the text
pub within_text : (groups : List (List ℕ)) (at : ℕ) → IsReached groups at → at ≤ length (blocks groups)
within_text groups at reached =
    omega (arith, reached.place, ap (λ (l : List (List ℕ)). length (blocks l)) reached.parts, ap length (blocks-append reached.done reached.left), length-append (blocks reached.done) (blocks reached.left))

pub text_within : (groups : List (List ℕ)) (file : List ℕ) → IsClosed groups file → length (blocks groups) + 5 ≤ length file
text_within groups file is =
    omega (arith, ap length is.is, length-append (blocks groups ++ mark is.byte) is.behind, length-append (blocks groups) (mark is.byte))

rest_is : (groups done left : List (List ℕ)) (file behind : List ℕ) (byte at : ℕ) → groups ≡ done ++ left → at ≡ length (blocks done) → file ≡ blocks groups ++ mark byte ++ behind → drop at file ≡ blocks left ++ (mark byte ++ behind)
rest_is groups done left file behind byte at parts place is =
    let whole : file ≡ blocks done ++ (blocks left ++ (mark byte ++ behind)) =
    is ∙ append_assoc (blocks groups) (mark byte) behind
    ∙ ap (λ (l : List (List ℕ)). blocks l ++ (mark byte ++ behind)) parts
    ∙ ap (λ (l : List ℕ). l ++ (mark byte ++ behind)) (blocks-append done left)
    ∙ append_assoc (blocks done) (blocks left) (mark byte ++ behind) in
    ap (λ (l : List ℕ). drop at l) whole ∙ drop_at (blocks done) (blocks left ++ (mark byte ++ behind)) at (sym place)

-- a group behind an open mark is a block
has_block : (number : ℕ) (g more : List ℕ) → IsGroup number g → number < 2 ^ 63 → HasBlock (mark 101 ++ g ++ more) (5 + length g)
has_block number g more is small =
    let line = head number (length is.records) in
    let long : length g ≡ length line + length is.records = ap length is.is ∙ length-append line is.records in
    record {
      number = number;
      size = length is.records;
      rest = is.records ++ more;
      small = small;
      begins =
          append_assoc (mark 101) g more
          ∙ ap (λ (l : List ℕ). mark 101 ++ (l ++ more)) is.is
          ∙ ap (λ (l : List ℕ). mark 101 ++ l) (append_assoc line is.records more);
      long = omega (arith, long);
    }

-- where a scan is after what it found
abbrev pub IsScanned : List (List ℕ) → ℕ → Option ℕ → Type 0
IsScanned groups at None = at ≡ length (blocks groups)
IsScanned groups at (Some n) = IsReached groups (at + n)

scanned_at : (groups done left : List (List ℕ)) (file : List ℕ) (at : ℕ) (found : Option ℕ) → (is : IsClosed groups file) → length file < 2 ^ 63 → groups ≡ done ++ left → at ≡ length (blocks done) → IsBlockAt (drop at file) found → IsScanned groups at found
scanned_at groups done [] file at found is small parts place seen =
    let rest : drop at file ≡ mark is.byte ++ is.behind = rest_is groups done [] file is.behind is.byte at parts place is.is in
    let none : found ≡ None = seen.closed is.byte is.behind is.closed rest in
    subst (IsScanned groups at) (sym none) (place ∙ ap (λ (l : List (List ℕ)). length (blocks l)) (sym (parts ∙ append-nil done)))
scanned_at groups done (g ∷ left) file at found is small parts place seen =
    let more = blocks left ++ (mark is.byte ++ is.behind) in
    let rest : drop at file ≡ mark 101 ++ g ++ more = rest_is groups done (g ∷ left) file is.behind is.byte at parts place is.is ∙ append_assoc (mark 101 ++ g) (blocks left) (mark is.byte ++ is.behind) in
    let are : AreGroupsFrom (1 + length done) (g ∷ left) = are_groups-behind 1 done (g ∷ left) (subst (λ (l : List (List ℕ)). AreGroupsFrom 1 l) parts is.are_groups) in
    let sum = text_within groups file is in
    let whole : length (blocks groups) ≡ length (blocks done) + length (blocks (g ∷ left)) = ap (λ (l : List (List ℕ)). length (blocks l)) parts ∙ ap length (blocks-append done (g ∷ left)) ∙ length-append (blocks done) (blocks (g ∷ left)) in
    let next : length (blocks (g ∷ left)) ≡ length (mark 101 ++ g) + length (blocks left) = length-append (mark 101 ++ g) (blocks left) in
    let one : length (mark 101 ++ g) ≡ 5 + length g = length-append (mark 101) g in
    let fits : 5 + length g < 2 ^ 63 = omega (arith, sum, whole, next, one, small) in
    let few : 1 + length done < 2 ^ 63 = omega (arith, length-blocks done, sum, whole, next, one, small) in
    let found_is : found ≡ Some (5 + length g) = seen.block (5 + length g) (subst (λ (l : List ℕ). HasBlock l (5 + length g)) (sym rest) (has_block (1 + length done) g more are.0 few)) fits in
    subst (IsScanned groups at) (sym found_is) (record {
      done = done ++ g ∷ [];
      left = left;
      parts = parts ∙ sym (append_assoc done (g ∷ []) left);
      place = omega (arith, place, length_push done g);
    })

pub scanned : (groups : List (List ℕ)) (file : List ℕ) (at : ℕ) (found : Option ℕ) → IsClosed groups file → length file < 2 ^ 63 → IsReached groups at → IsBlockAt (drop at file) found → IsScanned groups at found
scanned groups file at found is small reached seen =
    scanned_at groups reached.done reached.left file at found is small reached.parts reached.place seen

-- a block that is found isn't longer than the file
pub room_for_block : (groups : List (List ℕ)) (file : List ℕ) (at n : ℕ) → IsClosed groups file → length file < 2 ^ 63 → IsReached groups at → IsBlockAt (drop at file) (Some n) → at + n < 2 ^ 63
room_for_block groups file at n is small reached seen =
    omega (arith, within_text groups (at + n) (scanned groups file at (Some n) is small reached seen), text_within groups file is, small)

-- what a scan answers at its end, and where it stops early
pub reaches_end : (groups : List (List ℕ)) (file : List ℕ) (enough at : ℕ) → IsClosed groups file → length file < 2 ^ 63 → IsReached groups at → IsBlockAt (drop at file) None → ReachesTo groups enough at
reaches_end groups file enough at is small reached seen =
    let all : at ≡ length (blocks groups) = scanned groups file at None is small reached seen in
    (omega (arith, all), inl all)

pub reaches_enough : (groups : List (List ℕ)) (enough at : ℕ) → IsReached groups at → enough ≤ at → ReachesTo groups enough at
reaches_enough groups enough at reached le = (within_text groups at reached, inr le)

-- a scan that went on from where an earlier one came to, of a generation's file that a later disk reads as well
pub scanned_on : {D : Type 0} (disk_says : DiskSays D) (old new : D) (was : Scanned) (generation file from place : ℕ) → file ≡ 1 + 2 * generation → NoMore (disk_says.seen old) (disk_says.seen new)
    → ((groups : List (List ℕ)) → (generation ≡ was.generation → IsReached groups was.place) → IsReached groups from)
    → ((groups : List (List ℕ)) (files : Files) → disk_says.seen old files → IsClosed groups (files file) → IsReached groups from → IsReached groups place)
    → HasScanned disk_says old was → (files : Files) → disk_says.seen new files → (groups : List (List ℕ)) → IsClosed groups (files (1 + 2 * generation)) → IsReached groups place
scanned_on disk_says old new was generation file from place file_is more begins goes has files read groups is =
    let before = more files read in
    goes groups files before (subst (λ f. IsClosed groups (files f)) (sym file_is) is)
    (begins groups (λ same. has files before groups (subst (λ g. IsClosed groups (files (1 + 2 * g))) same is)))
