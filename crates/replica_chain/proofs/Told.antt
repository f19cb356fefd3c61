-- What a journal tells that was only looked at, and what that of a node tells.
use Rattle.std.proofs.Common.{◌≡◌, ◌≢◌, ℕ, suc, ◌+◌, ◌*◌, ◌^◌, ◌<◌, List, [], ◌∷◌, ◌++◌, length, take, drop, get_or, refl, sym, ap, subst, ◌∙◌, arith, append_assoc, length-append}
use Rattle.std.specs.Prelude.{map}
use Rattle.std.proofs.Math.Seq.{drop-append_seam, take-append_seam}
use Rattle.std.proofs.lemmas.List.{ext_get_or, map-append, take_all}
use Rattle.outside_api.specs.Disk.{Files, Same}
use Rattle.outside_api.specs.Moments.{started}
use Rattle.outside_api.specs.Says.{DiskSays}
use Rattle.outside_api.specs.Link.{text_of, IsEarlier}
use Rattle.archive_file.specs.Archive.{disk_of as archive_disk_of, used_of}
use Rattle.archive_file.specs.Contents.{IsTold}
use Rattle.depot_rows.specs.db_records.declared.change.Change.{Change}
use Rattle.disk_journal.specs.Images.{Begins, Committed, HasForm}
use Rattle.disk_journal.specs.Older.{IsClosed}
use Rattle.disk_journal.specs.Stands.{Doubtful, nothing, group, opening, IsImage, Stands, disk_of}
use Rattle.disk_journal.specs.Text.{AreGroupsFrom, IsGroup, blocks, head, mark}
use Rattle.disk_journal.specs.declared.journal.Journal.{Journal}
use Rattle.journal_groups.specs.Groups.{groups_text, head_of}
use Rattle.journal_groups.specs.Reading.{head_at}
use Rattle.journal_groups.proofs.Texts.{head_again}
use Rattle.record_text.specs.Reading.{Done}
use Rattle.recovery.specs.Holding.{group_texts}
use Rattle.recovery.proofs.Held.{blocks_of}
use Rattle.recovery.proofs.Looks.{reads_on}
use Rattle.replica_chain.specs.Chronicle.{Chronicle, generations_of, texts_of}
use Rattle.replica_chain.specs.Ends.{HasTexts, IsLooked, KeepsScanned, TellsTexts}
use Rattle.replica_chain.specs.Node.{IsNode}
use Rattle.replica_chain.specs.declared.link.NodeLink.{NodeLink}
use Rattle.replica_chain.specs.declared.node.Node.{Node}

-- a journal is as it is now
whole : (text : List ℕ) (later : List (List ℕ)) → text ∷ later ≡ take (length later) (text ∷ later) ++ take (length (text_of (text ∷ later) (length later))) (text_of (text ∷ later) (length later)) ∷ []
whole text [] = ap (λ (t : List ℕ). t ∷ []) (sym (take_all (length text) text (omega arith)))
whole text (next ∷ later) = ap (λ (l : List (List ℕ)). text ∷ l) (whole next later)

pub earlier_itself : (texts : List (List ℕ)) → 0 < length texts → IsEarlier texts texts
earlier_itself [] some = absurd (omega (arith, some))
earlier_itself (text ∷ later) some = record { newest = length later; bytes = length (text_of (text ∷ later) (length later)); there = omega arith; is = whole text later }

as_many : (all : List (List (List ℕ))) → length (map blocks all) ≡ length all
as_many [] = refl
as_many (one ∷ all) = ap suc (as_many all)

module _ {D : Type 0} (disk_says : DiskSays D) where
  pub some_texts : (journal : Journal D) (texts : List (List ℕ)) → HasTexts disk_says journal texts → 0 < length texts
  some_texts journal texts told = omega (arith, ap length told.are, as_many (told.before ++ told.was.groups ∷ []), length-append told.before (told.was.groups ∷ []))

  pub told_on : (old new : NodeLink D) → ((was : Committed) (doubt : Doubtful) → Stands disk_says old.journal was doubt → Stands disk_says new.journal was doubt)
      → Same (disk_says.seen (disk_of old.journal)) (disk_says.seen (disk_of new.journal)) → KeepsScanned disk_says old new → (before : List (List ℕ)) → TellsTexts disk_says old before → (now : List (List ℕ)) × TellsTexts disk_says new now × IsEarlier before now
  told_on old new stands same scanned before told =
      let has = told.has in (
        before,
        record {
          has = record {
            was = has.was;
            doubt = has.doubt;
            before = has.before;
            files = has.files;
            stands = stands has.was has.doubt has.stands;
            sees = same.kept has.files has.sees;
            as_many = has.as_many;
            older = has.older;
            are = has.are;
          };
          generations = told.generations;
          of_groups = told.of_groups;
          scanned = scanned told.scanned;
        },
        earlier_itself before (some_texts old.journal before has),
      )

  -- ---- journals that are looked at

  pub kept_texts : (old new : Journal D) → IsLooked disk_says old new → (texts : List (List ℕ)) → HasTexts disk_says old texts → HasTexts disk_says new texts
  kept_texts old new looked texts told = record {
    was = told.was;
    doubt = told.doubt;
    before = told.before;
    files = told.files;
    stands = looked.stands told.was told.doubt told.stands;
    sees = looked.reads.same.kept told.files told.sees;
    as_many = told.as_many;
    older = told.older;
    are = told.are;
  }

  pub not_looked : (journal : Journal D) → ((image : Files) → disk_says.left_since (disk_of journal) (disk_says.moment (disk_of journal)) image → disk_says.may_leave (disk_of journal) image) → IsLooked disk_says journal journal
  not_looked journal now = record {
    stands = λ was doubt stands. stands;
    keeps = λ older keeps. keeps;
    reads = record {
      same = record { kept = λ files sees. sees; no_more = λ files sees. sees };
      no_more = λ image left. left;
      any_moment = started disk_says (disk_of journal) (disk_says.may_leave (disk_of journal)) now;
    };
  }

  pub looked_on : (old mid new : Journal D) → IsLooked disk_says old mid → IsLooked disk_says mid new → IsLooked disk_says old new
  looked_on old mid new first second = record {
    stands = λ was doubt stands. second.stands was doubt (first.stands was doubt stands);
    keeps = λ older keeps. second.keeps older (first.keeps older keeps);
    reads = reads_on disk_says (disk_of old) (disk_of mid) (disk_of new) first.reads second.reads;
  }

-- ---- one text

one_head : (number : ℕ) (r s a b : List ℕ) → length r < 2 ^ 63 → length s < 2 ^ 63 → (head number (length r) ++ r) ++ a ≡ (head number (length s) ++ s) ++ b → (r ≡ s) × (a ≡ b)
one_head number r s a b short small is =
    let both : Done (length r) (r ++ a) ≡ Done (length s) (s ++ b) = sym (reads r a short) ∙ ap (head_at number) is ∙ reads s b small in
    let long : length r ≡ length s = sizes both in
    let same : r ++ a ≡ s ++ b = rests both in (
      sym (take-append_seam r a) ∙ ap (take (length r)) same ∙ ap (λ (n : ℕ). take n (s ++ b)) long ∙ take-append_seam s b,
      sym (drop-append_seam r a) ∙ ap (drop (length r)) same ∙ ap (λ (n : ℕ). drop n (s ++ b)) long ∙ drop-append_seam s b,
    )
  where
    spelled : (records behind : List ℕ) → (head number (length records) ++ records) ++ behind ≡ head_of number (length records) ++ (records ++ behind)
    spelled records behind = simp append_assoc

    reads : (records behind : List ℕ) → length records < 2 ^ 63 → head_at number ((head number (length records) ++ records) ++ behind) ≡ Done (length records) (records ++ behind)
    reads records behind short = ap (head_at number) (spelled records behind) ∙ head_again number (length records) (records ++ behind) (omega (arith, short))

    sizes : {m n : ℕ} {x y : List ℕ} → Done m x ≡ Done n y → m ≡ n
    sizes e = cc

    rests : {m n : ℕ} {x y : List ℕ} → Done m x ≡ Done n y → x ≡ y
    rests e = cc

record_short : (number : ℕ) (one : List ℕ) (later : List (List ℕ)) (is : IsGroup number one) → length (blocks (one ∷ later)) < 2 ^ 63 → length is.records < 2 ^ 63
record_short number one later is short = omega (arith, short, ap length is.is, length-append (head number (length is.records)) is.records, length-append one (blocks later))

-- groups in one text before a mark that isn't open are the same
blocks_once : (number : ℕ) (one other : List (List ℕ)) (a b : ℕ) (x y : List ℕ) → AreGroupsFrom number one → AreGroupsFrom number other → a ≢ 101 → b ≢ 101 → length (blocks one) < 2 ^ 63 → length (blocks other) < 2 ^ 63
    → blocks one ++ (mark a ++ x) ≡ blocks other ++ (mark b ++ y) → one ≡ other
blocks_once number [] [] a b x y are both closed shut short small is = refl
blocks_once number [] (h ∷ other) a b x y are both closed shut short small is = absurd (closed (ap (λ (l : List ℕ). get_or l 1 0) is))
blocks_once number (g ∷ one) [] a b x y are both closed shut short small is = absurd (shut (sym (ap (λ (l : List ℕ). get_or l 1 0) is)))
blocks_once number (g ∷ one) (h ∷ other) a b x y are both closed shut short small is =
    let mine = are.0 in
    let its = both.0 in
    let here : (head number (length mine.records) ++ mine.records) ++ (blocks one ++ (mark a ++ x)) ≡ (head number (length its.records) ++ its.records) ++ (blocks other ++ (mark b ++ y)) =
    ap (λ (l : List ℕ). l ++ (blocks one ++ (mark a ++ x))) (sym mine.is)
    ∙ sym (append_assoc g (blocks one) (mark a ++ x))
    ∙ ap (drop 5) is
    ∙ append_assoc h (blocks other) (mark b ++ y)
    ∙ ap (λ (l : List ℕ). l ++ (blocks other ++ (mark b ++ y))) its.is in
    let parts = one_head number mine.records its.records (blocks one ++ (mark a ++ x)) (blocks other ++ (mark b ++ y)) (record_short number g one mine short) (record_short number h other its small) here in
    let first : g ≡ h = mine.is ∙ ap (λ (l : List ℕ). head number (length l) ++ l) parts.0 ∙ sym its.is in
    let rest = blocks_once (number + 1) one other a b x y are.1 both.1 closed shut (omega (arith, short, length-append g (blocks one))) (omega (arith, small, length-append h (blocks other))) parts.1 in
    λ i. first i ∷ rest i

closed_once : (file : List ℕ) (one other : List (List ℕ)) → length file < 2 ^ 63 → IsClosed one file → IsClosed other file → one ≡ other
closed_once file one other short is also =
    let first : file ≡ blocks one ++ (mark is.byte ++ is.behind) = is.is ∙ append_assoc (blocks one) (mark is.byte) is.behind in
    let second : file ≡ blocks other ++ (mark also.byte ++ also.behind) = also.is ∙ append_assoc (blocks other) (mark also.byte) also.behind in
    blocks_once 1 one other is.byte also.byte is.behind also.behind is.are_groups also.are_groups is.closed also.closed
    (omega (arith, short, ap length first, length-append (blocks one) (mark is.byte ++ is.behind))) (omega (arith, short, ap length second, length-append (blocks other) (mark also.byte ++ also.behind))) (sym first ∙ second)

-- an image begins with the committed text
begins_with : (was : Committed) (byte : ℕ) (behind : List ℕ) (image : Files) → HasForm was byte behind image → Begins (blocks was.groups) (image (1 + 2 * was.generation))
begins_with was byte behind image form = record { behind = mark byte ++ behind; is = form.file ∙ append_assoc (blocks was.groups) (mark byte) behind }

pub image_text : (was : Committed) (doubt : Doubtful) (image : Files) → IsImage was doubt image → Begins (blocks was.groups) (image (1 + 2 * was.generation))
image_text was nothing image is = begins_with was is.byte is.behind image is.form
image_text was (group g) image is = begins_with was is.byte (g ++ mark 109 ++ is.behind) image is.form
image_text was (opening checkpoint) image is = begins_with was is.byte is.behind image is.form

same_front : (file one other : List ℕ) → length one ≡ length other → Begins one file → Begins other file → one ≡ other
same_front file one other long is also =
    sym (take-append_seam one is.behind) ∙ ap (take (length one)) (sym is.is ∙ also.is) ∙ ap (λ (n : ℕ). take n (other ++ also.behind)) long ∙ take-append_seam other also.behind

-- the texts of groups are the blocks of their texts
pub texts_of_blocks : (generations : List (List (List Change))) → map (groups_text 1) generations ≡ map blocks (map (group_texts 1) generations)
texts_of_blocks [] = refl
texts_of_blocks (groups ∷ generations) = λ i. sym (blocks_of 1 groups) i ∷ texts_of_blocks generations i

-- ---- what a node tells

-- a node's journal has the texts of its changes
module _ {D : Type 0} (disk_says : DiskSays D) (image : (disk : D) (files : Files) → disk_says.seen disk files → disk_says.may_leave disk files)
    (short : (disk : D) (files : Files) (file : ℕ) → disk_says.seen disk files → length (files file) < 2 ^ 63)
    (node : Node D) (c : Chronicle) (n : IsNode disk_says node c) (texts : List (List ℕ)) (told : HasTexts disk_says node.link.journal texts) where
  left : disk_says.may_leave (disk_of node.link.journal) told.files
  left = image (disk_of node.link.journal) told.files told.sees

  generation : told.was.generation ≡ n.was.generation
  generation = let one = told.stands.generation in let two = n.stands.generation in omega (arith, one, two)

  newest : blocks told.was.groups ≡ blocks n.was.groups
  newest =
      let long : length (blocks told.was.groups) ≡ length (blocks n.was.groups) = (let one = told.stands.length in let two = n.stands.length in omega (arith, one, two)) in
      same_front (told.files (1 + 2 * n.was.generation)) (blocks told.was.groups) (blocks n.was.groups) long
      (subst (λ (g : ℕ). Begins (blocks told.was.groups) (told.files (1 + 2 * g))) generation (image_text told.was told.doubt told.files (told.stands.each told.files left)))
      (image_text n.was n.doubt told.files (n.stands.each told.files left))

  older : told.before ≡ map (group_texts 1) c.closed
  older =
      let kept = n.keeps.each told.files left in
      let count : length told.before ≡ length (map (group_texts 1) c.closed) = (let one = told.as_many in let two = told.stands.generation in let three = n.keeps.count in omega (arith, one, two, three)) in
      ext_get_or [] told.before (map (group_texts 1) c.closed) count (λ generation within.
      closed_once (told.files (1 + 2 * generation)) (get_or told.before generation []) (get_or (map (group_texts 1) c.closed) generation [])
      (short (disk_of node.link.journal) told.files (1 + 2 * generation) told.sees) (told.older generation within) (kept generation (omega (arith, within, count))))

  pub told_texts : texts ≡ texts_of c
  told_texts =
      told.are
      ∙ map-append blocks told.before (told.was.groups ∷ [])
      ∙ (λ i. map blocks (older i) ++ newest i ∷ [])
      ∙ ap (λ (groups : List (List ℕ)). map blocks (map (group_texts 1) c.closed) ++ blocks groups ∷ []) n.are
      ∙ sym (ap (map blocks) (map-append (group_texts 1) c.closed (c.newest ∷ [])) ∙ map-append blocks (map (group_texts 1) c.closed) (group_texts 1 c.newest ∷ []))
      ∙ sym (texts_of_blocks (generations_of c))

-- and it tells them
pub node_tells : {D : Type 0} (disk_says : DiskSays D) → ((disk : D) (files : Files) → disk_says.seen disk files → disk_says.may_leave disk files) → (node : Node D) (c : Chronicle) → IsNode disk_says node c → TellsTexts disk_says node.link (texts_of c)
node_tells disk_says image node c n =
    let seen = n.keeps.tells in
    let count = n.keeps.count in
    let generation = n.stands.generation in
    record {
      has = record {
        was = n.was;
        doubt = n.doubt;
        before = map (group_texts 1) c.closed;
        files = seen.0;
        stands = n.stands;
        sees = seen.1;
        as_many = omega (arith, count, generation);
        older = n.keeps.each seen.0 (image (disk_of node.link.journal) seen.0 seen.1);
        are =
            texts_of_blocks (generations_of c)
            ∙ ap (map blocks) (map-append (group_texts 1) c.closed (c.newest ∷ []) ∙ ap (λ (groups : List (List ℕ)). map (group_texts 1) c.closed ++ groups ∷ []) (sym n.are));
      };
      generations = generations_of c;
      of_groups = (refl, n.are_groups);
      scanned = n.scanned;
    }

-- so does its archive, as far as it is used
pub archive_tells : {D : Type 0} (disk_says : DiskSays D) → ((disk : D) (files : Files) → disk_says.seen disk files → disk_says.may_leave disk files) → (node : Node D) (c : Chronicle) → IsNode disk_says node c
    → (bytes : List ℕ) × IsTold disk_says node.archive bytes
archive_tells disk_says image node c n =
    let seen = n.tells in
    let within = (n.contents.front.has seen.0 (image (archive_disk_of node.archive) seen.0 seen.1)).within in (
      take (used_of node.archive) (seen.0 0),
      record { files = seen.0; sees = seen.1; within = omega (arith, within); are = refl },
    )
