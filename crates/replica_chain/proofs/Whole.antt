-- Nodes that have all of a node's changes, and open to the depot that these make.
use Rattle.std.proofs.Common.{◌≡◌, ℕ, ◌+◌, List, [], ◌∷◌, ◌++◌, length, take, drop, refl, sym, ap, subst, ◌∙◌, arith, length-append}
use Rattle.std.specs.Prelude.{map}
use Rattle.std.specs.List.{AllByRecursion}
use Rattle.std.proofs.lemmas.List.{append-nil, take-append-drop, take_all}
use Rattle.outside_api.specs.Disk.{Files}
use Rattle.outside_api.specs.Link.{IsEarlier, text_of}
use Rattle.outside_api.specs.Says.{DiskSays}
use Rattle.archive_file.specs.Archive.{disk_of as archive_disk_of, used_of}
use Rattle.depot_rows.specs.db_records.declared.change.Change.{Change}
use Rattle.depot_rows.specs.depot_model.Deeds.{Deed}
use Rattle.depot_rows.specs.table_changes.Changed.{changed_by, no_rows}
use Rattle.disk_journal.specs.Stands.{Doubtful, nothing, group, opening, HasWithOrWithout, disk_of}
use Rattle.journal_groups.specs.Groups.{IsGroup, groups_text}
use Rattle.recovery.specs.Holding.{joined}
use Rattle.recovery.specs.Standing.{StandFor}
use Rattle.recovery.proofs.OneGroup.{all-push}
use Rattle.replica_pull.specs.Prefix.{changes_from, first_rows}
use Rattle.replica_pull.specs.Replica.{beginning}
use Rattle.replica_pull.proofs.Counted.{with_groups}
use Rattle.replica_pull.proofs.Firsts.{begins}
use Rattle.replica_chain.specs.Chronicle.{Chronicle, changes_of, generations_of, rows_made, texts_of, with_beginning, with_changes}
use Rattle.replica_chain.specs.Masters.{HasAllOf, IsBehind, IsDepotOf, Upstream}
use Rattle.replica_chain.specs.Node.{IsPending}
use Rattle.replica_chain.specs.declared.node.Node.{Node}
use Rattle.replica_chain.proofs.Following.{front_of, last_same}
use Rattle.replica_chain.proofs.Growing.{changes_begun, changes_push, groups_push}
use Rattle.replica_chain.proofs.Prefixes.{earlier_changes, files_stand, one_text}
use Rattle.replica_chain.proofs.Steps.{all_earlier, its_generation}

-- ---- as many changes

-- in as many generations, an earlier journal has all of them but the newest, and the first groups of that
as_many : (closed : List (List (List Change))) (newest : List (List Change)) (all : List (List (List Change))) (n : ℕ) → AllByRecursion (AllByRecursion IsGroup) (closed ++ newest ∷ []) → AllByRecursion (AllByRecursion IsGroup) all
    → map (groups_text 1) closed ≡ take (length closed) (map (groups_text 1) all) → groups_text 1 newest ≡ take n (text_of (map (groups_text 1) all) (length closed)) → length all ≡ length closed + 1
    → (more : List (List Change)) × (all ≡ closed ++ (newest ++ more) ∷ [])
as_many [] newest [] n are both same text long = absurd (omega (arith, long))
as_many [] newest (a ∷ b ∷ all) n are both same text long = absurd (omega (arith, long))
as_many (x ∷ closed) newest [] n are both same text long = absurd (omega (arith, long))
as_many [] newest (a ∷ []) n are both same text long =
    let split : groups_text 1 a ≡ groups_text 1 newest ++ drop n (groups_text 1 a) = sym (take-append-drop n (groups_text 1 a)) ∙ ap (λ (l : List ℕ). l ++ drop n (groups_text 1 a)) (sym text) in
    let on = begins 1 newest a (drop n (groups_text 1 a)) are.0 both.0 split in
    (on.later, ap (λ (l : List (List Change)). l ∷ []) on.is)
as_many (x ∷ closed) newest (a ∷ all) n are both same text long =
    let one : groups_text 1 a ≡ groups_text 1 x = cc in
    let tail : map (groups_text 1) closed ≡ take (length closed) (map (groups_text 1) all) = cc in
    let here : a ≡ x = one_text x a are.0 both.0 one in
    let on = as_many closed newest all n are.1 both.1 tail text (omega (arith, long)) in
    (on.0, λ i. here i ∷ on.1 i)

no_more : (more : List (List Change)) → length more ≡ 0 → more ≡ []
no_more [] none = refl
no_more (x ∷ more) none = absurd (omega (arith, none))

-- an earlier journal with as many changes, in as many generations, is the same
pub same_changes : (c later : Chronicle) → AllByRecursion (AllByRecursion IsGroup) (generations_of c) → AllByRecursion (AllByRecursion IsGroup) (generations_of later) → IsEarlier (texts_of c) (texts_of later)
    → length c.closed ≡ length later.closed → length (changes_of c) ≡ length (changes_of later) → later ≡ c
same_changes c later are both e closed count =
    let f = front_of c (texts_of later) e in
    let found = as_many c.closed c.newest (generations_of later) (length (groups_text 1 c.newest)) are both f.closed f.newest (omega (arith, closed, length-append later.closed (later.newest ∷ []))) in
    let changes : changes_of later ≡ changes_of c ++ found.0 = ap (changes_from 0) found.1 ∙ with_groups 0 c.closed c.newest found.0 in
    let none : found.0 ≡ [] = no_more found.0 (omega (arith, count, ap length changes, length-append (changes_of c) found.0)) in
    let newest : c.newest ++ found.0 ≡ c.newest = ap (λ (l : List (List Change)). c.newest ++ l) none ∙ append-nil c.newest in
    let parts = last_same later.closed c.closed later.newest (c.newest ++ found.0) (sym closed) found.1 in
    λ i. record { closed = parts.0 i; newest = (parts.1 ∙ newest) i }

-- ---- nothing in doubt

-- what is in doubt would be more changes than there are
not_doubted : (c : Chronicle) (doubt : Doubtful) (pending : Chronicle) → AllByRecursion (AllByRecursion IsGroup) (generations_of c) → IsPending c doubt pending → IsEarlier (texts_of pending) (texts_of c) → doubt ≡ nothing
not_doubted c nothing pending are is e = refl
not_doubted c (group text) pending are of e =
    let more = earlier_changes (with_changes c of.0) c (groups_push c of.0 are of.1) are (subst (λ (p : Chronicle). IsEarlier (texts_of p) (texts_of c)) of.3 e) in
    absurd (omega (arith, ap length more.1, length-append (changes_of (with_changes c of.0)) more.0, ap length (changes_push c of.0), length-append (changes_of c) (of.0 ∷ [])))
not_doubted c (opening checkpoint) pending are is e =
    let more = earlier_changes (with_beginning c) c (all-push (AllByRecursion IsGroup) (generations_of c) [] are tt) are (subst (λ (p : Chronicle). IsEarlier (texts_of p) (texts_of c)) is e) in
    absurd (omega (arith, ap length more.1, length-append (changes_of (with_beginning c)) more.0, ap length (changes_begun c), length-append (changes_of c) ((beginning (1 + length c.closed) ∷ []) ∷ [])))

-- ---- nodes

module _ {D : Type 0} (disk_says : DiskSays D) (node : Node D) where
  -- a node that is behind so many changes, and has as many, has all of them
  pub has_all : (mine theirs : Chronicle) (bytes : List ℕ) → AllByRecursion (AllByRecursion IsGroup) (generations_of theirs) → IsBehind disk_says node mine (record { texts = texts_of theirs; bytes = bytes })
      → length mine.closed ≡ length theirs.closed → length (changes_of mine) ≡ length (changes_of theirs) → HasAllOf disk_says node theirs bytes
  has_all mine theirs bytes both behind closed count =
      go (subst (λ (c : Chronicle). IsBehind disk_says node c up) (sym same) behind)
    where
      up : Upstream
      up = record { texts = texts_of theirs; bytes = bytes }

      same : theirs ≡ mine
      same = same_changes mine theirs behind.is_node.are_groups both (all_earlier disk_says node mine up behind) closed count

      go : IsBehind disk_says node theirs up → HasAllOf disk_says node theirs bytes
      go b =
          let n = b.is_node in
          record { is_node = n; nothing_more = not_doubted theirs n.doubt n.pending both n.is_pending b.earlier; front = b.front }

  -- each pair of its images stands for the depot
  pub all_stand : (c : Chronicle) (bytes : List ℕ) (d : List Deed) → HasAllOf disk_says node c bytes → IsDepotOf c bytes d
      → (journal archive : Files) → disk_says.may_leave (disk_of node.link.journal) journal → disk_says.may_leave (archive_disk_of node.archive) archive → StandFor d journal archive
  all_stand c bytes d all depot journal archive left there =
      let n = all.is_node in
      let rows_are : first_rows (length (changes_of c)) (generations_of c) ≡ rows_made c = ap (λ (l : List (List Change)). changed_by no_rows (joined l)) (take_all (length (changes_of c)) (changes_of c) (omega arith)) in
      let committed = subst (λ (doubt : Doubtful). HasWithOrWithout n.was doubt journal) all.nothing_more (n.stands.holds journal left) in
      let ends = n.contents.ends in
      files_stand (generations_of c) bytes (length (changes_of c)) d depot.depot c rows_are depot.generation n.was journal archive (used_of node.archive) committed n.has (its_generation disk_says node c n)
      (all.front.has archive there) all.front.within ends
