-- The journals of older generations stay where a call leaves their files.
use Rattle.std.proofs.Common.{◌≡◌, ◌⊎◌, ℕ, ◌+◌, ◌*◌, ◌<◌, ◌≤◌, List, [], ◌∷◌, ◌++◌, length, inl, inr, sym, ap, subst, ◌∙◌, arith, length-append}
use Rattle.std.specs.Prelude.{get_or}
use Rattle.std.proofs.Math.ListN.{get_or-append}
use Rattle.std.proofs.Math.Nat.{eq-or-lt_of_le}
use Rattle.std.proofs.Math.Seq.{get_or-append_seam}
use Rattle.outside_api.specs.Disk.{Files, Follows, NoMore, Same, StillTells}
use Rattle.outside_api.specs.Says.{DiskSays}
use Rattle.disk_journal.specs.Images.{Committed}
use Rattle.disk_journal.specs.Keeping.{KeepsOlder}
use Rattle.disk_journal.specs.Older.{AreOlder, IsClosed, SameBefore}
use Rattle.disk_journal.specs.Stands.{Stands, generation_of_journal, nothing}
use Rattle.disk_journal.specs.declared.journal.Journal.{Journal}

-- two calls
pub tells_two : (old mid new : Files → Type 0) → StillTells old mid → StillTells mid new → StillTells old new
tells_two old mid new first second = λ d read. let one = first d read in second one.0 one.1

-- the file of a journal with the same bytes
closed_in : (groups : List (List ℕ)) (file : ℕ) (d c : Files) → c file ≡ d file → IsClosed groups (d file) → IsClosed groups (c file)
closed_in groups file d c same is = subst (IsClosed groups) (sym same) is

older_in : (older : List (List (List ℕ))) (below : ℕ) (d c : Files) → 1 + 2 * length older ≤ below → SameBefore below d c → AreOlder older d → AreOlder older c
older_in older below d c far same are = λ g lt.
    closed_in (get_or older g []) (1 + 2 * g) d c (same (1 + 2 * g) (omega arith) (omega (arith, far, lt))) (are g lt)

-- one generation more
pub older_more : (older : List (List (List ℕ))) (groups : List (List ℕ)) (image : Files) → AreOlder older image → IsClosed groups (image (1 + 2 * length older)) → AreOlder (older ++ groups ∷ []) image
older_more older groups image are last = λ g lt. at g (eq-or-lt_of_le (let long = length-append older (groups ∷ []) in omega (arith, long, lt)))
  where
    at : (g : ℕ) → (g ≡ length older) ⊎ (g < length older) → IsClosed (get_or (older ++ groups ∷ []) g []) (image (1 + 2 * g))
    at g (inr lt) = subst (λ (x : List (List ℕ)). IsClosed x (image (1 + 2 * g))) (sym (get_or-append older (groups ∷ []) [] g lt)) (are g lt)
    at g (inl is) =
        let here : get_or (older ++ groups ∷ []) g [] ≡ groups = ap (λ (n : ℕ). get_or (older ++ groups ∷ []) n []) is ∙ get_or-append_seam older groups [] [] in
        subst (λ (x : List (List ℕ)). IsClosed x (image (1 + 2 * g))) (sym here) (subst (λ (n : ℕ). IsClosed groups (image (1 + 2 * n))) (sym is) last)

module _ {D : Type 0} (disk_says : DiskSays D) (old new : Journal D) (older : List (List (List ℕ))) (keeps : KeepsOlder disk_says old older) where
  -- the generation is the same
  pub older_kept : (below : ℕ) → 1 + 2 * generation_of_journal old ≤ below → generation_of_journal new ≡ generation_of_journal old → StillTells (disk_says.seen old.disk) (disk_says.seen new.disk)
      → Follows (SameBefore below) (disk_says.may_leave old.disk) (disk_says.may_leave new.disk) → KeepsOlder disk_says new older
  older_kept below far generation told follows = record {
    tells = told keeps.tells.0 keeps.tells.1;
    count = keeps.count ∙ sym generation;
    each = λ image left.
        let was = follows image left in
        let count = keeps.count in
        older_in older below was.0 image (omega (arith, far, count)) was.2 (keeps.each was.0 was.1);
  }

  -- the disk was only read
  pub older_read : generation_of_journal new ≡ generation_of_journal old → Same (disk_says.seen old.disk) (disk_says.seen new.disk) → NoMore (disk_says.may_leave old.disk) (disk_says.may_leave new.disk) → KeepsOlder disk_says new older
  older_read generation same more = record {
    tells = (keeps.tells.0, same.kept keeps.tells.0 keeps.tells.1);
    count = keeps.count ∙ sym generation;
    each = λ image left. keeps.each image (more image left);
  }

  -- the next generation was begun
  pub older_closed : (was : Committed) → Stands disk_says old was nothing → (below : ℕ) → 3 + 2 * generation_of_journal old ≤ below → generation_of_journal new ≡ generation_of_journal old + 1
      → StillTells (disk_says.seen old.disk) (disk_says.seen new.disk) → Follows (SameBefore below) (disk_says.may_leave old.disk) (disk_says.may_leave new.disk) → KeepsOlder disk_says new (older ++ was.groups ∷ [])
  older_closed was stands below far generation told follows = record {
    tells = told keeps.tells.0 keeps.tells.1;
    count = let long = length-append older (was.groups ∷ []) in let count = keeps.count in omega (arith, long, count, generation);
    each = λ image left.
        let from = follows image left in
        let count = keeps.count in
        let rest = stands.each from.0 from.1 in
        let same : image (1 + 2 * was.generation) ≡ from.0 (1 + 2 * was.generation) =
        (let is = stands.generation in from.2 (1 + 2 * was.generation) (omega arith) (omega (arith, far, is))) in
        let newest : IsClosed was.groups (image (1 + 2 * was.generation)) =
        closed_in was.groups (1 + 2 * was.generation) from.0 image same
        (record { are_groups = stands.are_groups; byte = rest.byte; closed = rest.closed; behind = rest.behind; is = rest.form.file }) in
        let all : length older ≡ was.generation = (let is = stands.generation in omega (arith, is, count)) in
        older_more older was.groups image (older_in older below from.0 image (omega (arith, far, count)) from.2 (keeps.each from.0 from.1))
        (subst (λ (n : ℕ). IsClosed was.groups (image (1 + 2 * n))) (sym all) newest);
  }
