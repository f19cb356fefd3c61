-- The making of the first files, after looks at the journal's disk.
use Rattle.std.proofs.Common.{◌≡◌, inl, inr, ℕ, zero, suc, ◌+◌, ◌*◌, ◌<◌, List, [], ◌∷◌, length, Result, Ok, Err, refl, sym, ◌∙◌, ap, subst, arith}
use Rattle.std.specs.Result.{IsErrAnd}
use Rattle.outside_api.specs.Disk.{Files, After, Follows, NoMore, Same}
use Rattle.outside_api.specs.Moments.{Passes, LeavesOnly, started, goes_on, then, weaker}
use Rattle.outside_api.specs.Says.{DiskSays}
use Rattle.depot_rows.specs.db_records.declared.change.Change.{Change}
use Rattle.journal_groups.specs.Groups.{group_text}
use Rattle.disk_journal.specs.Images.{Begins, IsAtRest, IsRoot}
use Rattle.disk_journal.specs.Made.{made, HasFirstFiles, IsBeingMade, SameOthers}
use Rattle.depot_rows.specs.table_changes.Changed.{no_rows}
use Rattle.depot_rows.specs.depot_model.Rules.{IsSound}
use Rattle.recovery.specs.Holding.{Hold}
use Rattle.recovery.specs.Looking.{OnlyReads}
use Rattle.recovery.specs.Making.{HoldsNoRow, IsBare, IsEmptyButRoot, IsMaking}
use Rattle.recovery.specs.Opening.{LooksOnly}
use Rattle.recovery.specs.declared.fault.MakeFault.{MakeFault}
use Rattle.recovery.specs.declared.fault.MakeFault.TheVariants.{DiskFault}
use Rattle.recovery.proofs.Empty.{made_rows, made_stands, made_committed}
use Rattle.recovery.proofs.Held.{rows_once}

at_rest : (image : Files) → HasFirstFiles image → IsRoot 0 (image 0) → IsAtRest made image
at_rest image first root = record {
  root = root;
  byte = 109;
  closed = λ e. omega (arith, e);
  behind = first.journal.behind;
  form = record { checkpoint = first.checkpoint; file = first.journal.is };
}

empty_but_root : IsSound [] → (image : Files) → HasFirstFiles image → IsEmptyButRoot image
empty_but_root sound image first = record { first = first; stands = λ archive root. made_stands sound image archive (made_committed image (at_rest image first root)) }

-- ---- nothing was made before

-- without a root no rows are held
no_root : (image : Files) → image 0 ≡ [] → HoldsNoRow image
no_root image none rows hold table = absurd (omega (arith, hold.committed.rest.root.long, ap length none))

-- a checkpoint has bytes
no_checkpoint : (generation : ℕ) (puts : List Change) (file : List ℕ) → Begins (group_text generation puts) file → file ≡ [] → ⊥
no_checkpoint generation puts file begins none = first_of (sym none ∙ begins.is)
  where
    first_of : {byte : ℕ} {rest : List ℕ} → [] ≡ byte ∷ rest → ⊥
    first_of e = cc

-- neither are rows held where the files of all later generations are empty
no_row : (image : Files) → HasFirstFiles image → ((f : ℕ) → 2 < f → image f ≡ []) → HoldsNoRow image
no_row image first others rows hold table = of_generation hold.was.generation refl
  where
    made_held : IsRoot 0 (image 0) → Hold image no_rows
    made_held root = record { was = made; committed = made_committed image (at_rest image first root); has = made_rows }

    of_generation : (generation : ℕ) → generation ≡ hold.was.generation → rows table ≡ []
    of_generation zero is = rows_once image no_rows rows (made_held (subst (λ (n : ℕ). IsRoot n (image 0)) (sym is) hold.committed.rest.root)) hold table
    of_generation (suc generation) is =
        absurd (no_checkpoint hold.was.generation hold.has.puts (image (2 + 2 * hold.was.generation))
        (subst (λ (text : List ℕ). Begins text (image (2 + 2 * hold.was.generation))) hold.has.are.checkpoint hold.committed.rest.form.checkpoint)
        (others (2 + 2 * hold.was.generation) (omega (arith, is))))

bare_holds_none : (old new : Files) → IsBeingMade old new → IsBare old → HoldsNoRow new
bare_holds_none old new is bare = elim is.root_last [
  | inl same ↦ no_root new (same ∙ bare.root)
  | inr first ↦ no_row new first (λ f behind. is.others f behind ∙ bare.others f behind)
]

making : IsSound [] → (old new : Files) → IsBeingMade old new → IsMaking old new
making sound old new is = record {
  others = is.others;
  root_last = elim is.root_last [ inl same ↦ inl same | inr first ↦ inr (empty_but_root sound new first) ];
  bare = bare_holds_none old new is;
}

module _ {D : Type 0} (disk_says : DiskSays D) (old mid new : D) where
  stays : (c : Files) → disk_says.may_leave old c → After IsMaking (disk_says.may_leave old) c
  stays c left = (c, left, record { others = λ f behind. refl; root_last = inl refl; bare = λ bare. no_root c bare.root })

  -- a disk of which nothing was asked, and one that was looked at
  pub always_here : ((c : Files) → disk_says.left_since old (disk_says.moment old) c → disk_says.may_leave old c) → LeavesOnly disk_says old old (disk_says.may_leave old)
  always_here only_now = started disk_says old (disk_says.may_leave old) only_now

  pub looks_at_none : ((c : Files) → disk_says.left_since old (disk_says.moment old) c → disk_says.may_leave old c) → LooksOnly disk_says old old
  looks_at_none only_now = record { no_more = λ c left. left; any_moment = always_here only_now }

  pub looked : ((c : Files) → disk_says.left_since old (disk_says.moment old) c → disk_says.may_leave old c) → NoMore (disk_says.may_leave old) (disk_says.may_leave mid) → Passes disk_says old mid
      → LooksOnly disk_says old mid
  looked only_now crash time = record { no_more = crash; any_moment = goes_on disk_says old old mid (disk_says.may_leave old) (always_here only_now) time crash }

  -- a disk that was looked at and reads as before
  pub only_looked : Same (disk_says.seen old) (disk_says.seen mid) → LooksOnly disk_says old mid → OnlyReads disk_says old mid
  only_looked same looks = record { same = same; no_more = looks.no_more; any_moment = looks.any_moment }

  -- the journal's disk that was looked at
  pub looked_images : LooksOnly disk_says old mid → Follows IsMaking (disk_says.may_leave old) (disk_says.may_leave mid)
  looked_images looks c left = stays c (looks.no_more c left)

  pub looked_moments : LooksOnly disk_says old mid → LeavesOnly disk_says old mid (After IsMaking (disk_says.may_leave old))
  looked_moments looks = weaker disk_says old mid (disk_says.may_leave old) (After IsMaking (disk_says.may_leave old)) stays looks.any_moment

  -- and then made
  module _ (sound : IsSound []) (looks : LooksOnly disk_says old mid) where
    made_after : (c : Files) → After IsBeingMade (disk_says.may_leave mid) c → After IsMaking (disk_says.may_leave old) c
    made_after c after = (after.0, looks.no_more after.0 after.1, making sound after.0 c after.2)

    pub made_images : Follows IsBeingMade (disk_says.may_leave mid) (disk_says.may_leave new) → Follows IsMaking (disk_says.may_leave old) (disk_says.may_leave new)
    made_images follows c left = made_after c (follows c left)

    pub made_moments : LeavesOnly disk_says mid new (After IsBeingMade (disk_says.may_leave mid)) → LeavesOnly disk_says old new (After IsMaking (disk_says.may_leave old))
    made_moments run = then disk_says old mid new (After IsMaking (disk_says.may_leave old)) (looked_moments looks) (weaker disk_says mid new (After IsBeingMade (disk_says.may_leave mid)) (After IsMaking (disk_says.may_leave old)) made_after run)

-- the other files are as they were read before the look
pub others_read : (before seen may_leave : Files → Type 0) → Same before seen → Follows SameOthers seen may_leave → Follows SameOthers before may_leave
others_read before seen may_leave same follows c left = let after = follows c left in (after.0, same.no_more after.0 after.1, after.2)

-- the fault of a disk, where that is answered
pub disk_fault : {X : Type 0} (r : Result X MakeFault) → IsErrAnd r (λ y. y ≡ DiskFault) → r ≡ Err DiskFault
disk_fault (Ok x) is = absurd is
disk_fault (Err y) is = ap Err is
