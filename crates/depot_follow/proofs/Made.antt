-- Files that were just made have no changes.
use Rattle.std.proofs.Common.{◌≡◌, ◌≢◌, ℕ, ◌+◌, ◌*◌, List, [], ◌∷◌, ◌++◌, refl, sym, ap, ◌∙◌, arith}
use Rattle.outside_api.specs.Disk.{Files}
use Rattle.depot_rows.specs.table_changes.Changed.{AllRows, no_rows}
use Rattle.disk_journal.specs.Images.{Committed, HasCommitted}
use Rattle.disk_journal.specs.Made.{made}
use Rattle.disk_journal.specs.Text.{blocks, mark}
use Rattle.recovery.specs.Holding.{Hold}
use Rattle.recovery.proofs.Empty.{made_rows}
use Rattle.recovery.proofs.Held.{rows_once}
use Rattle.replica_chain.specs.Opening.{AreWritten}
use Rattle.depot_follow.specs.Opening.{no_changes}

-- a file that begins with a closed mark has no group
none_before : (file : List ℕ) (groups : List (List ℕ)) (byte other : ℕ) (behind more : List ℕ) → other ≢ 101 → file ≡ blocks groups ++ mark byte ++ behind → file ≡ mark other ++ more → groups ≡ []
none_before file [] byte other behind more closed is begins = refl
none_before file (g ∷ groups) byte other behind more closed is begins = absurd (closed (open_one (sym begins ∙ is)))
  where
    open_one : mark other ++ more ≡ blocks (g ∷ groups) ++ mark byte ++ behind → other ≡ 101
    open_one e = cc

module _ (image : Files) (committed : HasCommitted made image) where
  same_generation : (was : Committed) → HasCommitted was image → was.generation ≡ 0
  same_generation was has = sym has.root ∙ committed.root

  no_groups : (was : Committed) → HasCommitted was image → was.groups ≡ []
  no_groups was has =
      none_before (image 1) was.groups has.rest.byte committed.rest.byte has.rest.behind committed.rest.behind committed.rest.closed
      (ap (λ (n : ℕ). image (1 + 2 * n)) (sym (same_generation was has)) ∙ has.rest.form.file) committed.rest.form.file

  held_none : (rows : AllRows) → Hold image rows → rows ≡ no_rows
  held_none rows hold = λ i table. rows_once image no_rows rows (record { was = made; committed = committed; has = made_rows }) hold table i

  pub made_written : AreWritten no_changes image
  made_written = record {
    are_groups = (tt, tt);
    older = λ generation lt. absurd (omega (arith, lt));
    generation = same_generation;
    newest_are = no_groups;
    rows = held_none;
  }
