-- The last row of each file, among rows in order, is that of its newest revision.
use Rattle.std.proofs.Common.{◌≡◌, ℕ, suc, Bool, true, false, cond, List, [], ◌∷◌, Some, None, refl, sym, ap, ◌∙◌, arith}
use Rattle.std.specs.Prelude.{filter, if◌then◌else◌}
use Rattle.std.specs.Cmp.{nat_cmp_is}
use Rattle.std.specs.List.{All}
use Rattle.std.specs.Option.{option_to_list}
use Rattle.std.specs.Ordering.{nat_cmp, ordering_then, is_eq}
use Rattle.std.specs.declared.cmp.Ordering.{Ordering}
use Rattle.std.specs.declared.cmp.Ordering.TheVariants.{Less, Equal, Greater}
use Rattle.std.proofs.lemmas.Bool.{true≢false, false≢true}
use Rattle.std.proofs.lemmas.List.Elements.{All-nil, All-cons, All-append, All-weaker}
use Rattle.depot_rows.specs.depot_path.Bytes.{same, begins_with}
use Rattle.depot_rows.specs.db_records.declared.key.Key.{Key}
use Rattle.depot_rows.specs.db_records.declared.key.Key.TheVariants as keys
use Rattle.depot_rows.specs.db_records.declared.record.Record.{Record}
use Rattle.depot_rows.specs.db_records.declared.record.Record.TheVariants as records
use Rattle.depot_rows.specs.db_records.declared.rows.RevRecord.{RevRecord}
use Rattle.depot_rows.specs.db_records.Key.{key_cmp}
use Rattle.depot_rows.specs.db_records.Record.{key_of}
use Rattle.depot_rows.specs.table_store.Rows.{is_at, row_at, AllAbove, IsRising}
use Rattle.depot_rows.proofs.table_store.Order.{turned_greater}
use Rattle.row_order.proofs.Order.{AllAbove-lower, greater_trans, row_at-gap, turned_less}
use Rattle.depot_rows.proofs.Keys.{at-is, at-self, same-self}
use Rattle.revision_reads.specs.Probes.{rev_of}
use Rattle.named_files.specs.HeadRows.{IsHead, ended, heads_after, heads_in_front, heads_in_turn, is_of_its_file}
use Rattle.named_files.specs.Listed.{is_in_front}
use Rattle.named_files.specs.declared.listing.Listing.{Listing}
use Rattle.named_files.specs.declared.listing.Listing.TheVariants.{Had, OpenedBy, Submitted}
use Rattle.named_files.proofs.Walking.{text_cmp, text_is, text_self}

-- ---- look-ups in order

next_above : (path : List ℕ) (n : ℕ) → key_cmp (keys.Rev path n) (keys.Rev path (suc n)) ≡ Less
next_above path n = (λ i. ordering_then (text_self path i) (ordering_then (sym (nat_cmp_is n (suc n) Less (omega arith)) i) Equal))

not_at : (k : Key) (row : Record) → key_cmp k (key_of row) ≡ Greater → is_at k row ≡ false
not_at k row above = ap is_eq (turned_greater k (key_of row) above)

passed : (k : Key) (row : Record) (rows : List Record) → is_at k row ≡ false → row_at k (row ∷ rows) ≡ row_at k rows
passed k row rows e = ap (λ b. cond b (Some row) (row_at k rows)) e

found_above : (k low : Key) (row : Record) (rows : List Record) → AllAbove low rows → row_at k rows ≡ Some row → key_cmp k low ≡ Greater
found_above k low row [] above e = absurd cc
found_above k low row (x ∷ rows) above e = go (is_at k x) refl (found_above k low row rows above.1)
  where
    go : (b : Bool) → is_at k x ≡ b → (row_at k rows ≡ Some row → key_cmp k low ≡ Greater) → key_cmp k low ≡ Greater
    go true here more = ap (λ q. key_cmp q low) (sym (at-is (key_of x) k here)) ∙ above.0
    go false not more = more (sym (passed k x rows not) ∙ e)

none_above : (k : Key) (rows : List Record) → AllAbove k rows → row_at k rows ≡ None
none_above k rows above = row_at-gap k [] rows tt above

-- ---- behind a row below

after_row : (row : Record) (rows : List Record) → AllAbove (key_of row) rows → (head : RevRecord) → IsHead rows head → IsHead (row ∷ rows) head
after_row row rows above r is =
    let here : Key = keys.Rev r.path r.rev in
    let next : Key = keys.Rev r.path (suc r.rev) in
    let up : key_cmp here (key_of row) ≡ Greater = found_above here (key_of row) (records.Rev r) rows above is.0 in
    let more : key_cmp next (key_of row) ≡ Greater = greater_trans next here (key_of row) (turned_less here next (next_above r.path r.rev)) up in
    (passed here row rows (not_at here row up) ∙ is.0, passed next row rows (not_at next row more) ∙ is.1)

-- a row of another table stands by all revisions alike
other_above : (path : List ℕ) (m n : ℕ) (before : RevRecord) (row : Record) → before.path ≡ path → is_of_its_file before row ≡ false
    → key_cmp (key_of row) (keys.Rev path m) ≡ Greater → key_cmp (key_of row) (keys.Rev path n) ≡ Greater
other_above path m n before (records.Rev s) is not above = go (text_cmp s.path path) refl above
  where
    go : (o : Ordering) → text_cmp s.path path ≡ o → ordering_then o (ordering_then (nat_cmp s.rev m) Equal) ≡ Greater
        → ordering_then (text_cmp s.path path) (ordering_then (nat_cmp s.rev n) Equal) ≡ Greater
    go Less e up = absurd cc
    go Equal e up = absurd (true≢false (sym (same-self s.path) ∙ ap (λ x. same x s.path) (text_is s.path path e ∙ sym is) ∙ not))
    go Greater e up = ap (λ o. ordering_then o (ordering_then (nat_cmp s.rev n) Equal)) e
other_above path m n before _ is not above = above

-- the last row of a file
ends_file : (r : RevRecord) (rows : List Record) → AllAbove (keys.Rev r.path (suc r.rev)) rows → IsHead (records.Rev r ∷ rows) r
ends_file r rows above =
    let here : Key = keys.Rev r.path r.rev in
    let next : Key = keys.Rev r.path (suc r.rev) in (
      ap (λ b. cond b (Some (records.Rev r)) (row_at here rows)) (at-self here here refl),
      passed next (records.Rev r) rows (not_at next (records.Rev r) (turned_less here next (next_above r.path r.rev))) ∙ none_above next rows above,
    )

behind : (r : RevRecord) (row : Record) (rows : List Record) → is_of_its_file r row ≡ false → IsRising (records.Rev r ∷ row ∷ rows)
    → AllAbove (keys.Rev r.path (suc r.rev)) (row ∷ rows)
behind r row rows not up =
    let next : Key = keys.Rev r.path (suc r.rev) in
    let above : key_cmp (key_of row) next ≡ Greater = other_above r.path r.rev (suc r.rev) r row refl not up.0.0 in
    (above, AllAbove-lower (key_of row) next rows above up.1.0)

-- ---- the last rows

alone : (r : RevRecord) (rows : List Record) → AllAbove (keys.Rev r.path (suc r.rev)) rows → All (IsHead (records.Rev r ∷ rows)) (r ∷ [])
alone r rows above = All-cons (IsHead (records.Rev r ∷ rows)) r [] (ends_file r rows above) (All-nil (IsHead (records.Rev r ∷ rows)))

last_one : (before : Record) → All (IsHead (before ∷ [])) (option_to_list (rev_of (Some before)))
last_one (records.Rev r) = alone r [] tt
last_one before = All-nil (IsHead (before ∷ []))

ended_one : (before row : Record) (rows : List Record) → IsRising (before ∷ row ∷ rows) → All (IsHead (before ∷ row ∷ rows)) (ended (Some before) row)
ended_one (records.Rev r) row rows up = go (is_of_its_file r row) refl
  where
    go : (b : Bool) → is_of_its_file r row ≡ b → All (IsHead (records.Rev r ∷ row ∷ rows)) (if b then [] else r ∷ [])
    go true one = All-nil (IsHead (records.Rev r ∷ row ∷ rows))
    go false not = alone r (row ∷ rows) (behind r row rows not up)
ended_one before row rows up = All-nil (IsHead (before ∷ row ∷ rows))

heads_from : (before : Record) (rows : List Record) → IsRising (before ∷ rows) → All (IsHead (before ∷ rows)) (heads_after (Some before) rows)
heads_from before [] up = last_one before
heads_from before (row ∷ rows) up =
    All-append (IsHead (before ∷ row ∷ rows)) (ended (Some before) row) (heads_after (Some row) rows) (ended_one before row rows up)
    (All-weaker (IsHead (row ∷ rows)) (IsHead (before ∷ row ∷ rows)) (after_row before (row ∷ rows) up.0) (heads_after (Some row) rows) (heads_from row rows up.1))

heads_of_all : (rows : List Record) → IsRising rows → All (IsHead rows) (heads_after None rows)
heads_of_all [] up = All-nil (IsHead [])
heads_of_all (row ∷ rows) up = heads_from row rows up

-- ---- among the rows in front

module _ (test : Record → Bool) where
  above_kept : (k : Key) (rows : List Record) → AllAbove k rows → AllAbove k (filter test rows)
  above_kept k [] above = tt
  above_kept k (row ∷ rows) above = go (test row) (above_kept k rows above.1)
    where
      go : (b : Bool) → AllAbove k (filter test rows) → AllAbove k (if b then row ∷ filter test rows else filter test rows)
      go true more = (above.0, more)
      go false more = more

  rising_kept : (rows : List Record) → IsRising rows → IsRising (filter test rows)
  rising_kept [] up = tt
  rising_kept (row ∷ rows) up = go (test row) (rising_kept rows up.1)
    where
      go : (b : Bool) → IsRising (filter test rows) → IsRising (if b then row ∷ filter test rows else filter test rows)
      go true more = (above_kept (key_of row) rows up.0, more)
      go false more = more

  found_passes : (k : Key) (found : Record) (rows : List Record) → row_at k (filter test rows) ≡ Some found → test found ≡ true
  found_passes k found [] e = absurd cc
  found_passes k found (row ∷ rows) e = go (test row) refl e (found_passes k found rows)
    where
      here : test row ≡ true → (b : Bool) → cond b (Some row) (row_at k (filter test rows)) ≡ Some found
          → (row_at k (filter test rows) ≡ Some found → test found ≡ true) → test found ≡ true
      here passes true f more = let is : row ≡ found = cc in ap test (sym is) ∙ passes
      here passes false f more = more f

      go : (b : Bool) → test row ≡ b → row_at k (if b then row ∷ filter test rows else filter test rows) ≡ Some found
          → (row_at k (filter test rows) ≡ Some found → test found ≡ true) → test found ≡ true
      go true passes f more = here passes (is_at k row) f more
      go false fails f more = more f

  kept_at : (k : Key) → ((row : Record) → is_at k row ≡ true → test row ≡ true) → (rows : List Record) → row_at k (filter test rows) ≡ row_at k rows
  kept_at k passes [] = refl
  kept_at k passes (row ∷ rows) = go (is_at k row) refl (test row) refl (kept_at k passes rows)
    where
      go : (a : Bool) → is_at k row ≡ a → (t : Bool) → test row ≡ t → row_at k (filter test rows) ≡ row_at k rows
          → row_at k (if t then row ∷ filter test rows else filter test rows) ≡ cond a (Some row) (row_at k rows)
      go true here true e more = ap (λ b. cond b (Some row) (row_at k (filter test rows))) here
      go true here false e more = absurd (true≢false (sym (passes row here) ∙ e))
      go false not true e more = passed k row (filter test rows) not ∙ more
      go false not false e more = more

module _ (listing : Listing) (beginning : List ℕ) where
  abbrev test : Record → Bool
  test row = is_in_front listing beginning row

  alike : (l : Listing) (r s : RevRecord) → s.path ≡ r.path → is_in_front l beginning (records.Rev r) ≡ true → is_in_front l beginning (records.Rev s) ≡ true
  alike (Had client) r s is e = e
  alike (OpenedBy client) r s is e = e
  alike Submitted r s is e = ap (λ x. begins_with x beginning) is ∙ e

  all_of_file : (r : RevRecord) (n : ℕ) → test (records.Rev r) ≡ true → (row : Record) → is_at (keys.Rev r.path n) row ≡ true → test row ≡ true
  all_of_file r n passes (records.Rev s) here =
      let one : keys.Rev s.path s.rev ≡ keys.Rev r.path n = at-is (keys.Rev s.path s.rev) (keys.Rev r.path n) here in
      let is : s.path ≡ r.path = cc in
      alike listing r s is passes
  all_of_file r n passes (records.Counter s) here = absurd (false≢true here)
  all_of_file r n passes (records.Group s) here = absurd (false≢true here)
  all_of_file r n passes (records.Protect s) here = absurd (false≢true here)
  all_of_file r n passes (records.Domain s) here = absurd (false≢true here)
  all_of_file r n passes (records.Have s) here = absurd (false≢true here)
  all_of_file r n passes (records.Label s) here = absurd (false≢true here)
  all_of_file r n passes (records.Integed s) here = absurd (false≢true here)
  all_of_file r n passes (records.Resolve s) here = absurd (false≢true here)
  all_of_file r n passes (records.Working s) here = absurd (false≢true here)
  all_of_file r n passes (records.Change s) here = absurd (false≢true here)

  among_all : (rows : List Record) (r : RevRecord) → IsHead (filter test rows) r → IsHead rows r
  among_all rows r is =
      let here : Key = keys.Rev r.path r.rev in
      let next : Key = keys.Rev r.path (suc r.rev) in
      let passes : test (records.Rev r) ≡ true = found_passes test here (records.Rev r) rows is.0 in (
        sym (kept_at test here (all_of_file r r.rev passes) rows) ∙ is.0,
        sym (kept_at test next (all_of_file r (suc r.rev) passes) rows) ∙ is.1,
      )

  front_heads : (rows : List Record) → IsRising rows → All (IsHead rows) (heads_in_front listing rows beginning)
  front_heads rows up =
      All-weaker (IsHead (filter test rows)) (IsHead rows) (among_all rows) (heads_in_front listing rows beginning) (heads_of_all (filter test rows) (rising_kept test rows up))

pub turn_heads : (listing : Listing) (rows : List Record) → IsRising rows → (beginnings : List (List ℕ)) → All (IsHead rows) (heads_in_turn listing rows beginnings)
turn_heads listing rows up [] = All-nil (IsHead rows)
turn_heads listing rows up (beginning ∷ beginnings) =
    All-append (IsHead rows) (heads_in_front listing rows beginning) (heads_in_turn listing rows beginnings) (front_heads listing beginning rows up) (turn_heads listing rows up beginnings)
