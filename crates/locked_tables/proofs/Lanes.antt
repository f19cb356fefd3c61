-- The lanes of an entry.
use Rattle.std.proofs.Common.{◌≡◌, ◌≢◌, ◌≤◌, ◌<◌, ◌==◌, ◌||◌, ℕ, Bool, true, false, List, [], ◌∷◌, ◌++◌, Option, Some, None, refl, sym, ap, ◌∙◌, arith}
use Rattle.std.specs.List.{AllByRecursion}
use mathlib.Core.Logic.{dite}
use native.Mathlib.Decide.{ℕ_discrete}
use Rattle.std.proofs.lemmas.Bool.{eq-eqb, ne_eqb, true≢false, or_parts, or_left, or_right}
use Rattle.std.proofs.lemmas.Nat.Bits.{bit_at-zero}
use Rattle.depot_model.specs.db_records.Table.{table_number}
use Rattle.depot_model.specs.db_records.declared.table.TableId.{TableId}
use Rattle.depot_model.specs.db_records.declared.table.TableId.TheVariants.{Counter, Group, Protect, Domain, Have, Label, Integed, Resolve, Working, Change, Rev}
use Rattle.order_words.specs.Lanes.{has_lane, is_among}
use Rattle.table_changes.specs.table_store.Rows.{TableRows}
use Rattle.locked_tables.specs.Held.{AreAmong, known_of, lane_next, lanes_next, table_held}
use Rattle.locked_tables.specs.Known.{TableKnown}
use Rattle.locked_tables.specs.Placing.{AddsLanes, AreOfTables, lanes_held}
use Rattle.locked_tables.specs.Taken.{archive_lane, journal_lane, party_lane}
use Rattle.locked_tables.specs.declared.held_table.HeldTable.{HeldTable}

pub or_no_first : (a b : Bool) → a ≡ false → (a || b) ≡ b
or_no_first a b e = ap (λ (c : Bool). c || b) e

pub or_no_second : (a b : Bool) → b ≡ false → (a || b) ≡ a
or_no_second true b e = refl
or_no_second false b e = e

module _ (lane : ℕ) where
  -- what isn't among the lanes isn't among the last of them
  pub not_last : (front rest : List ℕ) → is_among lane (front ++ rest) ≡ false → is_among lane rest ≡ false
  not_last [] rest e = e
  not_last (first ∷ front) rest e = not_last front rest ((or_parts (lane == first) (is_among lane (front ++ rest)) e).1)

-- no bit of zero is set
pub no_lane : (lane : ℕ) → has_lane 0 lane ≡ false
no_lane lane = ap (λ (b : ℕ). b == 1) (bit_at-zero lane)

-- no lane of none is among any
pub none_among : (checked : List ℕ) → AreAmong 0 checked
none_among checked = λ lane has. absurd (true≢false (sym has ∙ no_lane lane))

-- what is among all is so among some or among more
or_three : (a b c : Bool) → ((a || (b || false)) || c) ≡ (a || (b || c))
or_three true b c = refl
or_three false true c = refl
or_three false false c = refl

or_also : (a b c : Bool) → (a || (b || false)) ≡ true → (a ≡ true → c ≡ true) → (b || c) ≡ true
or_also a true c e also = refl
or_also true false c e also = also refl
or_also false false c e also = absurd (cc e)

-- the bits of lanes and of one more
pub lane_added : (lanes all lane : ℕ) → has_lane all lane ≡ true → ((i : ℕ) → i ≢ lane → has_lane all i ≡ has_lane lanes i) → AddsLanes lanes (lane ∷ []) all
lane_added lanes all lane one others = record {
  are = λ i. dite (ℕ_discrete i lane)
      (λ e. ap (has_lane all) e ∙ (one ∙ sym (or_right (has_lane lanes i) ((i == lane) || false) (or_left (i == lane) false (eq-eqb i lane e)))))
      (λ ne. others i ne ∙ sym (or_no_second (has_lane lanes i) ((i == lane) || false) (or_no_first (i == lane) false (ne_eqb i lane ne))));
}

module _ {lanes all lane : ℕ} where
  -- they are checked where that one is too
  pub among_more : AddsLanes lanes (lane ∷ []) all → (checked : List ℕ) → AreAmong lanes checked → AreAmong all (lane ∷ checked)
  among_more adds checked among i has = or_also (has_lane lanes i) (i == lane) (is_among i checked) (sym (adds.are i) ∙ has) (among i)

  -- and so are further ones
  pub adds_both : {rest : List ℕ} {last : ℕ} → AddsLanes lanes (lane ∷ []) all → AddsLanes all rest last → AddsLanes lanes (lane ∷ rest) last
  adds_both {rest} {last} one more = record { are = λ i. more.are i ∙ (ap (λ (b : Bool). b || is_among i rest) (one.are i) ∙ or_three (has_lane lanes i) (i == lane) (is_among i rest)) }

  -- that one is among them
  pub has_this : {rest : List ℕ} → AddsLanes lanes (lane ∷ rest) all → has_lane all lane ≡ true
  has_this {rest} adds = adds.are lane ∙ or_right (has_lane lanes lane) ((lane == lane) || is_among lane rest) (or_left (lane == lane) (is_among lane rest) (eq-eqb lane lane refl))

-- with none before, these are all
pub adds_alone : {more : List ℕ} {all : ℕ} → AddsLanes 0 more all → (lane : ℕ) → has_lane all lane ≡ is_among lane more
adds_alone {more} adds lane = adds.are lane ∙ or_no_first (has_lane 0 lane) (is_among lane more) (no_lane lane)

-- ---- lanes of tables, of the archive and of parties

pub small : (table : TableId) → table_number table < archive_lane
small Counter = omega arith
small Group = omega arith
small Protect = omega arith
small Domain = omega arith
small Have = omega arith
small Label = omega arith
small Integed = omega arith
small Resolve = omega arith
small Working = omega arith
small Change = omega arith
small Rev = omega arith

-- a lane behind those of the tables is that of none
not_of_table : (lane : ℕ) (table : TableId) → archive_lane ≤ lane → (lane == table_number table) ≡ false
not_of_table lane table past = let less = small table in ne_eqb lane (table_number table) (λ e. absurd (omega arith))

module _ {N : Type 0} where
  not_next : (lane : ℕ) (held : List (HeldTable N)) → archive_lane ≤ lane → is_among lane (lanes_next held) ≡ false
  not_next lane [] past = refl
  not_next lane (h ∷ held) past = go h.next (not_next lane held past)
    where
      go : (next : Option TableRows) → is_among lane (lanes_next held) ≡ false → is_among lane (lane_next next (table_held h) (lanes_next held)) ≡ false
      go None none = none
      go (Some version) none = ap (λ (b : Bool). b || is_among lane (lanes_next held)) (not_of_table lane (table_held h) past) ∙ none

  -- the lanes of held tables that are changed are such
  pub next_of_tables : (held : List (HeldTable N)) → AreOfTables (lanes_next held)
  next_of_tables held = λ lane past. not_next lane held past

-- ---- held tables, of which the first is changed or isn't

module _ {N : Type 0} {first : HeldTable N} {rest held : List (HeldTable N)} (is : held ≡ first ∷ rest) where
  lanes_by : {next : Option TableRows} → first.next ≡ next → lane_next next (table_held first) (lanes_next rest) ≡ lanes_next held
  lanes_by next = sym (ap lanes_next is ∙ ap (λ (n : Option TableRows). lane_next n (table_held first) (lanes_next rest)) next)

  pub lanes_kept : first.next ≡ None → lanes_next rest ≡ lanes_next held
  lanes_kept none = lanes_by none

  pub lanes_more : {version : TableRows} {known : TableKnown} → first.next ≡ Some version → known ≡ known_of first → table_number known.table ∷ lanes_next rest ≡ lanes_next held
  lanes_more next known = ap (λ (k : TableKnown). table_number k.table ∷ lanes_next rest) known ∙ lanes_by next

-- ---- lanes of parties

-- the lane of a party is that of another just where they are one
same_lane : (party other : ℕ) → (party_lane party == party_lane other) ≡ (other == party)
same_lane party other = dite (ℕ_discrete other party)
    (λ e. eq-eqb (party_lane party) (party_lane other) (ap party_lane (sym e)) ∙ sym (eq-eqb other party e))
    (λ ne. ne_eqb (party_lane party) (party_lane other) (λ e. ne (omega arith)) ∙ sym (ne_eqb other party ne))

-- of the lanes of a party and of some below, a party's lane is that party's
pub lane_of_party : (party other : ℕ) (lanes : List ℕ) → is_among (party_lane party) lanes ≡ false → is_among (party_lane party) (party_lane other ∷ lanes) ≡ (other == party)
lane_of_party party other lanes none = or_no_second (party_lane party == party_lane other) (is_among (party_lane party) lanes) none ∙ same_lane party other

-- lanes behind those of the tables and before those of the parties: that of the archive and that of the journal
abbrev pub IsBetween : ℕ → Type 0
IsBetween lane = (archive_lane ≤ lane) × (lane ≤ journal_lane)

-- of such lanes and of others, a party's lane is among the others
pub past_between : (front rest : List ℕ) (party : ℕ) → AllByRecursion IsBetween front → 1 ≤ party → is_among (party_lane party) (front ++ rest) ≡ is_among (party_lane party) rest
past_between [] rest party all low = refl
past_between (lane ∷ front) rest party all low = let high = all.0.1 in
    or_no_first (party_lane party == lane) (is_among (party_lane party) (front ++ rest)) (ne_eqb (party_lane party) lane (λ e. absurd (omega arith))) ∙ past_between front rest party all.1 low

-- of such lanes, a party's and those of tables, such a lane is among the first
pub among_front : (lane : ℕ) (front : List ℕ) (party : ℕ) (tables : List ℕ) → IsBetween lane → 1 ≤ party → AreOfTables tables → is_among lane (front ++ party_lane party ∷ tables) ≡ is_among lane front
among_front lane [] party tables between low are =
    let past = between.0 in
    let high = between.1 in
    or_no_first (lane == party_lane party) (is_among lane tables) (ne_eqb lane (party_lane party) (λ e. absurd (omega arith))) ∙ are lane past
among_front lane (first ∷ front) party tables between low are = ap (λ (b : Bool). (lane == first) || b) (among_front lane front party tables between low are)

-- those of the archive and of the journal that are held are such
pub between_held : (archive journal : Bool) → AllByRecursion IsBetween (lanes_held archive journal)
between_held true true = ((omega arith, omega arith), ((omega arith, omega arith), tt))
between_held true false = ((omega arith, omega arith), tt)
between_held false true = ((omega arith, omega arith), tt)
between_held false false = tt

-- the archive's is among them just where it is held
pub archive_among : (archive journal : Bool) → is_among archive_lane (lanes_held archive journal) ≡ archive
archive_among true journal = refl
archive_among false true = refl
archive_among false false = refl

-- so is the journal's
pub journal_among : (archive journal : Bool) → is_among journal_lane (lanes_held archive journal) ≡ journal
journal_among true true = refl
journal_among true false = refl
journal_among false true = refl
journal_among false false = refl
