-- The rows of counters are those of the names that have values.
use Rattle.std.proofs.Common.{◌≡◌, ℕ, Bool, true, false, inl, List, [], ◌∷◌, Option, Some, None, refl, sym, ap, ◌∙◌, subst}
use Rattle.std.specs.Prelude.{codes, filter, filter_map, if◌then◌else◌, option_map}
use Rattle.std.specs.List.{list_any, cons_option}
use Rattle.std.specs.Option.{option_or, option_flatten}
use Rattle.std.specs.Cmp.Lexicographic.{slice_cmp}
use Rattle.std.specs.Ordering.{nat_cmp}
use Rattle.depot_rows.specs.depot_path.Bytes.{same}
use Rattle.depot_rows.specs.db_records.Key.{key_table}
use Rattle.depot_rows.specs.db_records.Record.{key_of}
use Rattle.depot_rows.specs.db_records.declared.key.Key.{Key}
use Rattle.depot_rows.specs.db_records.declared.key.Key.TheVariants as keys
use Rattle.depot_rows.specs.db_records.declared.record.Record.{Record}
use Rattle.depot_rows.specs.db_records.declared.record.Record.TheVariants as records
use Rattle.depot_rows.specs.db_records.declared.table.TableId.TheVariants as tables
use Rattle.depot_rows.specs.db_records.declared.table.TableId.{TableId}
use Rattle.row_ranges.specs.Ranges.{has_row}
use Rattle.row_ranges.specs.declared.range.KeyRange.TheVariants.{Counters}
use Rattle.depot_rows.specs.table_store.Rows.{AllOfTable, IsRising, TableRows, row_at}
use Rattle.depot_rows.specs.depot_model.Deeds as deeds
use Rattle.depot_rows.specs.depot_model.Deeds.{Deed}
use Rattle.depot_rows.specs.depot_model.Latest.{keys_of, count_name, count_of, count_said, latest}
use Rattle.depot_rows.specs.depot_model.Numbers.{top}
use Rattle.depot_rows.specs.depot_model.Records.{record_of}
use Rattle.depot_rows.specs.depot_model.Sorted.{inserted}
use Rattle.depot_rows.specs.depot_model.Steps.Counters.{above_zero, counter_of}
use Rattle.depot_rows.specs.Standing.{unplaced_at}
use Rattle.row_reads.specs.Counters.{counters_in, counters_of, valued}
use Rattle.row_reads.proofs.Alike.{unplaced_row}
use Rattle.row_reads.proofs.GroupsListed.{same_text, same_self}
use Rattle.row_reads.proofs.Named.{AreRising, inserted_rise, inserted_lacks, rows_are, then_equal}

abbrev row_of : Option ℕ → List ℕ → Option Record
row_of value name = option_map (λ n. records.Counter (record { name = name; value = n })) value

abbrev said : List Deed → List ℕ → Option Record
said d name = row_of (counter_of d name) name

own : (value : Option ℕ) (x : List ℕ) (r : Record) → row_of value x ≡ Some r → r ≡ records.Counter (record { name = x; value = elim value [ None ↦ 0 | Some n ↦ n ] })
own None x r e = absurd cc
own (Some n) x r e = let h : records.Counter (record { name = x; value = n }) ≡ r = cc in sym h

-- a name without a count has none
uncounted_here : (x n : List ℕ) (value : Option ℕ) (d : List Deed) (b : Bool) → same n x ≡ b → same x n ≡ false → option_flatten (latest (count_said x) d) ≡ None
    → option_flatten (option_or (if b then Some value else None) (latest (count_said x) d)) ≡ None
uncounted_here x n value d false e k more = more
uncounted_here x n value d true e k more = absurd (let P : List ℕ → Type 0 = λ z. same x z ≡ true in let h : true ≡ false = sym (subst P (sym (same_text n x e)) (same_self x)) ∙ k in cc)

uncounted : (x : List ℕ) (d : List Deed) → list_any (same x) (keys_of count_name d) ≡ false → count_of d x ≡ None
uncounted x [] lacks = refl
uncounted x (deeds.Count n value ∷ d) lacks =
    let h = inserted_lacks x n (keys_of count_name d) lacks in
    uncounted_here x n value d (same n x) refl h.0 (uncounted x d h.1)
uncounted x (_ ∷ d) lacks = uncounted x d lacks

unsaid : (x : List ℕ) (top count : Option ℕ) (b : Bool) → same x (codes "change") ≡ b → same x (codes "change") ≡ false → count ≡ None
    → row_of (if b then top else count) x ≡ None
unsaid x top count true e k none = absurd (let h : true ≡ false = sym e ∙ k in cc)
unsaid x top count false e k none = ap (λ v. row_of v x) none

names_rise : (d : List Deed) → AreRising (keys_of count_name d)
names_rise [] = tt
names_rise (deeds.Count n value ∷ d) = inserted_rise n (keys_of count_name d) (names_rise d)
names_rise (_ ∷ d) = names_rise d

first_read : (rest : List Record) (more : List (List ℕ)) (name : List ℕ) (value : Option ℕ) (d : List Deed)
    → counters_in rest ≡ filter_map (λ x. option_map (valued x) (counter_of d x)) more
    → counters_in (cons_option (row_of value name) rest) ≡ cons_option (option_map (valued name) value) (filter_map (λ x. option_map (valued x) (counter_of d x)) more)
first_read rest more name None d e = e
first_read rest more name (Some n) d e = ap (λ l. valued name n ∷ l) e

all_read : (d : List Deed) (names : List (List ℕ)) → counters_in (filter_map (said d) names) ≡ filter_map (λ x. option_map (valued x) (counter_of d x)) names
all_read d [] = refl
all_read d (x ∷ names) = first_read (filter_map (said d) names) names x (counter_of d x) d (all_read d names)

known : (q : Key) → key_table q ≡ tables.Counter → (x : List ℕ) × (q ≡ keys.Counter x)
known (keys.Counter name) k = (name, refl)
known (keys.Group a b) k = absurd cc
known (keys.Protect n) k = absurd cc
known (keys.Domain a b) k = absurd cc
known (keys.Have a b) k = absurd cc
known (keys.Label a b) k = absurd cc
known (keys.Integed a b x y u v how change) k = absurd cc
known (keys.Resolve a b x) k = absurd cc
known (keys.Working a b) k = absurd cc
known (keys.Change n) k = absurd cc
known (keys.Rev a n) k = absurd cc

module _ (d : List Deed) (rows : List Record) (up : IsRising rows) (of : AllOfTable tables.Counter rows) (has : (x : List ℕ) → row_at (keys.Counter x) rows ≡ said d x) where
  abbrev names : List (List ℕ)
  names = inserted (codes "change") (keys_of count_name d)

  whole : (x : List ℕ) → list_any (same x) names ≡ false → said d x ≡ None
  whole x lacks =
      let h = inserted_lacks x (codes "change") (keys_of count_name d) lacks in
      unsaid x (above_zero (top d)) (count_of d x) (same x (codes "change")) refl h.0 (uncounted x d h.1)

  pub counters_are : counters_in (filter (has_row Counters) rows) ≡ counters_of d
  counters_are =
      ap (λ rs. counters_in rs)
      (rows_are keys.Counter (λ a b. then_equal (slice_cmp nat_cmp a b)) (said d) (λ x r e. let is = own (counter_of d x) x r e in let P : Record → Type 0 = λ s. key_of s ≡ keys.Counter x in subst P (sym is) refl)
      tables.Counter (λ x. refl) (has_row Counters)
      (λ x r e. let is = own (counter_of d x) x r e in let P : Record → Type 0 = λ s. has_row Counters s ≡ true in subst P (sym is) refl)
      (λ q k. inl (known q k)) rows up of names (inserted_rise (codes "change") (keys_of count_name d) (names_rise d)) whole has)
      ∙ all_read d names

pub counters_told : (version : TableRows) (rows : List Record) → version.rows ≡ rows → version.table ≡ tables.Counter → AllOfTable version.table version.rows
    → IsRising version.rows → (d : List Deed) → ((key : Key) → key_table key ≡ tables.Counter → unplaced_at rows key ≡ record_of d key)
    → counters_in (filter (has_row Counters) rows) ≡ counters_of d
counters_told version rows are is of up d has =
    let P : TableId → Type 0 = λ t. AllOfTable t rows in
    let Q : List Record → Type 0 = λ rs. AllOfTable version.table rs in
    let ours : AllOfTable tables.Counter rows = subst P is (subst Q are of) in
    counters_are d rows (subst IsRising are up) ours (λ x. sym (unplaced_row tables.Counter (λ e. cc) rows ours (keys.Counter x)) ∙ has (keys.Counter x) refl)
