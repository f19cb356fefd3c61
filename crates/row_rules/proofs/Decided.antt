-- What the tests of all tables decide.
use Rattle.std.proofs.Common.{◌≡◌, ◌<◌, ◌≤◌, ◌↔◌, ℕ, Bool, true, false, List, [], ◌∷◌, None, sym, ◌∙◌, arith}
use Rattle.std.specs.Prelude.{◌&&◌, IsTrue, codes}
use Rattle.std.specs.List.{list_all}
use Rattle.std.proofs.lemmas.Bool.{true≢false, and_parts}
use Rattle.depot_rows.specs.db_records.declared.key.Key.TheVariants as keys
use Rattle.depot_rows.specs.db_records.declared.record.Record.{Record}
use Rattle.depot_rows.specs.db_records.Table.{all_tables}
use Rattle.depot_rows.specs.db_records.declared.table.TableId.{TableId}
use Rattle.depot_rows.specs.db_records.declared.table.TableId.TheVariants as tables
use Rattle.depot_rows.specs.table_store.Rows.{IsRising, AllOfTable}
use Rattle.depot_rows.specs.depot_model.Rules.{top_in, value_of}
use Rattle.row_rules.specs.Kept.{KeepRowRules}
use Rattle.row_rules.specs.Tests.{keeps, are_apart}
use Rattle.row_rules.proofs.Joined.{rows_in, rules_kept, all_keep}
use Rattle.row_rules.proofs.OneLock.{one_lock, locks_apart}

-- what holds of each table by name holds of all
pub by_table : (P : TableId → Type 0) → P tables.Counter → P tables.Group → P tables.Protect → P tables.Domain → P tables.Have → P tables.Label
    → P tables.Integed → P tables.Resolve → P tables.Working → P tables.Change → P tables.Rev → (table : TableId) → P table
by_table P a b c d e f g h i j k tables.Counter = a
by_table P a b c d e f g h i j k tables.Group = b
by_table P a b c d e f g h i j k tables.Protect = c
by_table P a b c d e f g h i j k tables.Domain = d
by_table P a b c d e f g h i j k tables.Have = e
by_table P a b c d e f g h i j k tables.Label = f
by_table P a b c d e f g h i j k tables.Integed = g
by_table P a b c d e f g h i j k tables.Resolve = h
by_table P a b c d e f g h i j k tables.Working = i
by_table P a b c d e f g h i j k tables.Change = j
by_table P a b c d e f g h i j k tables.Rev = k

module _ (test : TableId → Bool) where
  all_hold : ((table : TableId) → test table ≡ true) → list_all test all_tables ≡ true
  all_hold h =
      λ i. h tables.Counter i && (h tables.Group i && (h tables.Protect i && (h tables.Domain i && (h tables.Have i && (h tables.Label i
      && (h tables.Integed i && (h tables.Resolve i && (h tables.Working i && (h tables.Change i && (h tables.Rev i && true))))))))))

  first : (table : TableId) (others : List TableId) → list_all test (table ∷ others) ≡ true → test table ≡ true
  first table others e = (and_parts (test table) (list_all test others) e).0

  rest : (table : TableId) (others : List TableId) → list_all test (table ∷ others) ≡ true → list_all test others ≡ true
  rest table others e = (and_parts (test table) (list_all test others) e).1

  each_table : list_all test all_tables ≡ true → (table : TableId) → test table ≡ true
  each_table e =
      let e_Counter = rest tables.Counter (tables.Group ∷ tables.Protect ∷ tables.Domain ∷ tables.Have ∷ tables.Label ∷ tables.Integed ∷ tables.Resolve ∷ tables.Working ∷ tables.Change ∷ tables.Rev ∷ []) e in
      let e_Group = rest tables.Group (tables.Protect ∷ tables.Domain ∷ tables.Have ∷ tables.Label ∷ tables.Integed ∷ tables.Resolve ∷ tables.Working ∷ tables.Change ∷ tables.Rev ∷ []) e_Counter in
      let e_Protect = rest tables.Protect (tables.Domain ∷ tables.Have ∷ tables.Label ∷ tables.Integed ∷ tables.Resolve ∷ tables.Working ∷ tables.Change ∷ tables.Rev ∷ []) e_Group in
      let e_Domain = rest tables.Domain (tables.Have ∷ tables.Label ∷ tables.Integed ∷ tables.Resolve ∷ tables.Working ∷ tables.Change ∷ tables.Rev ∷ []) e_Protect in
      let e_Have = rest tables.Have (tables.Label ∷ tables.Integed ∷ tables.Resolve ∷ tables.Working ∷ tables.Change ∷ tables.Rev ∷ []) e_Domain in
      let e_Label = rest tables.Label (tables.Integed ∷ tables.Resolve ∷ tables.Working ∷ tables.Change ∷ tables.Rev ∷ []) e_Have in
      let e_Integed = rest tables.Integed (tables.Resolve ∷ tables.Working ∷ tables.Change ∷ tables.Rev ∷ []) e_Label in
      let e_Resolve = rest tables.Resolve (tables.Working ∷ tables.Change ∷ tables.Rev ∷ []) e_Integed in
      let e_Working = rest tables.Working (tables.Change ∷ tables.Rev ∷ []) e_Resolve in
      let e_Change = rest tables.Change (tables.Rev ∷ []) e_Working in
      by_table (λ table. test table ≡ true)
      (first tables.Counter (tables.Group ∷ tables.Protect ∷ tables.Domain ∷ tables.Have ∷ tables.Label ∷ tables.Integed ∷ tables.Resolve ∷ tables.Working ∷ tables.Change ∷ tables.Rev ∷ []) e)
      (first tables.Group (tables.Protect ∷ tables.Domain ∷ tables.Have ∷ tables.Label ∷ tables.Integed ∷ tables.Resolve ∷ tables.Working ∷ tables.Change ∷ tables.Rev ∷ []) e_Counter)
      (first tables.Protect (tables.Domain ∷ tables.Have ∷ tables.Label ∷ tables.Integed ∷ tables.Resolve ∷ tables.Working ∷ tables.Change ∷ tables.Rev ∷ []) e_Group)
      (first tables.Domain (tables.Have ∷ tables.Label ∷ tables.Integed ∷ tables.Resolve ∷ tables.Working ∷ tables.Change ∷ tables.Rev ∷ []) e_Protect)
      (first tables.Have (tables.Label ∷ tables.Integed ∷ tables.Resolve ∷ tables.Working ∷ tables.Change ∷ tables.Rev ∷ []) e_Domain)
      (first tables.Label (tables.Integed ∷ tables.Resolve ∷ tables.Working ∷ tables.Change ∷ tables.Rev ∷ []) e_Have)
      (first tables.Integed (tables.Resolve ∷ tables.Working ∷ tables.Change ∷ tables.Rev ∷ []) e_Label)
      (first tables.Resolve (tables.Working ∷ tables.Change ∷ tables.Rev ∷ []) e_Integed)
      (first tables.Working (tables.Change ∷ tables.Rev ∷ []) e_Resolve)
      (first tables.Change (tables.Rev ∷ []) e_Working)
      (first tables.Rev [] e_Change)

module _ (lists : TableId → List Record) where
  pub top_refused : (top : ℕ) → top ≡ top_in (rows_in lists) → 2147483647 < top → IsTrue false ↔ KeepRowRules (rows_in lists)
  top_refused top e great = (
    λ f. absurd (true≢false (sym f)),
    λ kept. let fits = kept.top_fits in absurd (omega arith),
  )

  pub generation_refused : (generation : ℕ) → generation ≡ value_of (rows_in lists (keys.Counter (codes "journal"))) → 4095 < generation
      → IsTrue false ↔ KeepRowRules (rows_in lists)
  generation_refused generation e great = (
    λ f. absurd (true≢false (sym f)),
    λ kept. let fits = kept.generation_fits in absurd (omega arith),
  )

  both_true : (a b : Bool) → a ≡ true → b ≡ true → (a && b) ≡ true
  both_true a b e f = λ i. e i && f i

  pub decided : ((table : TableId) → IsRising (lists table)) → ((table : TableId) → AllOfTable table (lists table)) → (top generation : ℕ) (keep apart : Bool)
      → top ≡ top_in (rows_in lists) → top ≤ 2147483647 → generation ≡ value_of (rows_in lists (keys.Counter (codes "journal"))) → generation ≤ 4095
      → keep ≡ list_all (λ table. list_all (keeps (rows_in lists)) (lists table)) all_tables → apart ≡ are_apart None (lists tables.Working)
      → IsTrue (keep && apart) ↔ KeepRowRules (rows_in lists)
  decided up of top generation keep apart top_is top_low generation_is generation_low keep_is apart_is = (
    λ e.
        let all : (table : TableId) → list_all (keeps (rows_in lists)) (lists table) ≡ true =
        each_table (λ table. list_all (keeps (rows_in lists)) (lists table)) (sym keep_is ∙ (and_parts keep apart e).0) in
        let top_fits : top_in (rows_in lists) ≤ 2147483647 = omega arith in
        let generation_fits : value_of (rows_in lists (keys.Counter (codes "journal"))) ≤ 4095 = omega arith in
        rules_kept lists top_fits all generation_fits (one_lock lists up of (sym apart_is ∙ (and_parts keep apart e).1)),
    λ kept. both_true keep apart
        (keep_is ∙ all_hold (λ table. list_all (keeps (rows_in lists)) (lists table)) (all_keep lists up of kept))
        (apart_is ∙ locks_apart lists up of kept.one_lock),
  )
