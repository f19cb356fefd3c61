-- What the rows of shelved files tell of them: which files there are, and that these rise.
use Rattle.std.proofs.Common.{◌≡◌, ℕ, Bool, true, false, cond, List, [], ◌∷◌, ◌++◌, Option, Some, None, inl, inr, refl, sym, ap, subst, ◌∙◌}
use Rattle.std.specs.Prelude.{◌&&◌, ◌||◌, drop, filter, if◌then◌else◌, is_some, length}
use Rattle.std.specs.List.{list_any}
use Rattle.std.specs.Ordering.{ordering_then}
use Rattle.std.specs.declared.cmp.Ordering.{Ordering}
use Rattle.std.specs.declared.cmp.Ordering.TheVariants.{Less, Equal, Greater}
use Rattle.std.proofs.lemmas.List.Folds.{list_any-append}
use Rattle.std.proofs.lemmas.Bool.{false≢true}
use Rattle.std.proofs.lemmas.Bool.Decides.{Decides-eqb}
use Rattle.depot_rows.specs.depot_path.Bytes.{begins_with, same}
use Rattle.depot_rows.specs.depot_path.Order.{path_cmp}
use Rattle.depot_rows.specs.depot_path.Path.{is_path, printed}
use Rattle.depot_rows.specs.db_records.declared.key.Key.{Key}
use Rattle.depot_rows.specs.db_records.declared.key.Key.TheVariants as keys
use Rattle.depot_rows.specs.db_records.declared.record.Record.{Record}
use Rattle.depot_rows.specs.db_records.declared.record.Record.TheVariants as records
use Rattle.depot_rows.specs.db_records.declared.rows.DomainRecord.{DomainRecord}
use Rattle.depot_rows.specs.db_records.declared.table.TableId.TheVariants as tables
use Rattle.depot_rows.specs.db_records.Key.{key_cmp}
use Rattle.depot_rows.specs.db_records.Record.{key_of, table_of}
use Rattle.depot_rows.specs.table_store.Rows.{is_at, row_at, AllAbove, AllOfTable, IsRising}
use Rattle.depot_rows.proofs.Keys.{at-is, at-self, same-is, same-self}
use Rattle.named_files.specs.Listed.{paths_in}
use Rattle.depot_rows.specs.Rising.{Below, Rise}
use Rattle.named_files.proofs.Rising.{turned}
use Rattle.named_files.proofs.RowsListed.{Single, in_text, single_text}
use Rattle.named_files.proofs.Walking.{starts, text_cmp, text_self}
use Rattle.shelf_ops.specs.ShelfRows.{behind, is_of_shelf, shelf_file, shelf_files, shelf_text}
use Rattle.shelf_ops.proofs.Walking.{number_self, word}

both_ways : (a b : Bool) → (a ≡ true → b ≡ true) → (b ≡ true → a ≡ true) → a ≡ b
both_ways true b to from = sym (to refl)
both_ways false true to from = from refl
both_ways false false to from = refl

-- ---- texts behind a beginning

split : (name start : List ℕ) → begins_with name start ≡ true → name ≡ start ++ drop (length start) name
split name [] e = refl
split [] (c ∷ start) e = absurd (false≢true e)
split (x ∷ name) (c ∷ start) e = let h = starts x c start name e in λ i. sym h.0 i ∷ split name start h.1 i

begun : (start more : List ℕ) → begins_with (start ++ more) start ≡ true
begun [] [] = refl
begun [] (x ∷ more) = refl
begun (c ∷ start) more = λ i. (Decides-eqb c c).1 refl i && begun start more i

dropped : (start more : List ℕ) → drop (length start) (start ++ more) ≡ more
dropped [] more = refl
dropped (c ∷ start) more = dropped start more

cmp_behind : (start a b : List ℕ) → text_cmp (start ++ a) (start ++ b) ≡ text_cmp a b
cmp_behind [] a b = refl
cmp_behind (c ∷ start) a b = ap (λ o. ordering_then o (text_cmp (start ++ a) (start ++ b))) (number_self c) ∙ cmp_behind start a b

alone : (o : Ordering) → ordering_then o Equal ≡ Greater → o ≡ Greater
alone Less e = e
alone Equal e = e
alone Greater e = e

module _ (start : List ℕ) where
  abbrev pub file_key : List ℕ → Key
  file_key p = keys.Domain word (start ++ printed p)

  -- ---- the file of a row

  in_behind : (p name : List ℕ) → is_path p ≡ true → list_any (same p) (paths_in (behind start name)) ≡ same name (start ++ printed p)
  in_behind p name is = go (begins_with name start) refl
    where
      whole : List ℕ
      whole = start ++ printed p

      go : (b : Bool) → begins_with name start ≡ b
          → list_any (same p) (paths_in (if b then Some (drop (length start) name) else None)) ≡ same name whole
      go true e = in_text p (drop (length start) name) is ∙ both_ways (same (printed p) (drop (length start) name)) (same name whole)
          (λ k. ap (same name) (ap (λ x. start ++ x) (same-is (printed p) (drop (length start) name) k) ∙ sym (split name start e)) ∙ same-self name)
          (λ k. ap (same (printed p)) (ap (drop (length start)) (same-is name whole k) ∙ dropped start (printed p)) ∙ same-self (printed p))
      go false e = both_ways false (same name whole) (λ k. absurd (false≢true k))
          (λ k. sym e ∙ ap (λ x. begins_with x start) (same-is name whole k) ∙ begun start (printed p))

  in_domain : (p : List ℕ) (r : DomainRecord) → is_path p ≡ true → list_any (same p) (shelf_file start (records.Domain r)) ≡ is_at (file_key p) (records.Domain r)
  in_domain p r is = go (same r.kind word) refl
    where
      own : Key
      own = keys.Domain r.kind r.name

      go : (b : Bool) → same r.kind word ≡ b → list_any (same p) (paths_in (if b then behind start r.name else None)) ≡ is_at (file_key p) (records.Domain r)
      go true e = in_behind p r.name is ∙ both_ways (same r.name (start ++ printed p)) (is_at (file_key p) (records.Domain r))
          (λ k. at-self own (file_key p) (λ i. keys.Domain (same-is r.kind word e i) (same-is r.name (start ++ printed p) k i)))
          (λ k.
          let one : own ≡ file_key p = at-is own (file_key p) k in
          let name_is : r.name ≡ start ++ printed p = cc in
          ap (same r.name) (sym name_is) ∙ same-self r.name)
      go false e = both_ways false (is_at (file_key p) (records.Domain r)) (λ k. absurd (false≢true k))
          (λ k.
          let one : own ≡ file_key p = at-is own (file_key p) k in
          let kind_is : r.kind ≡ word = cc in
          sym e ∙ ap (λ x. same x word) kind_is ∙ same-self word)

  each : (row : Record) (p : List ℕ) → is_path p ≡ true → table_of row ≡ tables.Domain → list_any (same p) (shelf_file start row) ≡ is_at (file_key p) row
  each (records.Domain r) p is of = in_domain p r is
  each (records.Counter r) p is of = absurd cc
  each (records.Group r) p is of = absurd cc
  each (records.Protect r) p is of = absurd cc
  each (records.Have r) p is of = absurd cc
  each (records.Label r) p is of = absurd cc
  each (records.Integed r) p is of = absurd cc
  each (records.Resolve r) p is of = absurd cc
  each (records.Working r) p is of = absurd cc
  each (records.Change r) p is of = absurd cc
  each (records.Rev r) p is of = absurd cc

  in_order : (p q : List ℕ) → key_cmp (file_key q) (file_key p) ≡ Greater → path_cmp p q ≡ Less
  in_order p q e =
      turned p q (sym (cmp_behind start (printed q) (printed p)) ∙ alone (text_cmp (start ++ printed q) (start ++ printed p))
      ((λ i. ordering_then (sym (text_self word) i) (ordering_then (text_cmp (start ++ printed q) (start ++ printed p)) Equal)) ∙ e))

  -- ---- the files of rows

  single : (text : Option (List ℕ)) → Single (paths_in text)
  single None = inl refl
  single (Some text) = single_text text

  pub in_files : (p : List ℕ) → is_path p ≡ true → (rows : List Record) → AllOfTable tables.Domain rows
      → list_any (same p) (shelf_files start rows) ≡ is_some (row_at (file_key p) rows)
  in_files p is [] of = refl
  in_files p is (r ∷ rs) of =
      list_any-append (same p) (shelf_file start r) (shelf_files start rs)
      ∙ (λ i. each r p is of.0 i || in_files p is rs of.1 i) ∙ go (is_at (file_key p) r)
    where
      go : (b : Bool) → (b || is_some (row_at (file_key p) rs)) ≡ is_some (cond b (Some r) (row_at (file_key p) rs))
      go true = refl
      go false = refl

  -- the key of a row with a path
  key_is : (r : Record) (x : List ℕ) → is_path x ≡ true → table_of r ≡ tables.Domain → shelf_file start r ≡ x ∷ [] → key_of r ≡ file_key x
  key_is r x is of e =
      let here : list_any (same x) (shelf_file start r) ≡ true = ap (list_any (same x)) e ∙ ap (λ b. b || false) (same-self x) in
      at-is (key_of r) (file_key x) (sym (each r x is of) ∙ here)

  below_files : (x : List ℕ) (rs : List Record) → AllAbove (file_key x) rs → AllOfTable tables.Domain rs → Below x (shelf_files start rs)
  below_files x [] above of = tt
  below_files x (r ∷ rs) above of = go (single (shelf_text start r)) (below_files x rs above.1 of.1)
    where
      go : Single (shelf_file start r) → Below x (shelf_files start rs) → Below x (shelf_file start r ++ shelf_files start rs)
      go (inl none) more = subst (λ (ps : List (List ℕ)). Below x (ps ++ shelf_files start rs)) (sym none) more
      go (inr one) more =
          let is : key_of r ≡ file_key one.0 = key_is r one.0 one.1 of.0 one.2 in
          let less : path_cmp x one.0 ≡ Less = in_order x one.0 (ap (λ k. key_cmp k (file_key x)) (sym is) ∙ above.0) in
          let both : Below x (one.0 ∷ shelf_files start rs) = (less, more) in
          subst (λ (ps : List (List ℕ)). Below x (ps ++ shelf_files start rs)) (sym one.2) both

  pub files_rise : (rows : List Record) → IsRising rows → AllOfTable tables.Domain rows → Rise (shelf_files start rows)
  files_rise [] up of = tt
  files_rise (r ∷ rs) up of = go (single (shelf_text start r)) (files_rise rs up.1 of.1)
    where
      go : Single (shelf_file start r) → Rise (shelf_files start rs) → Rise (shelf_file start r ++ shelf_files start rs)
      go (inl none) more = subst (λ (ps : List (List ℕ)). Rise (ps ++ shelf_files start rs)) (sym none) more
      go (inr one) more =
          let is : key_of r ≡ file_key one.0 = key_is r one.0 one.1 of.0 one.2 in
          let below : Below one.0 (shelf_files start rs) = below_files one.0 rs (subst (λ (k : Key). AllAbove k rs) is up.0) of.1 in
          let both : Rise (one.0 ∷ shelf_files start rs) = (one.1, below, more) in
          subst (λ (ps : List (List ℕ)). Rise (ps ++ shelf_files start rs)) (sym one.2) both

  -- ---- those of the walk

  -- a row that isn't of such a file has none
  pub walked : (rows : List Record) → shelf_files start (filter (is_of_shelf start) rows) ≡ shelf_files start rows
  walked [] = refl
  walked (r ∷ rs) = go (shelf_text start r) refl (walked rs)
    where
      go : (o : Option (List ℕ)) → shelf_text start r ≡ o → shelf_files start (filter (is_of_shelf start) rs) ≡ shelf_files start rs
          → shelf_files start (if is_some o then r ∷ filter (is_of_shelf start) rs else filter (is_of_shelf start) rs) ≡ paths_in o ++ shelf_files start rs
      go None e more = more
      go (Some text) e more = λ i. paths_in (e i) ++ more i
