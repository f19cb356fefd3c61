-- No change has too many rows of fixes exactly where it has not too many fixes.
use Rattle.std.proofs.Common.{◌≡◌, ◌≤◌, ◌+◌, ◌/◌, ◌%◌, ℕ, zero, suc, Bool, true, false, cond, List, [], ◌∷◌, ◌++◌, length, Option, Some, None, inl, inr, refl, sym, ap, ◌∙◌, subst, arith}
use Rattle.std.specs.Prelude.{◌&&◌, ◌||◌, ◌==◌, not, nat_le, nat_lt, IsTrue, IfSome, codes, decimal, filter, if◌then◌else◌}
use Rattle.std.specs.Fmt.{digits, digits_onto, digit_glyph}
use Rattle.std.specs.List.{list_any, list_all}
use Rattle.std.specs.Ordering.{is_gt}
use Rattle.std.proofs.lemmas.Bool.{true≢false, and_parts, and_from}
use Rattle.std.proofs.lemmas.Bool.Decides.{Decides-eqb, nat_tests}
use Rattle.std.proofs.lemmas.List.{append_cancel_right}
use Rattle.depot_rows.specs.depot_path.Bytes.{same, is_digit}
use Rattle.depot_rows.specs.depot_path.Digits.{number_of, is_digits}
use Rattle.depot_rows.specs.spec_form.declared.shape.Shape.TheVariants.{Fix as FixShape}
use Rattle.depot_rows.specs.db_records.declared.key.Key.{Key}
use Rattle.depot_rows.specs.db_records.declared.key.Key.TheVariants as keys
use Rattle.depot_rows.specs.db_records.declared.record.Record.{Record}
use Rattle.depot_rows.specs.db_records.declared.record.Record.TheVariants as records
use Rattle.depot_rows.specs.db_records.declared.rows.DomainRecord.{DomainRecord}
use Rattle.depot_rows.specs.db_records.declared.table.TableId.{TableId}
use Rattle.depot_rows.specs.db_records.declared.table.TableId.TheVariants as tables
use Rattle.depot_rows.specs.db_records.Record.{key_of}
use Rattle.depot_rows.proofs.db_records.Order.{keys_equal}
use Rattle.depot_rows.specs.table_store.Rows.{is_at, row_at, AllAbove, IsRising}
use Rattle.depot_rows.specs.depot_model.Numerals.{is_numeral}
use Rattle.depot_rows.specs.depot_model.Fixes.{fix_name}
use Rattle.depot_rows.specs.depot_model.Rules.{Rows, IsRow, IsForm, IsFix, has_fix, is_on_fix, are_distinct, value_in, number_in, top_in}
use Rattle.row_rules.specs.Stored.{seen}
use Rattle.row_rules.specs.Fixing.{is_on_text, is_fix_of, fix_count, HaveFewFixes}
use Rattle.row_rules.proofs.Deciding.{same_decides, le_true, true_le}
use Rattle.row_rules.proofs.Found.{at_key, at_own, found_key, found_behind}
use Rattle.row_rules.proofs.Joined.{rows_in}

-- ---- names of fixes

is_plain : ℕ → Bool
is_plain b = not (b == 0x20)

plain_digit : (b : ℕ) → 48 ≤ b → is_plain b ≡ true
unfolding is_plain
plain_digit b low = grind (arith, nat_tests)

glyph_plain : (d : ℕ) → is_plain (digit_glyph false d) ≡ true
glyph_plain d = plain_digit (digit_glyph false d) (go (nat_lt d 10))
  where
    go : (b : Bool) → 48 ≤ cond b (48 + d) (87 + d)
    go true = omega arith
    go false = omega arith

plain_onto : (k n : ℕ) (acc : List ℕ) → list_all is_plain acc ≡ true → list_all is_plain (digits_onto k 10 false n acc) ≡ true
plain_onto zero n acc all = all
plain_onto (suc k) n acc all =
    let more : list_all is_plain (digit_glyph false (n % 10) ∷ acc) ≡ true = and_from (is_plain (digit_glyph false (n % 10))) (list_all is_plain acc) (glyph_plain (n % 10)) all in
    go (n / 10 == 0) more (plain_onto k (n / 10) (digit_glyph false (n % 10) ∷ acc) more)
  where
    go : (b : Bool) → list_all is_plain (digit_glyph false (n % 10) ∷ acc) ≡ true → list_all is_plain (digits_onto k 10 false (n / 10) (digit_glyph false (n % 10) ∷ acc)) ≡ true
        → list_all is_plain (cond b (digit_glyph false (n % 10) ∷ acc) (digits_onto k 10 false (n / 10) (digit_glyph false (n % 10) ∷ acc))) ≡ true
    go true more rest = more
    go false more rest = rest

plain_decimal : (n : ℕ) → list_all is_plain (decimal n) ≡ true
unfolding digits
plain_decimal n = plain_onto 64 n [] refl

plain_numeral : (text : List ℕ) → is_numeral text ≡ true → list_all is_plain text ≡ true
plain_numeral text e =
    let digits_are : is_digits text ≡ true = (and_parts (is_digits text) (same (decimal (number_of text)) text) e).0 in
    go text (and_parts (nat_le 1 (length text)) (list_all is_digit text) digits_are).1
  where
    go : (ds : List ℕ) → list_all is_digit ds ≡ true → list_all is_plain ds ≡ true
    go [] all = refl
    go (d ∷ ds) all =
        and_from (is_plain d) (list_all is_plain ds) (plain_digit d (le_true 48 d (and_parts (nat_le 48 d) (nat_le d 57) (and_parts (is_digit d) (list_all is_digit ds) all).0).0))
        (go ds (and_parts (is_digit d) (list_all is_digit ds) all).1)

no_space : (b x : List ℕ) → list_all is_plain (b ++ 0x20 ∷ x) ≡ true → ⊥
unfolding is_plain
no_space [] x e = absurd cc
no_space (c ∷ b) x e = no_space b x (and_parts (is_plain c) (list_all is_plain (b ++ 0x20 ∷ x)) e).1

-- the last word
last_word : (a b x y : List ℕ) → list_all is_plain x ≡ true → list_all is_plain y ≡ true → a ++ 0x20 ∷ x ≡ b ++ 0x20 ∷ y → x ≡ y
last_word [] [] x y p q e = cc
last_word [] (c ∷ b) x y p q e =
    let rest : x ≡ b ++ 0x20 ∷ y = cc in
    absurd (no_space b y (ap (list_all is_plain) (sym rest) ∙ p))
last_word (c ∷ a) [] x y p q e =
    let rest : a ++ 0x20 ∷ x ≡ y = cc in
    absurd (no_space a x (ap (list_all is_plain) rest ∙ q))
last_word (c ∷ a) (d ∷ b) x y p q e = let rest : a ++ 0x20 ∷ x ≡ b ++ 0x20 ∷ y = cc in last_word a b x y p q rest

-- ---- counting rows by jobs

fix_key : List ℕ → ℕ → Key
fix_key job n = keys.Domain (codes "fix") (fix_name job n)

one_job : (i j : List ℕ) (n : ℕ) → fix_key i n ≡ fix_key j n → i ≡ j
unfolding fix_key
one_job i j n e = let names : i ++ 0x20 ∷ decimal n ≡ j ++ 0x20 ∷ decimal n = cc in append_cancel_right i j (0x20 ∷ decimal n) names

module _ (n m : ℕ) where
  elsewhere : Record → List ℕ → Bool
  elsewhere row job = not (is_at (fix_key job n) row)

  found_fix : List Record → List ℕ → Bool
  found_fix rows job = elim (row_at (fix_key job n) rows) as (λ _. Bool) [ None ↦ false | Some row ↦ is_fix_of m row ]

  -- no job of these is another
  none_same : (row : Record) (job : List ℕ) (jobs : List (List ℕ)) → is_at (fix_key job n) row ≡ true → list_any (same job) jobs ≡ false
      → filter (elsewhere row) jobs ≡ jobs
  unfolding elsewhere
  none_same row job [] here apart = refl
  none_same row job (other ∷ jobs) here apart =
      go (is_at (fix_key other n) row) refl (same job other) refl apart (λ f. none_same row job jobs here f)
    where
      go : (b : Bool) → is_at (fix_key other n) row ≡ b → (s : Bool) → same job other ≡ s → (s || list_any (same job) jobs) ≡ false
          → (list_any (same job) jobs ≡ false → filter (elsewhere row) jobs ≡ jobs) → cond (not b) (other ∷ filter (elsewhere row) jobs) (filter (elsewhere row) jobs) ≡ other ∷ jobs
      go b e true f h rest = absurd cc
      go true e false f h rest =
          let keys_same : fix_key job n ≡ fix_key other n = sym (at_key (fix_key job n) row here) ∙ at_key (fix_key other n) row e in
          absurd (true≢false (sym ((same_decides job other).1 (one_job job other n keys_same)) ∙ f))
      go false e false f h rest = ap (λ l. other ∷ l) (rest h)

  fewer : (row : Record) (rows : List Record) (jobs : List (List ℕ)) → are_distinct jobs ≡ true → list_all (found_fix (row ∷ rows)) jobs ≡ true
      → length jobs ≤ (if is_fix_of m row then 1 else 0) + length (filter (elsewhere row) jobs)
  unfolding elsewhere found_fix
  fewer row rows [] apart all = omega arith
  fewer row rows (job ∷ jobs) apart all =
      go (is_at (fix_key job n) row) refl (and_parts (found_fix (row ∷ rows) job) (list_all (found_fix (row ∷ rows)) jobs) all).0
      (fewer row rows jobs (and_parts (not (list_any (same job) jobs)) (are_distinct jobs) apart).1 (and_parts (found_fix (row ∷ rows) job) (list_all (found_fix (row ∷ rows)) jobs) all).1)
    where
      not_any : (b : Bool) → not b ≡ true → b ≡ false
      not_any true e = absurd cc
      not_any false e = refl

      go : (b : Bool) → is_at (fix_key job n) row ≡ b
          → elim (cond b (Some row) (row_at (fix_key job n) rows)) as (λ _. Bool) [ None ↦ false | Some r ↦ is_fix_of m r ] ≡ true
          → length jobs ≤ (if is_fix_of m row then 1 else 0) + length (filter (elsewhere row) jobs)
          → suc (length jobs) ≤ (if is_fix_of m row then 1 else 0) + length (cond (not b) (job ∷ filter (elsewhere row) jobs) (filter (elsewhere row) jobs))
      go false e f rest = omega arith
      go true e f rest =
          let one : ◌≡◌ {A = ℕ} (if is_fix_of m row then 1 else 0) 1 = ap (λ (t : Bool). cond {A = ℕ} t 1 0) f in
          let all_stay = none_same row job jobs e (not_any (list_any (same job) jobs) (and_parts (not (list_any (same job) jobs)) (are_distinct jobs) apart).0) in
          omega (arith, one, ap (λ (l : List (List ℕ)). length l) all_stay)

  -- what is kept stays distinct, and is found behind
  any_kept : (test : List ℕ → Bool) (job : List ℕ) (jobs : List (List ℕ)) → list_any (same job) jobs ≡ false → list_any (same job) (filter test jobs) ≡ false
  any_kept test job [] e = refl
  any_kept test job (other ∷ jobs) e = go (same job other) refl e (test other) (λ f. any_kept test job jobs f)
    where
      go : (s : Bool) → same job other ≡ s → (s || list_any (same job) jobs) ≡ false → (b : Bool)
          → (list_any (same job) jobs ≡ false → list_any (same job) (filter test jobs) ≡ false) → list_any (same job) (cond b (other ∷ filter test jobs) (filter test jobs)) ≡ false
      go true s h b rest = absurd cc
      go false s h true rest = (ap (λ (a : Bool). a || list_any (same job) (filter test jobs)) s) ∙ rest h
      go false s h false rest = rest h

  distinct_kept : (test : List ℕ → Bool) (jobs : List (List ℕ)) → are_distinct jobs ≡ true → are_distinct (filter test jobs) ≡ true
  distinct_kept test [] e = refl
  distinct_kept test (job ∷ jobs) e =
      go (test job) (any_kept test job jobs (not_any (list_any (same job) jobs) (and_parts (not (list_any (same job) jobs)) (are_distinct jobs) e).0))
      (distinct_kept test jobs (and_parts (not (list_any (same job) jobs)) (are_distinct jobs) e).1)
    where
      not_any : (b : Bool) → not b ≡ true → b ≡ false
      not_any true f = absurd cc
      not_any false f = refl

      go : (b : Bool) → list_any (same job) (filter test jobs) ≡ false → are_distinct (filter test jobs) ≡ true → are_distinct (cond b (job ∷ filter test jobs) (filter test jobs)) ≡ true
      go true apart rest = λ i. not (apart i) && rest i
      go false apart rest = rest

  found_kept : (row : Record) (rows : List Record) (jobs : List (List ℕ)) → list_all (found_fix (row ∷ rows)) jobs ≡ true → list_all (found_fix rows) (filter (elsewhere row) jobs) ≡ true
  unfolding elsewhere found_fix
  found_kept row rows [] all = refl
  found_kept row rows (job ∷ jobs) all =
      go (is_at (fix_key job n) row) (and_parts (found_fix (row ∷ rows) job) (list_all (found_fix (row ∷ rows)) jobs) all).0
      (found_kept row rows jobs (and_parts (found_fix (row ∷ rows) job) (list_all (found_fix (row ∷ rows)) jobs) all).1)
    where
      go : (b : Bool) → elim (cond b (Some row) (row_at (fix_key job n) rows)) as (λ _. Bool) [ None ↦ false | Some r ↦ is_fix_of m r ] ≡ true
          → list_all (found_fix rows) (filter (elsewhere row) jobs) ≡ true
          → list_all (found_fix rows) (cond (not b) (job ∷ filter (elsewhere row) jobs) (filter (elsewhere row) jobs)) ≡ true
      go true f rest = rest
      go false f rest = λ i. f i && rest i

  jobs_counted : (rows : List Record) (jobs : List (List ℕ)) → are_distinct jobs ≡ true → list_all (found_fix rows) jobs ≡ true → length jobs ≤ fix_count m rows
  unfolding found_fix
  jobs_counted [] [] apart all = omega arith
  jobs_counted [] (job ∷ jobs) apart all = absurd cc
  jobs_counted (row ∷ rows) jobs apart all =
      let rest = jobs_counted rows (filter (elsewhere row) jobs) (distinct_kept (elsewhere row) jobs apart) (found_kept row rows jobs all) in
      let here = fewer row rows jobs apart all in
      omega arith

-- ---- rows of fixes

fix_form : (rows : Rows) (r : DomainRecord) → IsForm rows r.kind r.name r.form → r.kind ≡ codes "fix" → IsFix rows r.name r.form
fix_form rows r form e = go form
  where
    other : (word : List ℕ) → same word (codes "fix") ≡ false → r.kind ≡ word → ⊥
    other word apart f = true≢false (sym ((same_decides word (codes "fix")).1 (sym f ∙ e)) ∙ apart)

    go : IsForm rows r.kind r.name r.form → IsFix rows r.name r.form
    go (inl h) = absurd (other (codes "client") refl h.0)
    go (inr (inl h)) = absurd (other (codes "label") refl h.0)
    go (inr (inr (inl h))) = absurd (other (codes "shelf") refl h.0)
    go (inr (inr (inr (inl h)))) = absurd (other (codes "job") refl h.0)
    go (inr (inr (inr (inr h)))) = h.1

numeral_is : (text : List ℕ) → is_numeral text ≡ true → decimal (number_of text) ≡ text
numeral_is text e = (same_decides (decimal (number_of text)) text).0 (and_parts (is_digits text) (same (decimal (number_of text)) text) e).1

module _ (lists : TableId → List Record) (up : (table : TableId) → IsRising (lists table))
    (each : (key : Key) → IfSome (rows_in lists key) (IsRow (rows_in lists))) (top_fits : top_in (rows_in lists) ≤ 2147483647) where
  abbrev forms : List Record
  forms = lists tables.Domain

  form_row : (r : DomainRecord) → row_at (keys.Domain r.kind r.name) forms ≡ Some (records.Domain r) → IsForm (rows_in lists) r.kind r.name r.form
  form_row r e =
      let P : Option Record → Type 0 = λ o. IfSome o (IsRow (rows_in lists)) in
      let here : P (Some (records.Domain r)) = subst P (ap seen e) (each (keys.Domain r.kind r.name)) in
      here

  -- from few rows to few fixes
  one_fix : (n : ℕ) (job : List ℕ) → has_fix (rows_in lists) n job ≡ true → found_fix n (number_of (decimal n)) forms job ≡ true
  unfolding found_fix fix_key
  one_fix n job has = go (row_at (keys.Domain (codes "fix") (fix_name job n)) forms) refl has
    where
      of_form : (r : DomainRecord) → keys.Domain r.kind r.name ≡ keys.Domain (codes "fix") (fix_name job n)
          → row_at (keys.Domain (codes "fix") (fix_name job n)) forms ≡ Some (records.Domain r)
          → same (value_in FixShape (codes "State") r.form) (codes "on") ≡ true → is_fix_of (number_of (decimal n)) (records.Domain r) ≡ true
      of_form r k e on =
          let kind : r.kind ≡ codes "fix" = cc in
          let name : r.name ≡ fix_name job n = cc in
          let own : row_at (keys.Domain r.kind r.name) forms ≡ Some (records.Domain r) = ap (λ q. row_at q forms) k ∙ e in
          let fix = fix_form (rows_in lists) r (form_row r own) kind in
          let change : List ℕ = value_in FixShape (codes "Change") r.form in
          let numeral = (and_parts (is_numeral change) (nat_le (number_of change) (top_in (rows_in lists))) fix.change).0 in
          let low = le_true (number_of change) (top_in (rows_in lists)) (and_parts (is_numeral change) (nat_le (number_of change) (top_in (rows_in lists))) fix.change).1 in
          let is : change ≡ decimal n =
          last_word (value_in FixShape (codes "Job") r.form) job change (decimal n) (plain_numeral change numeral) (plain_decimal n) (sym fix.named ∙ name) in
          let room : number_of change ≤ 4294967295 = omega arith in
          let number : number_of change ≡ number_of (decimal n) = ap number_of is in
          let on_is : is_on_text r.form ≡ true =
          and_from (same (value_in FixShape (codes "State") r.form) (codes "on")) (nat_le (number_of change) 4294967295) on (true_le (number_of change) 4294967295 room) in
          let counted : Option ℕ → Bool = λ o. elim o as (λ _. Bool) [ None ↦ false | Some x ↦ x == number_of (decimal n) ] in
          ap (λ (b : Bool). counted (if b then (if is_on_text r.form then Some (number_of change) else None) else None)) ((same_decides r.kind (codes "fix")).1 kind)
          ∙ ap (λ (b : Bool). counted (if b then Some (number_of change) else None)) on_is
          ∙ (Decides-eqb (number_of change) (number_of (decimal n))).1 number

      of_row : (row : Record) → key_of row ≡ keys.Domain (codes "fix") (fix_name job n) → row_at (keys.Domain (codes "fix") (fix_name job n)) forms ≡ Some row
          → is_on_fix (seen (Some row)) ≡ true → is_fix_of (number_of (decimal n)) row ≡ true
      of_row (records.Domain r) k e on = of_form r k e on
      of_row (records.Counter r) k e on = absurd cc
      of_row (records.Group r) k e on = absurd cc
      of_row (records.Protect r) k e on = absurd cc
      of_row (records.Have r) k e on = absurd cc
      of_row (records.Label r) k e on = absurd cc
      of_row (records.Integed r) k e on = absurd cc
      of_row (records.Resolve r) k e on = absurd cc
      of_row (records.Working r) k e on = absurd cc
      of_row (records.Change r) k e on = absurd cc
      of_row (records.Rev r) k e on = absurd cc

      go : (o : Option Record) → row_at (keys.Domain (codes "fix") (fix_name job n)) forms ≡ o → is_on_fix (seen o) ≡ true
          → elim o as (λ _. Bool) [ None ↦ false | Some row ↦ is_fix_of (number_of (decimal n)) row ] ≡ true
      go None e on = absurd cc
      go (Some row) e on = of_row row (found_key (keys.Domain (codes "fix") (fix_name job n)) forms row e) e on

  all_found : (n : ℕ) (jobs : List (List ℕ)) → list_all (has_fix (rows_in lists) n) jobs ≡ true → list_all (found_fix n (number_of (decimal n)) forms) jobs ≡ true
  all_found n [] all = refl
  all_found n (job ∷ jobs) all =
      let here = one_fix n job (and_parts (has_fix (rows_in lists) n job) (list_all (has_fix (rows_in lists) n) jobs) all).0 in
      let rest = all_found n jobs (and_parts (has_fix (rows_in lists) n job) (list_all (has_fix (rows_in lists) n) jobs) all).1 in
      λ i. here i && rest i

  pub fixes_fit : HaveFewFixes forms → (n : ℕ) (jobs : List (List ℕ)) → IsTrue (are_distinct jobs) → IsTrue (list_all (has_fix (rows_in lists) n) jobs) → length jobs ≤ 100
  fixes_fit few n jobs apart all =
      let counted = jobs_counted n (number_of (decimal n)) forms jobs apart (all_found n jobs all) in
      let most = few (number_of (decimal n)) in
      omega arith

  -- from few fixes to few rows
  job_in : Record → List ℕ
  job_in (records.Domain r) = value_in FixShape (codes "Job") r.form
  job_in _ = []

  module _ (n : ℕ) where
    jobs_of : List Record → List (List ℕ)
    jobs_of [] = []
    jobs_of (row ∷ rows) = cond (is_fix_of n row) (job_in row ∷ jobs_of rows) (jobs_of rows)

    count_is : (rows : List Record) → length (jobs_of rows) ≡ fix_count n rows
    unfolding jobs_of
    count_is [] = refl
    count_is (row ∷ rows) = go (is_fix_of n row) (count_is rows)
      where
        go : (b : Bool) → length (jobs_of rows) ≡ fix_count n rows → length (cond b (job_in row ∷ jobs_of rows) (jobs_of rows)) ≡ (if b then 1 else 0) + fix_count n rows
        go true e = omega arith
        go false e = omega arith

    abbrev IsFixRow : Record → Type 0
    IsFixRow row = (key_of row ≡ fix_key (job_in row) n) × (has_fix (rows_in lists) n (job_in row) ≡ true)

    fix_row : (row : Record) → row_at (key_of row) forms ≡ Some row → is_fix_of n row ≡ true → IsFixRow row
    unfolding job_in fix_key
    fix_row (records.Domain r) e is = go (same r.kind (codes "fix")) refl (is_on_text r.form) refl is
      where
        go : (a : Bool) → same r.kind (codes "fix") ≡ a → (b : Bool) → is_on_text r.form ≡ b
            → elim (if a then (if b then Some (number_in FixShape (codes "Change") r.form) else None) else None) as (λ _. Bool) [ None ↦ false | Some m ↦ m == n ] ≡ true
            → IsFixRow (records.Domain r)
        go false h b f g = absurd cc
        go true h false f g = absurd cc
        go true h true f g =
            let change : List ℕ = value_in FixShape (codes "Change") r.form in
            let job : List ℕ = value_in FixShape (codes "Job") r.form in
            let kind : r.kind ≡ codes "fix" = (same_decides r.kind (codes "fix")).0 h in
            let on = (and_parts (same (value_in FixShape (codes "State") r.form) (codes "on")) (nat_le (number_of change) 4294967295) f).0 in
            let fix = fix_form (rows_in lists) r (form_row r e) kind in
            let numeral = (and_parts (is_numeral change) (nat_le (number_of change) (top_in (rows_in lists))) fix.change).0 in
            let number : number_of change ≡ n = (Decides-eqb (number_of change) n).0 g in
            let digits_are : change ≡ decimal n = sym (numeral_is change numeral) ∙ ap decimal number in
            let name : r.name ≡ fix_name job n = fix.named ∙ ap (λ (t : List ℕ). job ++ 0x20 ∷ t) digits_are in
            let key : keys.Domain r.kind r.name ≡ keys.Domain (codes "fix") (fix_name job n) = λ i. keys.Domain (kind i) (name i) in
            let here : row_at (keys.Domain (codes "fix") (fix_name job n)) forms ≡ Some (records.Domain r) = ap (λ q. row_at q forms) (sym key) ∙ e in
            (key, ap (λ (o : Option Record). is_on_fix (seen o)) here ∙ on)
    fix_row (records.Counter r) e is = absurd cc
    fix_row (records.Group r) e is = absurd cc
    fix_row (records.Protect r) e is = absurd cc
    fix_row (records.Have r) e is = absurd cc
    fix_row (records.Label r) e is = absurd cc
    fix_row (records.Integed r) e is = absurd cc
    fix_row (records.Resolve r) e is = absurd cc
    fix_row (records.Working r) e is = absurd cc
    fix_row (records.Change r) e is = absurd cc
    fix_row (records.Rev r) e is = absurd cc

    abbrev AreWhole : List Record → Type 0
    AreWhole rows = (r : Record) → row_at (key_of r) rows ≡ Some r → row_at (key_of r) forms ≡ Some r

    behind_whole : (row : Record) (rows : List Record) → AllAbove (key_of row) rows → AreWhole (row ∷ rows) → AreWhole rows
    behind_whole row rows above whole = λ r e. whole r (found_behind (key_of r) row r rows above e)

    head_whole : (row : Record) (rows : List Record) → AreWhole (row ∷ rows) → row_at (key_of row) forms ≡ Some row
    head_whole row rows whole = whole row (ap (λ b. cond b (Some row) (row_at (key_of row) rows)) (at_own row))

    not_again : (job : List ℕ) (first : Record) (rows : List Record) → key_of first ≡ fix_key job n → AllAbove (key_of first) rows → IsRising rows → AreWhole rows
        → list_any (same job) (jobs_of rows) ≡ false
    unfolding jobs_of
    not_again job first [] key above rises whole = refl
    not_again job first (row ∷ rows) key above rises whole =
        go (is_fix_of n row) refl (not_again job first rows key above.1 rises.1 (behind_whole row rows rises.0 whole))
      where
        differs : is_fix_of n row ≡ true → same job (job_in row) ≡ false
        differs is = pick (same job (job_in row)) refl
          where
            pick : (s : Bool) → same job (job_in row) ≡ s → s ≡ false
            pick false e = refl
            pick true e =
                let keys_same : key_of row ≡ key_of first =
                (fix_row row (head_whole row rows whole) is).0 ∙ ap (λ (j : List ℕ). fix_key j n) (sym ((same_decides job (job_in row)).0 e)) ∙ sym key in
                absurd (true≢false (ap is_gt (sym above.0 ∙ (keys_equal (key_of row) (key_of first)).1 keys_same)))

        go : (b : Bool) → is_fix_of n row ≡ b → list_any (same job) (jobs_of rows) ≡ false
            → list_any (same job) (cond b (job_in row ∷ jobs_of rows) (jobs_of rows)) ≡ false
        go false e rest = rest
        go true e rest = ap (λ (s : Bool). s || list_any (same job) (jobs_of rows)) (differs e) ∙ rest

    jobs_distinct : (rows : List Record) → IsRising rows → AreWhole rows → are_distinct (jobs_of rows) ≡ true
    unfolding jobs_of
    jobs_distinct [] rises whole = refl
    jobs_distinct (row ∷ rows) rises whole = go (is_fix_of n row) refl (jobs_distinct rows rises.1 (behind_whole row rows rises.0 whole))
      where
        go : (b : Bool) → is_fix_of n row ≡ b → are_distinct (jobs_of rows) ≡ true → are_distinct (cond b (job_in row ∷ jobs_of rows) (jobs_of rows)) ≡ true
        go false e rest = rest
        go true e rest =
            let apart = not_again (job_in row) row rows (fix_row row (head_whole row rows whole) e).0 rises.0 rises.1 (behind_whole row rows rises.0 whole) in
            λ i. not (apart i) && rest i

    jobs_fix : (rows : List Record) → IsRising rows → AreWhole rows → list_all (has_fix (rows_in lists) n) (jobs_of rows) ≡ true
    unfolding jobs_of
    jobs_fix [] rises whole = refl
    jobs_fix (row ∷ rows) rises whole = go (is_fix_of n row) refl (jobs_fix rows rises.1 (behind_whole row rows rises.0 whole))
      where
        go : (b : Bool) → is_fix_of n row ≡ b → list_all (has_fix (rows_in lists) n) (jobs_of rows) ≡ true
            → list_all (has_fix (rows_in lists) n) (cond b (job_in row ∷ jobs_of rows) (jobs_of rows)) ≡ true
        go false e rest = rest
        go true e rest =
            let here = (fix_row row (head_whole row rows whole) e).1 in
            λ i. here i && rest i

  pub few_rows : ((n : ℕ) (jobs : List (List ℕ)) → IsTrue (are_distinct jobs) → IsTrue (list_all (has_fix (rows_in lists) n) jobs) → length jobs ≤ 100) → HaveFewFixes forms
  few_rows few = λ n.
      let most = few n (jobs_of n forms) (jobs_distinct n forms (up tables.Domain) (λ r e. e)) (jobs_fix n forms (up tables.Domain) (λ r e. e)) in
      let count = count_is n forms in
      omega arith
