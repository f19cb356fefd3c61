-- The lines of the protections: one deed puts them all.
use Rattle.std.proofs.Common.{◌≡◌, ◌≤◌, ◌<◌, ◌+◌, ℕ, zero, suc, Bool, true, false, List, [], ◌∷◌, Option, Some, None, Result, Ok, Err, inl, inr, refl, sym, ap, subst, ◌∙◌, arith}
use Rattle.std.specs.Prelude.{option_and_then, slice_get, IsSome, IsTrue, is_ok, is_some}
use Rattle.depot_rows.specs.depot_path.Answers.{◌>>=◌, on_ok, on_err}
use Rattle.depot_rows.specs.db_records.Record.{key_of}
use Rattle.depot_rows.specs.db_records.declared.key.Key.{Key}
use Rattle.depot_rows.specs.db_records.declared.key.Key.TheVariants as keys
use Rattle.depot_rows.specs.db_records.declared.record.Record.{Record}
use Rattle.depot_rows.specs.db_records.declared.record.Record.TheVariants as records
use Rattle.depot_rows.specs.db_records.declared.rows.ProtectRecord.{ProtectRecord}
use Rattle.depot_rows.specs.protect_table.Line.{line_of, lines_from, in_line}
use Rattle.depot_rows.specs.protect_table.Words.{words_of}
use Rattle.depot_rows.specs.protect_table.declared.line.ProtectLine.{ProtectLine}
use Rattle.depot_rows.specs.protect_table.declared.fault.LineFault.{LineFault}
use Rattle.depot_rows.specs.protect_table.declared.fault.ProtectFault.{ProtectFault}
use Rattle.depot_rows.specs.depot_model.Deeds.{Deed, Guard}
use Rattle.depot_rows.specs.depot_model.Records.{record_of, protect_record}
use Rattle.depot_rows.specs.depot_model.Rules.{Rows, line_text, line_words}
use Rattle.depot_rows.specs.Effects.{line_in}
use Rattle.depot_rows.proofs.Entries.{In}
use Rattle.depot_rows.proofs.Lists.{guard_met}
use Rattle.depots_of_rows.specs.Telling.{Contents}
use Rattle.depots_of_rows.proofs.Given.{Given, only, row_keeps}
use Rattle.depots_of_rows.proofs.Side.{Side, Built}

-- lines that read, one behind the other
more_read : (n : ℕ) (text : List ℕ) (texts : List (List ℕ)) → is_ok (line_of text) ≡ true → is_ok (lines_from (n + 1) texts) ≡ true
    → is_ok (lines_from n (text ∷ texts)) ≡ true
more_read n text texts one rest = go (line_of text) (lines_from (n + 1) texts) one rest
  where
    go : (r : Result ProtectLine LineFault) (s : Result (List ProtectLine) ProtectFault) → is_ok r ≡ true → is_ok s ≡ true
        → is_ok (on_err (in_line n) r >>= (λ line. on_ok (λ lines. line ∷ lines) s)) ≡ true
    go (Ok line) (Ok lines) e f = refl
    go (Ok line) (Err fault) e f = absurd cc
    go (Err fault) s e f = absurd cc

-- the keys of lines, too
abbrev pub or_line : (Key → Bool) → Key → Bool
or_line test (keys.Protect n) = true
or_line test q = test q

nothing : {A : Type 0} (o : Option A) → (IsSome o → ⊥) → o ≡ None
nothing None h = refl
nothing (Some x) h = absurd (h refl)

module _ (rows : Rows) (contents : Contents) (g : Given rows contents) where
  abbrev line_at : ℕ → Option Record
  line_at n = rows (keys.Protect n)

  -- the lines behind the n-th
  record Behind (n : ℕ) : Type 0 where
    pub texts : List (List ℕ)
    pub each : (k m : ℕ) → m ≡ suc (n + k) → option_and_then (λ line. protect_record m (words_of line)) (slice_get texts k) ≡ line_at m
    pub read : (first : ℕ) → is_ok (lines_from first texts) ≡ true

  line_there : (n : ℕ) (r : Record) → line_at n ≡ Some r → (x : ProtectRecord) × (r ≡ records.Protect x)
  line_there n r e = go r (g.keyed (keys.Protect n) r e)
    where
      go : (r : Record) → key_of r ≡ keys.Protect n → (x : ProtectRecord) × (r ≡ records.Protect x)
      go (records.Protect x) k = (x, refl)
      go (records.Counter x) k = absurd cc
      go (records.Group x) k = absurd cc
      go (records.Domain x) k = absurd cc
      go (records.Have x) k = absurd cc
      go (records.Label x) k = absurd cc
      go (records.Integed x) k = absurd cc
      go (records.Resolve x) k = absurd cc
      go (records.Working x) k = absurd cc
      go (records.Change x) k = absurd cc
      go (records.Rev x) k = absurd cc

  module _ (n : ℕ) (x : ProtectRecord) (there : line_at n ≡ Some (records.Protect x)) where
    line_rule : (words_of (line_text x) ≡ line_words x) × IsTrue (is_ok (line_of (line_text x)))
    line_rule = row_keeps rows g.keep (keys.Protect n) (records.Protect x) there

    line_spelled : protect_record n (words_of (line_text x)) ≡ line_at n
    line_spelled =
        let k : keys.Protect x.line ≡ keys.Protect n = g.keyed (keys.Protect n) (records.Protect x) there in
        let number : x.line ≡ n = cc in
        ap (protect_record n) line_rule.0 ∙ ap (λ (m : ℕ). Some (records.Protect (record x { line = m }))) (sym number) ∙ sym there

  -- where a line is lacking there is none behind it
  none_behind : (n k : ℕ) → line_at (suc n) ≡ None → line_at (suc (n + k)) ≡ None
  none_behind n zero none = let e : suc (n + 0) ≡ suc n = omega arith in ap line_at e ∙ none
  none_behind n (suc k) none =
      let e : suc (n + suc k) ≡ suc (suc (n + k)) = omega arith in
      ap line_at e ∙ nothing (line_at (suc (suc (n + k)))) (λ there.
      let before : is_some (line_at (suc (n + k))) ≡ true = g.keep.lines_run (n + k) there in
      let one : is_some (line_at (suc (n + k))) ≡ false = ap is_some (none_behind n k none) in
      let two : true ≡ false = sym before ∙ one in
      cc)

  ended : (n : ℕ) → line_at (suc n) ≡ None → Behind n
  ended n none = record { texts = []; each = λ k m e. sym (ap line_at e ∙ none_behind n k none); read = λ first. refl }

  -- one more line in front of those behind it
  with_line : (n : ℕ) (x : ProtectRecord) → line_at (suc n) ≡ Some (records.Protect x) → Behind (suc n) → Behind n
  with_line n x there rest =
      record { texts = line_text x ∷ rest.texts; each = each; read = λ first. more_read first (line_text x) rest.texts (line_rule (suc n) x there).1 (rest.read (first + 1)) }
    where
      each : (k m : ℕ) → m ≡ suc (n + k) → option_and_then (λ line. protect_record m (words_of line)) (slice_get (line_text x ∷ rest.texts) k) ≡ line_at m
      each zero m e =
          let one : m ≡ suc n = omega (arith, e) in
          ap (λ (j : ℕ). protect_record j (words_of (line_text x))) one ∙ line_spelled (suc n) x there ∙ ap line_at (sym one)
      each (suc k) m e = let one : m ≡ suc (suc n + k) = omega (arith, e) in rest.each k m one

  behind : (fuel n : ℕ) → ((k : ℕ) → IsSome (line_at (suc (n + k))) → k < fuel) → Behind n
  behind zero n low = ended n (nothing (line_at (suc n)) (λ there.
      let e : suc n ≡ suc (n + 0) = omega arith in
      let less = low 0 (subst (λ (m : ℕ). IsSome (line_at m)) e there) in
      omega (arith, less)))
  behind (suc fuel) n low =
      go (line_at (suc n)) refl
      (behind fuel (suc n) (λ k there.
      let e : suc (suc n + k) ≡ suc (n + suc k) = omega arith in
      let less = low (suc k) (subst (λ (m : ℕ). IsSome (line_at m)) e there) in
      omega (arith, less)))
    where
      go : (o : Option Record) → line_at (suc n) ≡ o → Behind (suc n) → Behind n
      go None e rest = ended n e
      go (Some r) e rest = let x = line_there (suc n) r e in with_line n x.0 (e ∙ ap (λ (y : Record). Some y) x.1) rest

  -- ---- no line is above the numbers of keys

  abbrev line_number : Key → ℕ
  line_number key = elim key [
    | keys.Protect n ↦ n
    | _ ↦ 0
  ]

  abbrev lines_most : List Key → ℕ
  lines_most [] = 0
  lines_most (key ∷ ks) = line_number key + lines_most ks

  most_is : (ks : List Key) (n : ℕ) → In ks (keys.Protect n) → n ≤ lines_most ks
  most_is [] n h = absurd h
  most_is (key ∷ ks) n (inl e) = let number : line_number key ≡ n = ap line_number e in omega (arith, number)
  most_is (key ∷ ks) n (inr h) = let rest = most_is ks n h in omega (arith, rest)

  all_lines : (ks : List Key) → ((q : Key) → IsSome (rows q) → In ks q) → Behind 0
  all_lines ks listed = behind (lines_most ks) 0 (λ k there.
      let low = most_is ks (suc (0 + k)) (listed (keys.Protect (suc (0 + k))) there) in
      omega (arith, low))

  pub guard_all : (ks : List Key) → ((q : Key) → IsSome (rows q) → In ks q) → (test : Key → Bool) (d : List Deed) → Built rows contents test d
      → (e : List Deed) × Built rows contents (or_line test) e
  guard_all ks listed test d b = (Guard lines.texts ∷ d, record { rows_are = rows_are; side = side })
    where
      lines : Behind 0
      lines = all_lines ks listed

      line_is : (n : ℕ) → line_in lines.texts n ≡ line_at n
      line_is zero = sym g.lines
      line_is (suc n) = let e : suc n ≡ suc (0 + n) = omega arith in lines.each n (suc n) e

      rows_are : (q : Key) → record_of (Guard lines.texts ∷ d) q ≡ only (or_line test) rows q
      rows_are (keys.Protect n) = guard_met lines.texts d (keys.Protect n) ∙ line_is n
      rows_are (keys.Counter a) = b.rows_are (keys.Counter a)
      rows_are (keys.Group a c) = b.rows_are (keys.Group a c)
      rows_are (keys.Domain a c) = b.rows_are (keys.Domain a c)
      rows_are (keys.Have a c) = b.rows_are (keys.Have a c)
      rows_are (keys.Label a c) = b.rows_are (keys.Label a c)
      rows_are (keys.Integed a c e f h i j k) = b.rows_are (keys.Integed a c e f h i j k)
      rows_are (keys.Resolve a c e) = b.rows_are (keys.Resolve a c e)
      rows_are (keys.Working a c) = b.rows_are (keys.Working a c)
      rows_are (keys.Change n) = b.rows_are (keys.Change n)
      rows_are (keys.Rev a n) = b.rows_are (keys.Rev a n)

      side : Side contents (Guard lines.texts ∷ d)
      side =
          let s = b.side in
          record { agree = s.agree; apart = s.apart; stay = s.stay; lines = lines.read 1; forms = s.forms; paths = s.paths; whole = s.whole; these = s.these }
