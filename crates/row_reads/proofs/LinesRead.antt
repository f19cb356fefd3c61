-- The rows of the protections spell the lines of the depot.
use Rattle.std.proofs.Common.{◌≡◌, ℕ, zero, suc, ◌+◌, ◌<◌, Bool, true, false, IsTrue, List, [], ◌∷◌, length, Option, Some, None, Result, Ok, Err, refl, sym, ap, ◌∙◌, subst, arith}
use Rattle.std.specs.Prelude.{IfSome, is_ok, map, slice_get, option_and_then, nat_lt, if◌then◌else◌}
use Rattle.std.specs.List.{join_with_byte}
use Rattle.std.specs.Cmp.{nat_cmp_is}
use Rattle.std.specs.declared.cmp.Ordering.TheVariants.{Less, Equal, Greater}
use Rattle.std.proofs.lemmas.Option.{slice_get_within}
use Rattle.std.proofs.lemmas.Bool.Decides.{nat_tests}
use Rattle.depot_rows.specs.depot_path.Answers.{◌>>=◌, on_ok, on_err}
use Rattle.depot_rows.specs.protect_table.Line.{required, read_word, name_of, last_word, pattern_in, make_line, line_of_words, line_of, in_line, lines_from}
use Rattle.depot_rows.specs.protect_table.Mode.{mode_of, grantee_of}
use Rattle.depot_rows.specs.protect_table.Words.{words_of}
use Rattle.depot_rows.specs.protect_table.declared.fault.LineFault.{LineFault}
use Rattle.depot_rows.specs.protect_table.declared.fault.LineFault.TheVariants.{BadMode, BadGrantee, BadPath}
use Rattle.depot_rows.specs.protect_table.declared.fault.ProtectFault.{ProtectFault}
use Rattle.depot_rows.specs.protect_table.declared.line.ProtectLine.{ProtectLine}
use Rattle.depot_rows.specs.db_records.Key.{key_cmp, key_table}
use Rattle.depot_rows.specs.db_records.declared.key.Key.{Key}
use Rattle.depot_rows.specs.db_records.declared.key.Key.TheVariants as keys
use Rattle.depot_rows.specs.db_records.declared.record.Record.{Record}
use Rattle.depot_rows.specs.db_records.declared.record.Record.TheVariants.{Protect}
use Rattle.depot_rows.specs.db_records.declared.rows.ProtectRecord.{ProtectRecord}
use Rattle.depot_rows.specs.db_records.declared.table.TableId.{TableId}
use Rattle.depot_rows.specs.db_records.declared.table.TableId.TheVariants as tables
use Rattle.depot_rows.specs.table_store.Protections.{texts_in}
use Rattle.depot_rows.specs.table_store.Rows.{AllAbove, AllOfTable, IsRising, TableRows, row_at}
use Rattle.depot_rows.specs.depot_model.Asking.{read_lines, lines_or_none, protects}
use Rattle.depot_rows.specs.depot_model.Deeds.{Deed}
use Rattle.depot_rows.specs.depot_model.Latest.{guard_lines}
use Rattle.depot_rows.specs.depot_model.Records.{record_of, protect_record}
use Rattle.depot_rows.specs.depot_model.Rules.{Rows, IsRow, IsSound, line_text}
use Rattle.depot_rows.specs.depot_model.Steps.Protections.{kept_line}
use Rattle.depot_rows.specs.Standing.{unplaced_at}
use Rattle.row_reads.proofs.Alike.{rows_alike, above_all, here, behind, unplaced_row}

-- ---- a line that can be read has five words

chained : {A B C D W E F : Type 0} (a : Result A E) (b : Result B E) (c : Result C E) (d : Result D E) (w : Result W E)
    (f : A → B → C → D → W → Result F E) (x : F) → (a >>= (λ p. b >>= (λ q. c >>= (λ r. d >>= (λ s. w >>= f p q r s))))) ≡ Ok x → (v : W) × (w ≡ Ok v)
chained (Ok p) (Ok q) (Ok r) (Ok s) (Ok v) f x e = (v, refl)
chained (Ok p) (Ok q) (Ok r) (Ok s) (Err y) f x e = absurd cc
chained (Ok p) (Ok q) (Ok r) (Err y) w f x e = absurd cc
chained (Ok p) (Ok q) (Err y) d w f x e = absurd cc
chained (Ok p) (Err y) c d w f x e = absurd cc
chained (Err y) b c d w f x e = absurd cc

last_of_five : (words : List (List ℕ)) (more : Bool) (fifth : Option (List ℕ)) (v : List ℕ) → nat_lt 5 (length words) ≡ more → slice_get words 4 ≡ fifth
    → (if more then Err BadPath else required BadPath fifth) ≡ Ok v → length words ≡ 5
last_of_five words true fifth v e g is = absurd cc
last_of_five words false None v e g is = absurd cc
last_of_five words false (Some x) v e g is = let within = slice_get_within words 4 x g in grind (arith, nat_tests)

five_words : (words : List (List ℕ)) (line : ProtectLine) → line_of_words words ≡ Ok line → length words ≡ 5
five_words words line e =
    let h = chained (read_word mode_of BadMode words 0) (read_word grantee_of BadGrantee words 1) (read_word name_of BadGrantee words 2)
    (read_word name_of BadGrantee words 3) (last_word words)
    (λ mode grantee name host word. pattern_in word >>= (λ path. Ok (make_line mode grantee name host word path))) line e in
    last_of_five words (nat_lt 5 (length words)) (slice_get words 4) h.0 refl refl h.1

-- each line can be read
abbrev AllRead : List (List ℕ) → Type 0
AllRead [] = Unit {0}
AllRead (line ∷ lines) = ((read : ProtectLine) × (line_of line ≡ Ok read)) × AllRead lines

first_read : (n : ℕ) (line : Result ProtectLine LineFault) (rest : Result (List ProtectLine) ProtectFault)
    → IsTrue (is_ok (on_err (in_line n) line >>= (λ l. on_ok (λ lines. l ∷ lines) rest))) → ((read : ProtectLine) × (line ≡ Ok read)) × IsTrue (is_ok rest)
first_read n (Ok l) (Ok rest) e = ((l, refl), refl)
first_read n (Ok l) (Err fault) e = absurd cc
first_read n (Err fault) rest e = absurd cc

all_read : (n : ℕ) (lines : List (List ℕ)) → IsTrue (is_ok (lines_from n lines)) → AllRead lines
all_read n [] e = tt
all_read n (line ∷ lines) e =
    let h = first_read n (line_of line) (lines_from (n + 1) lines) e in
    (h.0, all_read (n + 1) lines h.1)

-- ---- the row of a line

-- a row has the words of a line, and they are the words of the text that it makes
record IsSpelled (n : ℕ) (line : List ℕ) : Type 0 where
  row : ProtectRecord
  is : protect_record n (words_of line) ≡ Some (Protect row)
  numbered : row.line ≡ n
  again : words_of (line_text row) ≡ words_of line

abbrev AllSpelled : ℕ → List (List ℕ) → Type 0
AllSpelled n [] = Unit {0}
AllSpelled n (line ∷ lines) = IsSpelled n line × AllSpelled (suc n) lines

spelled : (rows : Rows) (n : ℕ) (line : List ℕ) (words : List (List ℕ)) → words_of line ≡ words → length words ≡ 5
    → IfSome (protect_record n (words_of line)) (IsRow rows) → IsSpelled n line
spelled rows n line [] is five h = absurd (omega arith)
spelled rows n line (a ∷ []) is five h = absurd (omega arith)
spelled rows n line (a ∷ b ∷ []) is five h = absurd (omega arith)
spelled rows n line (a ∷ b ∷ c ∷ []) is five h = absurd (omega arith)
spelled rows n line (a ∷ b ∷ c ∷ d ∷ []) is five h = absurd (omega arith)
spelled rows n line (a ∷ b ∷ c ∷ d ∷ e ∷ f ∷ more) is five h = absurd (omega arith)
spelled rows n line (a ∷ b ∷ c ∷ d ∷ e ∷ []) is five h =
    let P : List (List ℕ) → Type 0 = λ words. IfSome (protect_record n words) (IsRow rows) in
    let kept : IsRow rows (Protect (record { line = n; mode = a; kind = b; name = c; host = d; path = e })) = subst P is h in
    record {
      row = record { line = n; mode = a; kind = b; name = c; host = d; path = e };
      is = ap (protect_record n) is;
      numbered = refl;
      again = kept.0 ∙ sym is;
    }

all_spelled : (rows : Rows) (n : ℕ) (lines : List (List ℕ)) → AllRead lines
    → ((i j : ℕ) (line : List ℕ) → j ≡ i + n → slice_get lines i ≡ Some line → IfSome (protect_record (suc j) (words_of line)) (IsRow rows))
    → AllSpelled (suc n) lines
all_spelled rows n [] read kept = tt
all_spelled rows n (line ∷ lines) read kept = (
  spelled rows (suc n) line (words_of line) refl (five_words (words_of line) read.0.0 read.0.1) (kept 0 n line (omega arith) refl),
  all_spelled rows (suc n) lines read.1 (λ i j l e h. kept (suc i) j l (omega arith) h),
)

-- the rows of lines, of which the first has a number
abbrev rows_from_lines : (n : ℕ) (lines : List (List ℕ)) → AllSpelled n lines → List Record
rows_from_lines n [] all = []
rows_from_lines n (line ∷ lines) all = Protect all.0.row ∷ rows_from_lines (suc n) lines all.1

above_number : (a b : ℕ) → b < a → key_cmp (keys.Protect a) (keys.Protect b) ≡ Greater
above_number a b h = rw (sym (nat_cmp_is a b Greater h)) refl

below_number : (a b : ℕ) → a < b → key_cmp (keys.Protect a) (keys.Protect b) ≡ Less
below_number a b h = rw (sym (nat_cmp_is a b Less h)) refl

same_number : (a b : ℕ) → a ≡ b → key_cmp (keys.Protect a) (keys.Protect b) ≡ Equal
same_number a b h = rw (sym (nat_cmp_is a b Equal h)) refl

all_above : (j n : ℕ) (lines : List (List ℕ)) (all : AllSpelled n lines) → j < n → AllAbove (keys.Protect j) (rows_from_lines n lines all)
all_above j n [] all h = tt
all_above j n (line ∷ lines) all h =
    let number = all.0.numbered in
    (above_number all.0.row.line j (omega arith), all_above j (suc n) lines all.1 (omega arith))

lines_rise : (n : ℕ) (lines : List (List ℕ)) (all : AllSpelled n lines) → IsRising (rows_from_lines n lines all)
lines_rise n [] all = tt
lines_rise n (line ∷ lines) all =
    let number = all.0.numbered in
    (all_above all.0.row.line (suc n) lines all.1 (omega arith), lines_rise (suc n) lines all.1)

are_lines : (n : ℕ) (lines : List (List ℕ)) (all : AllSpelled n lines) → AllOfTable tables.Protect (rows_from_lines n lines all)
are_lines n [] all = tt
are_lines n (line ∷ lines) all = (refl, are_lines (suc n) lines all.1)

line_at : (i j n : ℕ) (lines : List (List ℕ)) (all : AllSpelled n lines) → j ≡ i + n
    → row_at (keys.Protect j) (rows_from_lines n lines all) ≡ option_and_then (λ line. protect_record j (words_of line)) (slice_get lines i)
line_at i j n [] all e = refl
line_at zero j n (line ∷ lines) all e =
    let number = all.0.numbered in
    let same : n ≡ j = omega arith in
    let P : ℕ → Type 0 = λ k. protect_record k (words_of line) ≡ Some (Protect all.0.row) in
    here (keys.Protect j) (Protect all.0.row) (rows_from_lines (suc n) lines all.1) (same_number all.0.row.line j (omega arith)) ∙ sym (subst P same all.0.is)
line_at (suc i) j n (line ∷ lines) all e =
    let number = all.0.numbered in
    behind (keys.Protect j) (Protect all.0.row) (rows_from_lines (suc n) lines all.1) Less (below_number all.0.row.line j (omega arith)) refl
    ∙ line_at i j (suc n) lines all.1 (omega arith)

-- ---- they spell the same lines

read_alike : (m n : ℕ) (lines : List (List ℕ)) (all : AllSpelled n lines) → lines_from m (texts_in (rows_from_lines n lines all)) ≡ lines_from m lines
read_alike m n [] all = refl
read_alike m n (line ∷ lines) all =
    let Read = Result (List ProtectLine) ProtectFault in
    let joined : List (List ℕ) → Read → Read = λ words rest. on_err (in_line m) (line_of_words words) >>= (λ l. on_ok (λ ls. l ∷ ls) rest) in
    ap (λ words. joined words (lines_from (m + 1) (texts_in (rows_from_lines (suc n) lines all.1)))) all.0.again
    ∙ ap (joined (words_of line)) (read_alike (m + 1) (suc n) lines all.1)

-- ---- they have the words that are kept

words_kept : (n : ℕ) (words : List (List ℕ)) (row : ProtectRecord) → protect_record n words ≡ Some (Protect row) → line_text row ≡ join_with_byte 0x20 words
words_kept n [] row e = absurd cc
words_kept n (a ∷ []) row e = absurd cc
words_kept n (a ∷ b ∷ []) row e = absurd cc
words_kept n (a ∷ b ∷ c ∷ []) row e = absurd cc
words_kept n (a ∷ b ∷ c ∷ d ∷ []) row e = absurd cc
words_kept n (a ∷ b ∷ c ∷ d ∷ w ∷ v ∷ more) row e = absurd cc
words_kept n (a ∷ b ∷ c ∷ d ∷ w ∷ []) row e =
    let is : Protect (record { line = n; mode = a; kind = b; name = c; host = d; path = w }) ≡ Protect row = cc in
    let same : record { line = n; mode = a; kind = b; name = c; host = d; path = w } ≡ row = cc in
    ap line_text (sym same)

kept_alike : (n : ℕ) (lines : List (List ℕ)) (all : AllSpelled n lines) → texts_in (rows_from_lines n lines all) ≡ map kept_line lines
kept_alike n [] all = refl
kept_alike n (line ∷ lines) all =
    let first = words_kept n (words_of line) all.0.row all.0.is in
    let rest = kept_alike (suc n) lines all.1 in
    λ i. first i ∷ rest i

module _ (d : List Deed) (sound : IsSound d) where
  line_kept : (i : ℕ) (line : List ℕ) → slice_get (guard_lines d) i ≡ Some line → IfSome (protect_record (suc i) (words_of line)) (IsRow (record_of d))
  line_kept i line e =
      let P : Option (List ℕ) → Type 0 = λ found. IfSome (option_and_then (λ l. protect_record (suc i) (words_of l)) found) (IsRow (record_of d)) in
      subst P e (sound.rules.each (keys.Protect (suc i)))

  all : AllSpelled 1 (guard_lines d)
  all = all_spelled (record_of d) 0 (guard_lines d) (all_read 1 (guard_lines d) sound.lines_read)
      (λ i j line e h. let P : ℕ → Type 0 = λ k. IfSome (protect_record (suc k) (words_of line)) (IsRow (record_of d)) in let same : i ≡ j = omega arith in subst P same (line_kept i line h))

  -- the rows of the lines are those of the depot
  abbrev own_rows : List Record
  own_rows = rows_from_lines 1 (guard_lines d) all

  own_at : (key : Key) → key_table key ≡ tables.Protect → row_at key own_rows ≡ record_of d key
  own_at (keys.Protect zero) of = above_all (keys.Protect 0) own_rows (all_above 0 1 (guard_lines d) all (omega arith))
  own_at (keys.Protect (suc n)) of = line_at n (suc n) 1 (guard_lines d) all (omega arith)
  own_at (keys.Counter name) of = absurd cc
  own_at (keys.Group a b) of = absurd cc
  own_at (keys.Domain a b) of = absurd cc
  own_at (keys.Have a b) of = absurd cc
  own_at (keys.Label a b) of = absurd cc
  own_at (keys.Integed a b x y u v how change) of = absurd cc
  own_at (keys.Resolve a b x) of = absurd cc
  own_at (keys.Working a b) of = absurd cc
  own_at (keys.Change n) of = absurd cc
  own_at (keys.Rev a n) of = absurd cc

  own_rise : IsRising own_rows
  own_rise = lines_rise 1 (guard_lines d) all

  own_lines : AllOfTable tables.Protect own_rows
  own_lines = are_lines 1 (guard_lines d) all

  pub rows_read : (rows : List Record) → IsRising rows → AllOfTable tables.Protect rows
      → ((key : Key) → key_table key ≡ tables.Protect → row_at key rows ≡ record_of d key) → read_lines (texts_in rows) ≡ protects d
  rows_read rows up of has =
      let alike = rows_alike tables.Protect rows own_rows up own_rise of own_lines (λ key k. has key k ∙ sym (own_at key k)) in
      ap (λ rs. read_lines (texts_in rs)) alike ∙ ap lines_or_none (read_alike 1 1 (guard_lines d) all)

  pub rows_kept : (rows : List Record) → IsRising rows → AllOfTable tables.Protect rows
      → ((key : Key) → key_table key ≡ tables.Protect → row_at key rows ≡ record_of d key) → texts_in rows ≡ map kept_line (guard_lines d)
  rows_kept rows up of has =
      let alike = rows_alike tables.Protect rows own_rows up own_rise of own_lines (λ key k. has key k ∙ sym (own_at key k)) in
      ap (λ rs. texts_in rs) alike ∙ kept_alike 1 (guard_lines d) all

-- depots with the same rows have the same protections
pub same_protects : (d e : List Deed) → IsSound d → IsSound e → ((key : Key) → record_of d key ≡ record_of e key) → protects d ≡ protects e
same_protects d e left right same_rows =
    let rows = own_rows d left in
    sym (rows_read d left rows (own_rise d left) (own_lines d left) (own_at d left))
    ∙ rows_read e right rows (own_rise d left) (own_lines d left) (λ key k. own_at d left key k ∙ same_rows key)

pub lines_spelled : (version : TableRows) (rows : List Record) → version.rows ≡ rows → version.table ≡ tables.Protect → AllOfTable version.table version.rows
    → IsRising version.rows → (d : List Deed) → IsSound d → ((key : Key) → key_table key ≡ tables.Protect → unplaced_at rows key ≡ record_of d key)
    → read_lines (texts_in rows) ≡ protects d
lines_spelled version rows are is of up d sound has =
    let P : TableId → Type 0 = λ t. AllOfTable t rows in
    let Q : List Record → Type 0 = λ rs. AllOfTable version.table rs in
    let ours : AllOfTable tables.Protect rows = subst P is (subst Q are of) in
    rows_read d sound rows (subst IsRising are up) ours (λ key k. sym (unplaced_row tables.Protect (λ e. cc) rows ours key) ∙ has key k)

pub lines_kept : (version : TableRows) (rows : List Record) → version.rows ≡ rows → version.table ≡ tables.Protect → AllOfTable version.table version.rows
    → IsRising version.rows → (d : List Deed) → IsSound d → ((key : Key) → key_table key ≡ tables.Protect → unplaced_at rows key ≡ record_of d key)
    → texts_in rows ≡ map kept_line (guard_lines d)
lines_kept version rows are is of up d sound has =
    let P : TableId → Type 0 = λ t. AllOfTable t rows in
    let Q : List Record → Type 0 = λ rs. AllOfTable version.table rs in
    let ours : AllOfTable tables.Protect rows = subst P is (subst Q are of) in
    rows_kept d sound rows (subst IsRising are up) ours (λ key k. sym (unplaced_row tables.Protect (λ e. cc) rows ours key) ∙ has key k)
