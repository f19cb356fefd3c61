-- The lines of the protections, as sound depots with the same rows show them.
use Rattle.std.proofs.Common.{◌≡◌, ℕ, zero, suc, ◌+◌, Bool, true, false, IsTrue, List, [], ◌∷◌, length, map, Option, Some, None, Result, Ok, Err, refl, sym, ap, ◌∙◌, arith}
use Rattle.std.specs.Prelude.{is_ok, slice_get, option_and_then, nat_lt, if◌then◌else◌}
use Rattle.std.specs.List.{enumerate_from, join_with_byte}
use Rattle.std.proofs.lemmas.Option.{slice_get_within}
use Rattle.std.proofs.lemmas.Bool.Decides.{nat_tests}
use Rattle.depot_rows.specs.depot_path.Answers.{◌>>=◌, on_ok, on_err}
use Rattle.depot_rows.specs.protect_table.Line.{required, read_word, name_of, last_word, pattern_in, make_line, line_of_words, line_of, in_line, lines_from}
use Rattle.depot_rows.specs.protect_table.Mode.{mode_of, grantee_of}
use Rattle.depot_rows.specs.protect_table.Words.{words_of}
use Rattle.depot_rows.specs.protect_table.declared.fault.LineFault.{LineFault}
use Rattle.depot_rows.specs.protect_table.declared.fault.LineFault.TheVariants.{BadMode, BadGrantee, BadPath}
use Rattle.depot_rows.specs.protect_table.declared.fault.ProtectFault.{ProtectFault}
use Rattle.depot_rows.specs.protect_table.declared.line.ProtectLine.{ProtectLine}
use Rattle.depot_rows.specs.db_records.declared.key.Key.TheVariants as keys
use Rattle.depot_rows.specs.db_records.declared.record.Record.{Record}
use Rattle.depot_rows.specs.db_records.declared.record.Record.TheVariants as records
use Rattle.depot_rows.specs.depot_model.Deeds.{Deed}
use Rattle.depot_rows.specs.depot_model.Latest.{guard_lines}
use Rattle.depot_rows.specs.depot_model.Records.{record_of, protect_record}
use Rattle.depot_rows.specs.depot_model.Rows.{row}
use Rattle.depot_rows.specs.depot_model.Rules.{IsSound}
use Rattle.depot_rows.specs.depot_model.Step.{tells}
use Rattle.depot_rows.specs.depot_model.Steps.Protections.{kept_line, numbered, protect_show}
use Rattle.depots_alike.proofs.Revisions.{one_by_one}
use Rattle.depots_alike.proofs.Twins.{Twins}

-- ---- a line that can be read has five words (as in row_reads)

chained : {A B C D W E F : Type 0} (a : Result A E) (b : Result B E) (c : Result C E) (d : Result D E) (w : Result W E)
    (f : A → B → C → D → W → Result F E) (x : F) → (a >>= (λ p. b >>= (λ q. c >>= (λ r. d >>= (λ s. w >>= f p q r s))))) ≡ Ok x → (v : W) × (w ≡ Ok v)
chained (Ok p) (Ok q) (Ok r) (Ok s) (Ok v) f x e = (v, refl)
chained (Ok p) (Ok q) (Ok r) (Ok s) (Err y) f x e = absurd cc
chained (Ok p) (Ok q) (Ok r) (Err y) w f x e = absurd cc
chained (Ok p) (Ok q) (Err y) d w f x e = absurd cc
chained (Ok p) (Err y) c d w f x e = absurd cc
chained (Err y) b c d w f x e = absurd cc

last_of_five : (words : List (List ℕ)) (more : Bool) (fifth : Option (List ℕ)) (v : List ℕ) → nat_lt 5 (length words) ≡ more → slice_get words 4 ≡ fifth
    → (if more then Err BadPath else required BadPath fifth) ≡ Ok v → length words ≡ 5
last_of_five words true fifth v e g is = absurd cc
last_of_five words false None v e g is = absurd cc
last_of_five words false (Some x) v e g is = let within = slice_get_within words 4 x g in grind (arith, nat_tests)

five_words : (words : List (List ℕ)) (line : ProtectLine) → line_of_words words ≡ Ok line → length words ≡ 5
five_words words line e =
    let h = chained (read_word mode_of BadMode words 0) (read_word grantee_of BadGrantee words 1) (read_word name_of BadGrantee words 2)
    (read_word name_of BadGrantee words 3) (last_word words)
    (λ mode grantee name host word. pattern_in word >>= (λ path. Ok (make_line mode grantee name host word path))) line e in
    last_of_five words (nat_lt 5 (length words)) (slice_get words 4) h.0 refl refl h.1

-- each line can be read
abbrev AllRead : List (List ℕ) → Type 0
AllRead [] = Unit {0}
AllRead (line ∷ lines) = ((read : ProtectLine) × (line_of line ≡ Ok read)) × AllRead lines

first_read : (n : ℕ) (line : Result ProtectLine LineFault) (rest : Result (List ProtectLine) ProtectFault)
    → IsTrue (is_ok (on_err (in_line n) line >>= (λ l. on_ok (λ lines. l ∷ lines) rest))) → ((read : ProtectLine) × (line ≡ Ok read)) × IsTrue (is_ok rest)
first_read n (Ok l) (Ok rest) e = ((l, refl), refl)
first_read n (Ok l) (Err fault) e = absurd cc
first_read n (Err fault) rest e = absurd cc

all_read : (n : ℕ) (lines : List (List ℕ)) → IsTrue (is_ok (lines_from n lines)) → AllRead lines
all_read n [] e = tt
all_read n (line ∷ lines) e =
    let h = first_read n (line_of line) (lines_from (n + 1) lines) e in
    (h.0, all_read (n + 1) lines h.1)

-- ---- a line as it is shown, by its row

abbrev line_in : Option Record → Option (List ℕ)
line_in (Some (records.Protect r)) = Some (join_with_byte 0x20 (r.mode ∷ r.kind ∷ r.name ∷ r.host ∷ r.path ∷ []))
line_in _ = None

of_five : (n : ℕ) (words : List (List ℕ)) → length words ≡ 5 → line_in (protect_record n words) ≡ Some (join_with_byte 0x20 words)
of_five n [] five = absurd (omega arith)
of_five n (a ∷ []) five = absurd (omega arith)
of_five n (a ∷ b ∷ []) five = absurd (omega arith)
of_five n (a ∷ b ∷ c ∷ []) five = absurd (omega arith)
of_five n (a ∷ b ∷ c ∷ d ∷ []) five = absurd (omega arith)
of_five n (a ∷ b ∷ c ∷ d ∷ e ∷ []) five = refl
of_five n (a ∷ b ∷ c ∷ d ∷ e ∷ f ∷ more) five = absurd (omega arith)

line_at : (n : ℕ) (lines : List (List ℕ)) → AllRead lines → (k : ℕ)
    → line_in (option_and_then (λ line. protect_record n (words_of line)) (slice_get lines k)) ≡ slice_get (map kept_line lines) k
line_at n [] read k = refl
line_at n (line ∷ lines) read zero = of_five n (words_of line) (five_words (words_of line) read.0.0 read.0.1)
line_at n (line ∷ lines) read (suc k) = line_at n lines read.1 k

shown_at : (d : List Deed) → IsSound d → (k : ℕ) → line_in (record_of d (keys.Protect (suc k))) ≡ slice_get (map kept_line (guard_lines d)) k
shown_at d sound k = line_at (suc k) (guard_lines d) (all_read 1 (guard_lines d) sound.lines_read) k

pub protect_show_same : (d e : List Deed) → Twins d e → protect_show d ≡ protect_show e
protect_show_same d e twins = ap (λ lines. tells (row (map numbered (enumerate_from 0 lines)) ∷ []))
    (one_by_one (map kept_line (guard_lines d)) (map kept_line (guard_lines e))
    (λ k. sym (shown_at d twins.left k) ∙ ap line_in (twins.rows (keys.Protect (suc k))) ∙ shown_at e twins.right k))
