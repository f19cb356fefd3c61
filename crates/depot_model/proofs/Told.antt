-- Depots with the same rows, and protections tables with one more line.
use Rattle.std.proofs.Common.{◌≡◌, ℕ, ◌+◌, ◌≤◌, List, [], ◌∷◌, ◌++◌, length, Option, Some, None, false, refl, sym, ap, subst, ◌∙◌, Result, Ok, Err}
use Rattle.std.specs.Prelude.{option_map, unwrap_or}
use Rattle.std.proofs.lemmas.List.{append-nil}
use Rattle.db_records.specs.depot_path.Answers.{◌>>=◌, on_ok, on_err}
use Rattle.protect_table.specs.Line.{table_of, line_of, lines_from, in_line}
use Rattle.protect_table.specs.Rights.{names, may, may_any}
use Rattle.protect_table.specs.declared.fault.LineFault.{LineFault}
use Rattle.protect_table.specs.declared.fault.ProtectFault.{ProtectFault}
use Rattle.protect_table.specs.declared.line.ProtectLine.{ProtectLine}
use Rattle.protect_table.proofs.LawLemmas.{other_at, other_somewhere}
use Rattle.db_records.specs.declared.key.Key.TheVariants as keys
use Rattle.db_records.specs.declared.record.Record.{Record}
use Rattle.db_records.specs.declared.record.Record.TheVariants.{Counter}
use Rattle.depot_model.specs.declared.request.Caller.{Caller}
use Rattle.depot_model.specs.Asking.{who_of, may_at, may_anywhere, read_lines, lines_or_none}
use Rattle.depot_model.specs.Deeds.{Deed, Guard}
use Rattle.depot_model.specs.Records.{SameRows}
use Rattle.depot_model.specs.Step.{tells}
use Rattle.depot_model.specs.Steps.Counters.{counter_show, counter_of, counter_row}

abbrev value_in : Option Record → Option ℕ
value_in (Some (Counter r)) = Some r.value
value_in _ = None

abbrev pub counter_record : List ℕ → Option ℕ → Option Record
counter_record name value = option_map (λ v. Counter (record { name = name; value = v })) value

reads_value : (name : List ℕ) (value : Option ℕ) → value_in (counter_record name value) ≡ value
reads_value name None = refl
reads_value name (Some v) = refl

pub same_counters : (d e : List Deed) (name : List ℕ) → SameRows d e → counter_show d name ≡ counter_show e name
same_counters d e name same =
    ap (λ (value : Option ℕ). tells (counter_row name (unwrap_or value 0) ∷ []))
    (sym (reads_value name (counter_of d name)) ∙ ap value_in (same (keys.Counter name)) ∙ reads_value name (counter_of e name))

abbrev Read : Type 0
Read = Result (List ProtectLine) ProtectFault

-- one more line at the end of a table that reads
one_more : (n : ℕ) (lines : List (List ℕ)) (line : List ℕ) (read : List ProtectLine) (other : ProtectLine) → lines_from n lines ≡ Ok read →
    line_of line ≡ Ok other
    → lines_from n (lines ++ line ∷ []) ≡ Ok (read ++ other ∷ [])
one_more n [] line [] other e is = ap (λ (r : Result ProtectLine LineFault). on_err (in_line n) r >>= (λ l. on_ok (λ lines. l ∷ lines) (Ok []))) is
one_more n [] line (r ∷ read) other e is = absurd cc
one_more n (text ∷ lines) line read other e is =
    first (on_err (in_line n) (line_of text)) (lines_from (n + 1) lines) read e (λ rest k. one_more (n + 1) lines line rest other k is)
  where
    first : (answer : Result ProtectLine ProtectFault) (before : Read) (read : List ProtectLine) →
        (answer >>= (λ l. on_ok (λ lines. l ∷ lines) before)) ≡ Ok read
        → ((rest : List ProtectLine) → before ≡ Ok rest → lines_from (n + 1) (lines ++ line ∷ []) ≡ Ok (rest ++ other ∷ []))
        → (answer >>= (λ l. on_ok (λ lines. l ∷ lines) (lines_from (n + 1) (lines ++ line ∷ [])))) ≡ Ok (read ++ other ∷ [])
    first (Err fault) before read e more = absurd cc
    first (Ok l) (Err fault) read e more = absurd cc
    first (Ok l) (Ok rest) read e more =
        let is : l ∷ rest ≡ read = cc in
        ap (on_ok (λ all. l ∷ all)) (more rest refl) ∙ ap (λ (all : List ProtectLine). Ok (all ++ other ∷ [])) is

read_as : (texts : List (List ℕ)) (read : List ProtectLine) → table_of texts ≡ Ok read → read_lines texts ≡ read
read_as texts read e = ap lines_or_none e

module _ (d : List Deed) (lines : List (List ℕ)) (line : List ℕ) (read : List ProtectLine) (other : ProtectLine) (caller : Caller) (e : table_of lines ≡ Ok read) (is : line_of line ≡ Ok other)
    (apart : names (who_of d caller) other ≡ false) (some : 1 ≤ length read) where
  enough : 1 ≤ length (read ++ [])
  enough = let P : List ProtectLine → Type 0 = λ ls. 1 ≤ length ls in subst P (sym (append-nil read)) some

  longer : read_lines (lines ++ line ∷ []) ≡ read ++ other ∷ []
  longer = read_as (lines ++ line ∷ []) (read ++ other ∷ []) (one_more 1 lines line read other e is)

  pub later_at : (path : List ℕ) (need : ℕ) → may_at (Guard (lines ++ line ∷ []) ∷ d) caller path need ≡ may_at (Guard lines ∷ d) caller path need
  later_at path need =
      let may_by = λ (ls : List ProtectLine). may ls (who_of d caller) path need in
      ap may_by longer ∙ other_at read [] other (who_of d caller) path need apart enough ∙ ap may_by (append-nil read)
      ∙ ap may_by (sym (read_as lines read e))

  pub later_somewhere : (need : ℕ) → may_anywhere (Guard (lines ++ line ∷ []) ∷ d) caller need ≡ may_anywhere (Guard lines ∷ d) caller need
  later_somewhere need =
      let may_by = λ (ls : List ProtectLine). may_any ls (who_of d caller) need in
      ap may_by longer ∙ other_somewhere read [] other (who_of d caller) need apart enough ∙ ap may_by (append-nil read)
      ∙ ap may_by (sym (read_as lines read e))
