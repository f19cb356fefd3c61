-- What the part of a line of each kind says.
use Rattle.std.proofs.Common.{◌≡◌, ℕ, ◌+◌, ◌-◌, ◌<◌, ◌≤◌, Bool, false, eqb, List, [], ◌∷◌, ◌++◌, length, Option, Some, Result, Ok, Err, sym, ap, ◌∙◌, arith, length-append, append_assoc}
use Rattle.std.specs.Prelude.{is_some}
use Rattle.std.specs.Option.{option_to_list}
use Rattle.std.proofs.lemmas.List.{append-nil}
use Rattle.wire_text.specs.Parts.{past, IsFree}
use Rattle.wire_text.specs.LineKind.{kind_of}
use Rattle.wire_text.specs.Intake.{Taken, Moves, Stops}
use Rattle.wire_text.specs.Script.{Point, Part, block_of, with_block, part_of, part_by_line, whole_line, first_part, rest_of, with_front, ends_with, fault_at, number_after}
use Rattle.wire_text.specs.Reading.{Ends, PartCase, point_at, stopped_of, end_between}
use Rattle.wire_text.specs.declared.intake.Stop.{Stop}
use Rattle.wire_text.specs.declared.entry.Entry.{Entry}
use Rattle.wire_text.specs.declared.part.PartRead.TheVariants.{Read}
use Rattle.wire_text.specs.declared.fault.ScriptFaultKind.{ScriptFaultKind}
use Rattle.wire_text.specs.declared.fault.ScriptFaultKind.TheVariants.{LongLine, BadData, Cut}
use Rattle.wire_text.specs.declared.line_kind.LineKind.{LineKind}
use Rattle.wire_text.proofs.Separators.{past_line}
use Rattle.wire_text.proofs.Takings.{moves_none}
use Rattle.wire_text.proofs.Says.{long_line, line_there, line_cut, block_there, block_bad, block_cut, entries_cut, IsPlaced, long_placed, bad_placed, says_part, says_bad, goes_on, ends_by, stopped}

pub kind_is : (client line : List ℕ) (input : Option (List ℕ)) (waits : Bool) (kind k : LineKind) → waits ≡ is_some input → kind ≡ kind_of client waits line → kind ≡ k → kind_of client (is_some input) line ≡ k
kind_is client line input waits kind k e f is = ap (λ (w : Bool). kind_of client w line) (sym e) ∙ (sym f ∙ is)

module _ (client : List ℕ) (start number : ℕ) (input : Option (List ℕ)) (line : List ℕ) (free : IsFree 10 line) (short : length line ≤ 8192) (kind : LineKind) (is : kind_of client (is_some input) line ≡ kind) where
  p : Point
  p = point_at client start number input

  part_here : (y : List ℕ) → first_part p ((line ++ 10 ∷ []) ++ y) ≡ part_of p line kind y
  unfolding p
  part_here y =
      ap (first_part p) (append_assoc line (10 ∷ []) y)
      ∙ (ap (λ (r : Result (List ℕ) ScriptFaultKind). part_by_line p r (past 10 (line ++ 10 ∷ y))) (line_there line y free short)
      ∙ (ap (part_of p line (kind_of client (is_some input) line)) (past_line 10 line y free)
      ∙ ap (λ (k : LineKind). part_of p line k y) is))

  module _ (l : Option (List ℕ)) (before after : ℕ) (s : Taken) (at : s.place ≡ start + (length line + 1)) (most : s.place + length s.held ≤ 67108864) where
    -- a line without a block
    pub line_goes : (part : Part) → ((y : List ℕ) → part_of (point_at client start number input) line kind y ≡ Ok part) → part.size ≡ length line + 1
        → PartCase (line ++ 10 ∷ []) l l before after s s (point_at client start number input) part.input (Read part.entry)
    unfolding p
    line_goes part says size =
        let long = length-append line (10 ∷ []) in (
          omega (arith, at),
          omega (arith, most),
          goes_on (line ++ 10 ∷ []) l l s s [] p (point_at client s.place (number_after number part.entry) part.input) (option_to_list part.entry) (moves_none l s most)
              (λ more.
              ap (λ (x : List ℕ). rest_of p (x ++ more)) (append-nil (line ++ 10 ∷ []))
              ∙ (says_part p (line ++ 10 ∷ []) (omega (arith, at, most, long)) part (λ y. part_here y ∙ says y) (omega (arith, size, long)) (omega (arith, long)) more
              ∙ ap (λ (n : ℕ). with_front (option_to_list part.entry) (rest_of (point_at client n (number_after number part.entry) part.input) more)) (omega (arith, at, size)))),
        )

    -- a line that ends the script
    pub line_ends : (what : ScriptFaultKind) → IsPlaced what → ((y : List ℕ) → part_of (point_at client start number input) line kind y ≡ Err what)
        → Ends (line ++ 10 ∷ []) l s.held (point_at client start number input) (Some (fault_at what start))
    unfolding p
    line_ends what placed says =
        let long = length-append line (10 ∷ []) in
        ends_by (line ++ 10 ∷ []) l l s s [] p (Some (fault_at what start)) (moves_none l s most)
        (λ more.
        ap (λ (x : List ℕ). rest_of p (x ++ more)) (append-nil (line ++ 10 ∷ []))
        ∙ says_bad p (line ++ 10 ∷ []) (omega (arith, at, most, long)) what placed (λ y. part_here y ∙ says y) (omega (arith, long)) more)

  module _ (l0 l1 : Option (List ℕ)) (before after : ℕ) (s t : Taken) (at : s.place ≡ start + (length line + 1)) (n : ℕ) (entry : List ℕ → Option Entry) (next : List ℕ → Option (List ℕ))
      (says : (y : List ℕ) → part_of (point_at client start number input) line kind y ≡ with_block (length line) n entry next (block_of n y)) where
    behind_line : (a b y : List ℕ) → ((line ++ 10 ∷ []) ++ (a ++ b)) ++ y ≡ (line ++ 10 ∷ []) ++ (a ++ (b ++ y))
    behind_line a b y = append_assoc (line ++ 10 ∷ []) (a ++ b) y ∙ ap (λ (x : List ℕ). (line ++ 10 ∷ []) ++ x) (append_assoc a b y)

    -- a line with its block
    pub block_goes : (block : List ℕ) → length block ≡ n → Moves l0 l1 s t (block ++ 10 ∷ []) → PartCase (line ++ 10 ∷ []) l0 l1 before after s t (point_at client start number input) (next block) (Read (entry block))
    unfolding p
    block_goes block size m =
        let part : Part = record { size = length line + 1 + n + 1; entry = entry block; input = next block } in
        let read = (line ++ 10 ∷ []) ++ (block ++ 10 ∷ []) in
        let long : length read ≡ length line + 1 + n + 1 = length-append (line ++ 10 ∷ []) (block ++ 10 ∷ []) ∙ omega (arith, size, length-append line (10 ∷ []), length-append block (10 ∷ [])) in
        let end : t.place ≡ start + length read = omega (arith, at, m.place, long, size, length-append block (10 ∷ [])) in (
          omega (arith, end, long),
          omega (arith, m.most),
          goes_on (line ++ 10 ∷ []) l0 l1 s t (block ++ 10 ∷ []) p (point_at client t.place (number_after number (entry block)) (next block)) (option_to_list (entry block)) m
              (λ more.
              says_part p read (omega (arith, end, m.most)) part
              (λ y. ap (first_part p) (behind_line block (10 ∷ []) y) ∙ (part_here (block ++ 10 ∷ y) ∙ (says (block ++ 10 ∷ y) ∙ ap (with_block (length line) n entry next) (block_there n block y size))))
              (sym long) (omega (arith, long)) more
              ∙ ap (λ (k : ℕ). with_front (option_to_list (entry block)) (rest_of (point_at client k (number_after number (entry block)) (next block)) more)) (omega (arith, end, long))),
        )

    -- another byte than a line feed behind it
    pub block_ends : (block : List ℕ) (b : ℕ) → length block ≡ n → eqb b 10 ≡ false → Moves l0 l1 s t (block ++ b ∷ []) → Ends (line ++ 10 ∷ []) l0 s.held (point_at client start number input) (Some (fault_at BadData start))
    unfolding p
    block_ends block b size differs m =
        let read = (line ++ 10 ∷ []) ++ (block ++ b ∷ []) in
        let long : length read ≡ length line + 1 + n + 1 = length-append (line ++ 10 ∷ []) (block ++ b ∷ []) ∙ omega (arith, size, length-append line (10 ∷ []), length-append block (b ∷ [])) in
        let end : t.place ≡ start + length read = omega (arith, at, m.place, long, size, length-append block (b ∷ [])) in
        ends_by (line ++ 10 ∷ []) l0 l1 s t (block ++ b ∷ []) p (Some (fault_at BadData start)) m
        (says_bad p read (omega (arith, end, m.most)) BadData bad_placed
        (λ y. ap (first_part p) (behind_line block (b ∷ []) y) ∙ (part_here (block ++ b ∷ y) ∙ (says (block ++ b ∷ y) ∙ ap (with_block (length line) n entry next) (block_bad n b block y size differs))))
        (omega (arith, long)))

    -- no further byte
    pub block_stops : (v : List ℕ) (stop : Stop) (input_after : Option (List ℕ)) → length v ≤ n → Stops l0 l1 before after s t v stop
        → PartCase (line ++ 10 ∷ []) l0 l1 before after s t (point_at client start number input) input_after (stopped_of stop (is_some input) start t.place)
    unfolding p
    block_stops v stop input_after le m =
        let end : start + length ((line ++ 10 ∷ []) ++ v) ≡ t.place = omega (arith, at, m.moves.place, length-append (line ++ 10 ∷ []) v, length-append line (10 ∷ [])) in
        stopped (line ++ 10 ∷ []) l0 l1 before after s t v p input_after (is_some input) stop m
        (entries_cut p ((line ++ 10 ∷ []) ++ v) (part_here v ∙ (says v ∙ ap (with_block (length line) n entry next) (block_cut n v le)))
        ∙ ap (λ (k : ℕ). ends_with (end_between (is_some input) start k)) end) end

-- ---- a part from its first byte on

module _ (client : List ℕ) (number : ℕ) (input : Option (List ℕ)) (l0 l1 : Option (List ℕ)) (before after : ℕ) (s t : Taken) (line : List ℕ) (free : IsFree 10 line) where
  first_is : (text : List ℕ) (what : ScriptFaultKind) → whole_line text ≡ Err what → first_part (point_at client s.place number input) text ≡ Err what
  first_is text what e = ap (λ (r : Result (List ℕ) ScriptFaultKind). part_by_line (point_at client s.place number input) r (past 10 text)) e

  pub long_ends : (rest : List ℕ) → 8192 < length line → Moves l0 l1 s t (line ++ rest) → Ends [] l0 s.held (point_at client s.place number input) (Some (fault_at LongLine s.place))
  long_ends rest long m =
      ends_by [] l0 l1 s t (line ++ rest) (point_at client s.place number input) (Some (fault_at LongLine s.place)) m
      (says_bad (point_at client s.place number input) (line ++ rest) (omega (arith, m.place, m.most)) LongLine long_placed
      (λ y. first_is ((line ++ rest) ++ y) LongLine (ap whole_line (append_assoc line rest y) ∙ long_line line (rest ++ y) free long))
      (omega (arith, long, length-append line rest)))

  pub line_stops : (stop : Stop) (input_after : Option (List ℕ)) → length line ≤ 8192 → Stops l0 l1 before after s t line stop → PartCase [] l0 l1 before after s t (point_at client s.place number input) input_after (stopped_of stop (is_some input) s.place t.place)
  line_stops stop input_after short m =
      stopped [] l0 l1 before after s t line (point_at client s.place number input) input_after (is_some input) stop m
      (entries_cut (point_at client s.place number input) line (first_is line Cut (line_cut line free short)) ∙ ap (λ (k : ℕ). ends_with (end_between (is_some input) s.place k)) (sym m.moves.place)) (sym m.moves.place)
