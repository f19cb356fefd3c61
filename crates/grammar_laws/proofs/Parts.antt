-- What a printed line says, alone or with its block.
use Rattle.std.proofs.Common.{◌≡◌, ℕ, ◌+◌, ◌≤◌, List, [], ◌∷◌, ◌++◌, length, Option, Result, Ok, sym, ap, ◌∙◌, arith, length-append, append_assoc}
use Rattle.std.specs.Prelude.{is_some}
use Rattle.std.specs.Option.{option_to_list}
use Rattle.wire_text.specs.Parts.{past, IsFree}
use Rattle.wire_text.specs.LineKind.{kind_of}
use Rattle.wire_text.specs.Script.{Point, Part, block_of, with_block, part_of, part_by_line, first_part, behind, rest_of, with_front}
use Rattle.wire_text.specs.declared.entry.Entry.{Entry}
use Rattle.wire_text.specs.declared.fault.ScriptFaultKind.{ScriptFaultKind}
use Rattle.wire_text.proofs.Says.{line_there, block_there, says_part}
use Rattle.wire_text.proofs.Separators.{past_line}
use Rattle.grammar_laws.specs.ScriptText.{line_text}

module _ (p : Point) (line : List ℕ) (free : IsFree 0x0A line) (short : length line ≤ 8192) where
  part_here : (more : List ℕ) → first_part p (line_text line ++ more) ≡ part_of p line (kind_of p.client (is_some p.input) line) more
  part_here more =
      ap (first_part p) (append_assoc line (0x0A ∷ []) more)
      ∙ (ap (λ (r : Result (List ℕ) ScriptFaultKind). part_by_line p r (past 0x0A (line ++ 0x0A ∷ more))) (line_there line more free short)
      ∙ ap (part_of p line (kind_of p.client (is_some p.input) line)) (past_line 0x0A line more free))

  pub line_says : (part : Part) → ((more : List ℕ) → part_of p line (kind_of p.client (is_some p.input) line) more ≡ Ok part) → part.size ≡ length line + 1 → p.place + length (line_text line) ≤ 67108864
      → (more : List ℕ) → rest_of p (line_text line ++ more) ≡ with_front (option_to_list part.entry) (rest_of (behind p part) more)
  line_says part says size fits more =
      let long : length (line_text line) ≡ length line + 1 = length-append line (0x0A ∷ []) in
      says_part p (line_text line) fits part (λ x. part_here x ∙ says x) (size ∙ sym long) (omega (arith, long)) more

  pub block_says : (n : ℕ) (block : List ℕ) (entry : List ℕ → Option Entry) (next : List ℕ → Option (List ℕ)) → length block ≡ n
      → ((more : List ℕ) → part_of p line (kind_of p.client (is_some p.input) line) more ≡ with_block (length line) n entry next (block_of n more)) → p.place + length (line_text line ++ line_text block) ≤ 67108864
      → (more : List ℕ) → rest_of p ((line_text line ++ line_text block) ++ more)
      ≡ with_front (option_to_list (entry block)) (rest_of (behind p (record { size = length line + 1 + n + 1; entry = entry block; input = next block })) more)
  block_says n block entry next size says fits more =
      let part : Part = record { size = length line + 1 + n + 1; entry = entry block; input = next block } in
      let long : length (line_text line ++ line_text block) ≡ length line + 1 + n + 1 =
      length-append (line_text line) (line_text block) ∙ omega (arith, size, length-append line (0x0A ∷ []), length-append block (0x0A ∷ [])) in
      says_part p (line_text line ++ line_text block) fits part
      (λ x.
      ap (first_part p) (append_assoc (line_text line) (line_text block) x ∙ ap (λ (t : List ℕ). line_text line ++ t) (append_assoc block (0x0A ∷ []) x))
      ∙ (part_here (block ++ 0x0A ∷ x) ∙ (says (block ++ 0x0A ∷ x) ∙ ap (with_block (length line) n entry next) (block_there n block x size))))
      (sym long) (omega (arith, long)) more
