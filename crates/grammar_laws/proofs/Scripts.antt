-- What a printed script says.
use Rattle.std.proofs.Common.{◌≡◌, ℕ, ◌+◌, ◌≤◌, true, false, List, [], ◌∷◌, ◌++◌, length, Option, Some, None, Ok, refl, sym, ap, ◌∙◌, arith, length-append, append_assoc}
use Rattle.std.specs.Prelude.{nat_le, codes, decimal, flat_map, is_some}
use Rattle.std.specs.List.{list_all}
use Rattle.std.proofs.lemmas.Bool.Decides.{nat_tests}
use Rattle.std.specs.Option.{option_map_or}
use Rattle.std.proofs.lemmas.Bool.{and_parts}
use Rattle.depot_rows.specs.depot_path.Path.{is_path, printed}
use Rattle.depot_rows.specs.depot_model.declared.line.Line.{Line}
use Rattle.depot_rows.proofs.Keys.{number-is}
use Rattle.wire_text.specs.Head.{client_of}
use Rattle.wire_text.specs.LineKind.{is_within}
use Rattle.wire_text.specs.Reading.{point_at}
use Rattle.wire_text.specs.Script.{Part, part_of, rest_of, with_front, headed, number_after, script_of}
use Rattle.wire_text.specs.declared.entry.Entry.{Entry}
use Rattle.wire_text.specs.declared.entry.Entry.TheVariants.{Put, Clear, Command}
use Rattle.wire_text.specs.declared.head.Head.{Head}
use Rattle.wire_text.proofs.Says.{says_end}
use Rattle.wire_text.proofs.Scripts.{head_there}
use Rattle.grammar_laws.specs.ScriptText.{line_text, block_text, head_line, command_line, input_text, entry_text, script_text, is_block, is_line, is_entry, are_entries, has_short_line, IsScript, FitsScript, IsWhole}
use Rattle.grammar_laws.proofs.Heads.{head_reads, head_free}
use Rattle.grammar_laws.proofs.Lines.{file_is, file_free, file_short, clear_is, clear_free, clear_short, input_is, input_free, input_short, command_is, line_reads, line_free}
use Rattle.grammar_laws.proofs.Parts.{line_says, block_says}

-- ---- the line of a command, behind an input that waits or none

module _ (client : List ℕ) (number : ℕ) (line : Line) (is : is_line line ≡ true) (short_line : length (command_line line) ≤ 8192) where
  pub command_says : (place : ℕ) (input : Option (List ℕ)) → place + length (line_text (command_line line)) ≤ 67108864 → (more : List ℕ)
      → rest_of (point_at client place number input) (line_text (command_line line) ++ more)
      ≡ with_front (Command (record { number = number; line = line; input = input }) ∷ []) (rest_of (point_at client (place + (length (command_line line) + 1)) (number + 1) None) more)
  command_says place input fits more =
      let made : Line → Part = λ l. record { size = length (command_line line) + 1; entry = Some (Command (record { number = number; line = l; input = input })); input = None } in
      line_says (point_at client place number input) (command_line line) (line_free line is) short_line (made line)
      (λ x. ap (λ k. part_of (point_at client place number input) (command_line line) k x) (command_is client (is_some input) line) ∙ ap (λ (l : Line). Ok (made l)) (line_reads line is)) refl fits more

  pub input_says : (place : ℕ) (input : Option (List ℕ)) → option_map_or is_block input true ≡ true → place + length (input_text input ++ line_text (command_line line)) ≤ 67108864 → (more : List ℕ)
      → rest_of (point_at client place number None) ((input_text input ++ line_text (command_line line)) ++ more)
      ≡ with_front (Command (record { number = number; line = line; input = input }) ∷ []) (rest_of (point_at client (place + length (input_text input ++ line_text (command_line line))) (number + 1) None) more)
  input_says place None short fits more =
      command_says place None fits more
      ∙ ap (λ (k : ℕ). with_front (Command (record { number = number; line = line; input = None }) ∷ []) (rest_of (point_at client k (number + 1) None) more)) (omega (arith, length-append (command_line line) (0x0A ∷ [])))
  input_says place (Some bytes) short fits more =
      let n : ℕ = length bytes in
      let start : List ℕ = codes "input " ++ decimal n in
      let block : List ℕ = block_text (codes "input ") bytes in
      let last : List ℕ = line_text (command_line line) in
      let both : length (block ++ last) ≡ length block + length last = length-append block last in
      let size : length block ≡ length start + 1 + n + 1 =
      length-append (line_text start) (line_text bytes) ∙ omega (arith, length-append start (0x0A ∷ []), length-append bytes (0x0A ∷ [])) in
      let end : length last ≡ length (command_line line) + 1 = length-append (command_line line) (0x0A ∷ []) in
      ap (rest_of (point_at client place number None)) (append_assoc block last more)
      ∙ (block_says (point_at client place number None) start (input_free n) (input_short n) n bytes (λ b. None) (λ b. Some b) refl (λ x. ap (λ k. part_of (point_at client place number None) start k x) (input_is client n short)) (omega (arith, fits, both)) (last ++ more)
      ∙ (command_says (place + (length start + 1 + n + 1)) (Some bytes) (omega (arith, fits, both, size)) more
      ∙ ap (λ (k : ℕ). with_front (Command (record { number = number; line = line; input = Some bytes }) ∷ []) (rest_of (point_at client k (number + 1) None) more)) (omega (arith, both, size, end))))

-- ---- each thing that a script says

short_by : (n : ℕ) → nat_le n 8192 ≡ true → n ≤ 8192
short_by n e = grind (arith, nat_tests)

module _ (client : List ℕ) (place number : ℕ) where
  pub entry_says : (entry : Entry) → is_entry client number entry ≡ true → has_short_line entry ≡ true → place + length (entry_text entry) ≤ 67108864 → (more : List ℕ)
      → rest_of (point_at client place number None) (entry_text entry ++ more)
      ≡ with_front (entry ∷ []) (rest_of (point_at client (place + length (entry_text entry)) (number_after number (Some entry)) None) more)
  entry_says (Put content) is few fits more =
      let path : is_path content.path ≡ true = (and_parts _ _ (and_parts _ _ is).0).0 in
      let within : is_within client content.path ≡ true = (and_parts (is_path content.path) (is_within client content.path) (and_parts _ _ is).0).1 in
      let n : ℕ = length content.bytes in
      let start : List ℕ = (codes "file " ++ printed content.path ++ codes " ") ++ decimal n in
      let size : length (line_text start ++ line_text content.bytes) ≡ length start + 1 + n + 1 =
      length-append (line_text start) (line_text content.bytes) ∙ omega (arith, length-append start (0x0A ∷ []), length-append content.bytes (0x0A ∷ [])) in
      block_says (point_at client place number None) start (file_free content.path path n) (file_short content.path path n) n content.bytes (λ b. Some (Put (record { path = content.path; bytes = b }))) (λ b. None) refl
      (λ x. ap (λ k. part_of (point_at client place number None) start k x) (file_is client content.path false path within n (and_parts _ _ is).1)) fits more
      ∙ ap (λ (k : ℕ). with_front (Put content ∷ []) (rest_of (point_at client k number None) more)) (omega (arith, size))
  entry_says (Clear path) is few fits more =
      let good : is_path path ≡ true = (and_parts _ _ is).0 in
      let line : List ℕ = codes "clear " ++ printed path in
      let part : Part = record { size = length line + 1; entry = Some (Clear path); input = None } in
      line_says (point_at client place number None) line (clear_free path good) (clear_short path good) part
      (λ x. ap (λ k. part_of (point_at client place number None) line k x) (clear_is client path false good (and_parts _ _ is).1)) refl fits more
      ∙ ap (λ (k : ℕ). with_front (Clear path ∷ []) (rest_of (point_at client k number None) more)) (omega (arith, length-append line (0x0A ∷ [])))
  entry_says (Command item) is few fits more =
      let same : item.number ≡ number = number-is item.number number (and_parts _ _ (and_parts _ _ is).0).0 in
      input_says client number item.line (and_parts _ _ is).1 (short_by (length (command_line item.line)) few) place item.input (and_parts _ _ (and_parts _ _ is).0).1 fits more
      ∙ ap (λ (k : ℕ). with_front (Command (record { number = k; line = item.line; input = item.input }) ∷ []) (rest_of (point_at client (place + length (entry_text (Command item))) (number + 1) None) more)) (sym same)

-- ---- all of them

pub entries_say : (client : List ℕ) (place number : ℕ) (entries : List Entry) → are_entries client number entries ≡ true → list_all has_short_line entries ≡ true → place + length (flat_map entry_text entries) ≤ 67108864
    → rest_of (point_at client place number None) (flat_map entry_text entries) ≡ record { entries = entries; fault = None }
entries_say client place number [] are few fits = says_end (point_at client place number None) [] fits None refl
entries_say client place number (entry ∷ entries) are few fits =
    let size : length (entry_text entry ++ flat_map entry_text entries) ≡ length (entry_text entry) + length (flat_map entry_text entries) = length-append (entry_text entry) (flat_map entry_text entries) in
    entry_says client place number entry (and_parts _ _ are).0 (and_parts _ _ few).0 (omega (arith, fits, size)) (flat_map entry_text entries)
    ∙ ap (with_front (entry ∷ [])) (entries_say client (place + length (entry_text entry)) (number_after number (Some entry)) entries (and_parts _ _ are).1 (and_parts _ _ few).1 (omega (arith, fits, size)))

pub script_reads : (head : Head) (entries : List Entry) → IsScript head entries → FitsScript head entries → IsWhole (script_text head entries) head entries
script_reads head entries is fits =
    let line : List ℕ = head_line head in
    let size : length (script_text head entries) ≡ length line + 1 + length (flat_map entry_text entries) =
    length-append (line_text line) (flat_map entry_text entries) ∙ ap (λ (k : ℕ). k + length (flat_map entry_text entries)) (length-append line (0x0A ∷ [])) in
    ap script_of (append_assoc line (0x0A ∷ []) (flat_map entry_text entries))
    ∙ (head_there line (flat_map entry_text entries) (head_free head is.begins) head is.line (head_reads head is.begins)
    ∙ ap (headed head) (entries_say (client_of head) (length line + 1) 1 entries is.says fits.lines (omega (arith, fits.size, size))))
