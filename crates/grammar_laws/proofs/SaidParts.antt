-- What the parts of a script say may be said.
use Rattle.std.proofs.Common.{◌≡◌, ℕ, zero, suc, ◌+◌, ◌-◌, Bool, true, false, List, [], ◌∷◌, ◌++◌, length, min, take, drop, Option, Some, None, Result, Ok, Err, refl, sym, ap, ◌∙◌, arith}
use Rattle.std.specs.Prelude.{◌==◌, codes, nat_le, nat_lt, is_some, IfOk, IfSome, if◌then◌else◌}
use Rattle.std.specs.Option.{option_to_list, option_map_or}
use Rattle.std.proofs.lemmas.Bool.Decides.{nat_tests}
use Rattle.std.proofs.lemmas.List.{length-take}
use Rattle.depot_rows.specs.depot_path.Bytes.{same}
use Rattle.depot_rows.specs.depot_path.Digits.{number_of, is_digits}
use Rattle.depot_rows.specs.depot_path.Path.{is_path, path_fault, unescaped, unless}
use Rattle.depot_rows.specs.depot_path.declared.fault.PathFault.{PathFault}
use Rattle.depot_rows.proofs.depot_path.Paths.{reads_path}
use Rattle.depot_rows.proofs.Keys.{number-self}
use Rattle.command_words.proofs.Giving.{both}
use Rattle.wire_text.specs.LineKind.{length_of, block_kind, file_kind, clear_kind, input_kind, kind_by_word, kind_of, is_skipped, is_within, path_in, path_within}
use Rattle.wire_text.specs.Parts.{upto, past, last_cut, Halves}
use Rattle.wire_text.specs.Script.{Point, Part, block_of, block_before, with_block, with_front, fault_at, stop_place, part_of, first_part, part_by_line, whole_line, behind, said, entries_from, rest_of, limited, max_script, number_after}
use Rattle.wire_text.specs.declared.entry.Entry.{Entry}
use Rattle.wire_text.specs.declared.entry.Entry.TheVariants.{Put}
use Rattle.wire_text.specs.declared.fault.ScriptFaultKind.{ScriptFaultKind}
use Rattle.wire_text.specs.declared.fault.ScriptFaultKind.TheVariants.{BadData}
use Rattle.grammar_laws.specs.ScriptText.{is_block, is_client_path, is_entry, are_entries}
use Rattle.grammar_laws.proofs.SaidWords.{line_said}

if_when : {K : Type 0} (P : K → Type 0) (b : Bool) (x y : K) → (b ≡ true → P x) → (b ≡ false → P y) → P (if b then x else y)
if_when P true x y h k = h refl
if_when P false x y h k = k refl

-- ---- blocks and paths

taken_short : (n : ℕ) (text block : List ℕ) → nat_le n 8388608 ≡ true → take n text ≡ block → is_block block ≡ true
taken_short n text block short e =
    let long : length block ≡ min n (length text) = ap length (sym e) ∙ length-take n text in
    grind (arith, nat_tests)

block_short : (n : ℕ) (text : List ℕ) → nat_le n 8388608 ≡ true → IfOk (block_of n text) (λ block. is_block block ≡ true)
block_short n text short = go (drop n text)
  where
    go : (rest : List ℕ) → IfOk (block_before (take n text) rest) (λ block. is_block block ≡ true)
    go [] = tt
    go (b ∷ rest) =
        if_when (λ (r : Result (List ℕ) ScriptFaultKind). IfOk r (λ block. is_block block ≡ true)) (b == 0x0A) (Ok (take n text)) (Err BadData) (λ _. taken_short n text (take n text) short refl) (λ _. tt)

path_said : (client text : List ℕ) → IfSome (path_in client text) (λ path. is_client_path client path ≡ true)
path_said client text = go (path_fault text) refl
  where
    go : (o : Option PathFault) → path_fault text ≡ o → IfSome (path_within client (unless o (unescaped 0 text))) (λ path. is_client_path client path ≡ true)
    go None e =
        if_when (λ (p : Option (List ℕ)). IfSome p (λ path. is_client_path client path ≡ true)) (is_within client (unescaped 0 text)) (Some (unescaped 0 text)) None
        (λ within. both (is_path (unescaped 0 text)) (is_within client (unescaped 0 text)) (reads_path text e) within) (λ _. tt)
    go (Some fault) e = tt

length_cases : (P : _ → Type 0) (word : List ℕ) → (nat_le (number_of word) 8388608 ≡ true → P (Ok (number_of word))) → P (length_of (codes "99999999")) → P (length_of []) → P (length_of word)
length_cases P word h long none =
    if_when P (is_digits word) (if nat_le (number_of word) 8388608 then Ok (number_of word) else length_of (codes "99999999")) (length_of [])
    (λ _. if_when P (nat_le (number_of word) 8388608) (Ok (number_of word)) (length_of (codes "99999999")) h (λ _. long)) (λ _. none)

-- ---- a part

-- what a part says may be said at its point, and so may the input that waits behind it
abbrev IsSaid : Point → Part → Type 0
IsSaid p part = IfSome part.entry (λ e. is_entry p.client p.number e ≡ true) × (option_map_or is_block part.input true ≡ true)

module _ (p : Point) (waits : option_map_or is_block p.input true ≡ true) (line text : List ℕ) where
  block_said : (n : ℕ) (entry : List ℕ → Option Entry) (next : List ℕ → Option (List ℕ)) → nat_le n 8388608 ≡ true
      → ((block : List ℕ) → is_block block ≡ true → IfSome (entry block) (λ e. is_entry p.client p.number e ≡ true) × (option_map_or is_block (next block) true ≡ true))
      → IfOk (with_block (length line) n entry next (block_of n text)) (IsSaid p)
  block_said n entry next short good = go (block_of n text) (block_short n text short)
    where
      go : (r : Result (List ℕ) ScriptFaultKind) → IfOk r (λ block. is_block block ≡ true) → IfOk (with_block (length line) n entry next r) (IsSaid p)
      go (Ok block) h = good block h
      go (Err what) h = tt

  file_said : (path : Option (List ℕ)) → IfSome path (λ x. is_client_path p.client x ≡ true) → (word : List ℕ) → IfOk (part_of p line (block_kind path (length_of word)) text) (IsSaid p)
  file_said (Some path) good word =
      length_cases (λ n. IfOk (part_of p line (block_kind (Some path) n) text) (IsSaid p)) word
      (λ short. block_said (number_of word) (λ block. Some (Put (record { path = path; bytes = block }))) (λ block. p.input) short
      (λ block h. (both (is_client_path p.client path) (is_block block) good h, waits))) tt tt
  file_said None good word = tt

  files_said : (halves : Option Halves) → IfOk (part_of p line (file_kind p.client halves) text) (IsSaid p)
  files_said (Some halves) = file_said (path_in p.client halves.before) (path_said p.client halves.before) halves.behind
  files_said None = tt

  clear_said : (path : Option (List ℕ)) → IfSome path (λ x. is_client_path p.client x ≡ true) → IfOk (part_of p line (clear_kind path) text) (IsSaid p)
  clear_said (Some path) good = (good, waits)
  clear_said None good = tt

  input_said : (w : Bool) (word : List ℕ) → IfOk (part_of p line (input_kind w (length_of word)) text) (IsSaid p)
  input_said true word = tt
  input_said false word =
      length_cases (λ n. IfOk (part_of p line (input_kind false n) text) (IsSaid p)) word
      (λ short. block_said (number_of word) (λ block. None) (λ block. Some block) short (λ block h. (tt, h))) tt tt

  command_said : IfOk (part_of p line (kind_by_word p.client false [] []) text) (IsSaid p)
  command_said = (both _ _ (both _ _ (number-self p.number) waits) (line_said line), refl)

  kind_said : IfOk (part_of p line (kind_of p.client (is_some p.input) line) text) (IsSaid p)
  kind_said =
      let word : List ℕ = upto 0x20 line in
      let rest : List ℕ = past 0x20 line in
      if_when (λ k. IfOk (part_of p line k text) (IsSaid p)) (is_skipped line) (kind_of p.client false []) (kind_by_word p.client (is_some p.input) word rest) (λ _. (tt, waits)) (λ _.
      if_when (λ k. IfOk (part_of p line k text) (IsSaid p)) (same word (codes "file")) (file_kind p.client (last_cut 0x20 rest))
      (if same word (codes "clear") then clear_kind (path_in p.client rest) else (if same word (codes "input") then input_kind (is_some p.input) (length_of rest) else kind_by_word p.client false [] []))
      (λ _. files_said (last_cut 0x20 rest)) (λ _.
      if_when (λ k. IfOk (part_of p line k text) (IsSaid p)) (same word (codes "clear")) (clear_kind (path_in p.client rest))
      (if same word (codes "input") then input_kind (is_some p.input) (length_of rest) else kind_by_word p.client false [] [])
      (λ _. clear_said (path_in p.client rest) (path_said p.client rest)) (λ _.
      if_when (λ k. IfOk (part_of p line k text) (IsSaid p)) (same word (codes "input")) (input_kind (is_some p.input) (length_of rest)) (kind_by_word p.client false [] [])
      (λ _. input_said (is_some p.input) rest) (λ _. command_said))))

first_said : (p : Point) → option_map_or is_block p.input true ≡ true → (text : List ℕ) → IfOk (first_part p text) (IsSaid p)
first_said p waits text = go (whole_line text)
  where
    go : (r : Result (List ℕ) ScriptFaultKind) → IfOk (part_by_line p r (past 0x0A text)) (IsSaid p)
    go (Ok line) = kind_said p waits line (past 0x0A text)
    go (Err what) = tt

-- ---- all parts

entry_then : (client : List ℕ) (number : ℕ) (entry : Option Entry) (rest : List Entry) → IfSome entry (λ e. is_entry client number e ≡ true) → are_entries client (number_after number entry) rest ≡ true
    → are_entries client number (option_to_list entry ++ rest) ≡ true
entry_then client number None rest here later = later
entry_then client number (Some entry) rest here later = both (is_entry client number entry) (are_entries client (number_after number (Some entry)) rest) here later

entries_said : (p : Point) (passed : ℕ) (text : List ℕ) → option_map_or is_block p.input true ≡ true → (entries_from p passed text).fault ≡ None → are_entries p.client p.number (entries_from p passed text).entries ≡ true
entries_said p passed [] waits whole = refl
entries_said p (suc passed) (b ∷ text) waits whole = entries_said p passed text waits whole
entries_said p zero (b ∷ text) waits whole = go (first_part p (b ∷ text)) (first_said p waits (b ∷ text)) whole (λ part. entries_said (behind p part) (part.size - 1) text)
  where
    go : (r : Result Part ScriptFaultKind) → IfOk r (IsSaid p)
        → (said r (λ what. record { entries = []; fault = Some (fault_at what (stop_place what p.place (length text + 1))) }) (λ part. with_front (option_to_list part.entry) (entries_from (behind p part) (part.size - 1) text))).fault ≡ None
        → ((part : Part) → option_map_or is_block part.input true ≡ true → (entries_from (behind p part) (part.size - 1) text).fault ≡ None
        → are_entries p.client (number_after p.number part.entry) (entries_from (behind p part) (part.size - 1) text).entries ≡ true)
        → are_entries p.client p.number (said r (λ what. record { entries = []; fault = Some (fault_at what (stop_place what p.place (length text + 1))) }) (λ part. with_front (option_to_list part.entry) (entries_from (behind p part) (part.size - 1) text))).entries ≡ true
    go (Ok part) here e later = entry_then p.client p.number part.entry (entries_from (behind p part) (part.size - 1) text).entries here.0 (later part here.1 e)
    go (Err what) here e later = refl

pub rest_said : (p : Point) (text : List ℕ) → option_map_or is_block p.input true ≡ true → (rest_of p text).fault ≡ None → are_entries p.client p.number (rest_of p text).entries ≡ true
rest_said p text waits whole = go (nat_lt max_script (p.place + length text)) whole
  where
    go : (over : Bool) → (limited over (entries_from p 0 (take (max_script - p.place) text))).fault ≡ None → are_entries p.client p.number (limited over (entries_from p 0 (take (max_script - p.place) text))).entries ≡ true
    go true e = absurd cc
    go false e = entries_said p 0 (take (max_script - p.place) text) waits e
