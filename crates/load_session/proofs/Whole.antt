-- The scripts of loads are whole, and how many commands they have.
use Rattle.std.proofs.Common.{◌≡◌, ◌≤◌, ◌<◌, ◌+◌, ◌*◌, ℕ, zero, suc, Bool, true, false, eqb, List, [], ◌∷◌, ◌++◌, length, Option, Some, None, Ok, refl, sym, ap, subst, ◌∙◌, arith, add-one, length-append}
use Rattle.std.specs.Prelude.{◌%◌, codes, is_some}
use Rattle.std.proofs.lemmas.Nat.{mod_below}
use Rattle.seeded_numbers.specs.Numbers.{next_number, value_of}
use Rattle.depot_model.specs.declared.request.Caller.{Caller}
use Rattle.depot_model.specs.declared.request.Content.{Content}
use Rattle.grammar_laws.proofs.Parts.{block_says, line_says}
use Rattle.grammar_laws.specs.ScriptText.{line_text}
use Rattle.load_script.specs.Script.{beginning, content_of, digit_of, files_after, is_among, opening_word, script_of as load_text, step_of, steps_behind}
use Rattle.session_loop.specs.Asking.{asked_from, asking_by, asking_of, commands_of}
use Rattle.wire_text.proofs.Says.{says_end}
use Rattle.wire_text.proofs.Scripts.{head_there}
use Rattle.wire_text.specs.LineKind.{block_kind, kind_by_word, kind_of}
use Rattle.wire_text.specs.Parts.{IsFree}
use Rattle.wire_text.specs.Reading.{point_at}
use Rattle.wire_text.specs.Script.{Entries, Part, Point, Script, headed, part_of, rest_of, script_of, with_front}
use Rattle.wire_text.specs.Words.{line_of}
use Rattle.wire_text.specs.declared.entry.Item.{Item}
use Rattle.wire_text.specs.declared.entry.Entry.TheVariants.{Put, Command}
use Rattle.wire_text.specs.declared.head.Head.TheVariants.{Session}
use Rattle.load_session.specs.Loading.{LoadScriptsAreWhole}

-- ---- the lines of a step

abbrev path_of_file : ℕ → List ℕ
path_of_file file = codes "//load/" ++ digit_of file ∷ []

-- the line of a content, without its line feed
abbrev file_line : ℕ → List ℕ
file_line file = codes "file " ++ path_of_file file ++ codes " 8"

abbrev opening_line : ℕ → Bool → List ℕ
opening_line file known = codes "p4 " ++ opening_word known ++ codes " " ++ path_of_file file

abbrev submit_line : List ℕ
submit_line = codes "p4 submit -d load"

-- the line of a file's content is read as it is written, and its digit is no line feed
record HasLines (file : ℕ) : Type 0 where
  kind : kind_of (codes "load") false (file_line file) ≡ block_kind (Some (path_of_file file)) (Ok 8)
  digit : eqb (digit_of file) 10 ≡ false

lines_of_file : (file : ℕ) → file < 10 → HasLines file
lines_of_file zero below = record { kind = refl; digit = refl }
lines_of_file (suc zero) below = record { kind = refl; digit = refl }
lines_of_file (suc (suc zero)) below = record { kind = refl; digit = refl }
lines_of_file (suc (suc (suc zero))) below = record { kind = refl; digit = refl }
lines_of_file (suc (suc (suc (suc zero)))) below = record { kind = refl; digit = refl }
lines_of_file (suc (suc (suc (suc (suc zero))))) below = record { kind = refl; digit = refl }
lines_of_file (suc (suc (suc (suc (suc (suc zero)))))) below = record { kind = refl; digit = refl }
lines_of_file (suc (suc (suc (suc (suc (suc (suc zero))))))) below = record { kind = refl; digit = refl }
lines_of_file (suc (suc (suc (suc (suc (suc (suc (suc zero)))))))) below = record { kind = refl; digit = refl }
lines_of_file (suc (suc (suc (suc (suc (suc (suc (suc (suc zero))))))))) below = record { kind = refl; digit = refl }
lines_of_file (suc (suc (suc (suc (suc (suc (suc (suc (suc (suc file)))))))))) below = absurd (omega (arith, below))

path_free : (file : ℕ) (behind : List ℕ) → eqb (digit_of file) 10 ≡ false → IsFree 10 behind → IsFree 10 (path_of_file file ++ behind)
path_free file behind digit free = (refl, (refl, (refl, (refl, (refl, (refl, (refl, (digit, free))))))))

file_free : (file : ℕ) → eqb (digit_of file) 10 ≡ false → IsFree 10 (file_line file)
file_free file digit = (refl, (refl, (refl, (refl, (refl, path_free file (codes " 8") digit (refl, (refl, tt)))))))

opening_free : (file : ℕ) (known : Bool) → eqb (digit_of file) 10 ≡ false → IsFree 10 (opening_line file known)
opening_free file true digit = (refl, (refl, (refl, (refl, (refl, (refl, (refl, (refl, path_free file [] digit tt))))))))
opening_free file false digit = (refl, (refl, (refl, (refl, (refl, (refl, (refl, path_free file [] digit tt)))))))

opening_short : (file : ℕ) (known : Bool) → length (opening_line file known) ≤ 16
opening_short file true = omega arith
opening_short file false = omega arith

-- ---- what a text says

-- it is whole, and has so many commands
record Says (n : ℕ) (said : Entries) : Type 0 where
  whole : said.fault ≡ None
  commands : (contents : List (List ℕ × List ℕ)) → length (asked_from contents said.entries) ≡ n

with_content : (n : ℕ) (said : Entries) (content : Content) → Says n said → Says n (with_front (Put content ∷ []) said)
with_content n said content says = record { whole = says.whole; commands = λ contents. says.commands _ }

with_command : (n : ℕ) (said : Entries) (item : Item) → Says n said → Says (n + 1) (with_front (Command item ∷ []) said)
with_command n said item says = record { whole = says.whole; commands = λ contents. sym (add-one (length (asked_from contents said.entries))) ∙ ap (λ k. k + 1) (says.commands contents) }

abbrev at : ℕ → ℕ → Option (List ℕ) → Point
at place number input = point_at (codes "load") place number input

-- the line of a command, which no byte of a line feed is in, and behind which a text says so much
command_says : (line : List ℕ) → ((waits : Bool) → kind_of (codes "load") waits line ≡ kind_by_word (codes "load") waits [] []) → IsFree 10 line → length line ≤ 8192 → (n place number : ℕ) (input : Option (List ℕ)) → place + (length line + 1) ≤ 67108864
    → (more : List ℕ) → Says n (rest_of (at (place + (length line + 1)) (number + 1) None) more) → Says (n + 1) (rest_of (at place number input) (line_text line ++ more))
command_says line kind free short n place number input fits more later =
    let item : Item = record { number = number; line = line_of line; input = input } in
    let part : Part = record { size = length line + 1; entry = Some (Command item); input = None } in
    let long : length (line_text line) ≡ length line + 1 = length-append line (10 ∷ []) in
    subst (Says (n + 1))
    (sym (line_says (at place number input) line free short part (λ x. ap (λ k. part_of (at place number input) line k x) (kind (is_some input))) refl (omega (arith, fits, long)) more))
    (with_command n (rest_of (at (place + (length line + 1)) (number + 1) None) more) item later)

-- ---- a step

shape : (file : ℕ) (known : Bool) (n : ℕ) (more : List ℕ)
    → step_of file known n ++ more ≡ (line_text (file_line file) ++ line_text (content_of n)) ++ (line_text (opening_line file known) ++ (line_text submit_line ++ more))
shape file true n more = refl
shape file false n more = refl

opening_kind : (file : ℕ) (known waits : Bool) → kind_of (codes "load") waits (opening_line file known) ≡ kind_by_word (codes "load") waits [] []
opening_kind file known waits = refl

step_says : (file : ℕ) → HasLines file → (known : Bool) (step n place number : ℕ) → place + 60 ≤ 67108864 → (more : List ℕ)
    → ((later_place later_number : ℕ) → later_place ≤ place + 60 → Says n (rest_of (at later_place later_number None) more)) → Says (n + 1 + 1) (rest_of (at place number None) (step_of file known step ++ more))
step_says file lines known step n place number fits more later =
    let content : Content = record { path = path_of_file file; bytes = content_of step } in
    let behind = line_text (opening_line file known) ++ (line_text submit_line ++ more) in
    let short = opening_short file known in
    let next = place + 25 in
    let last = next + (length (opening_line file known) + 1) in
    let submits : Says (n + 1) (rest_of (at last (number + 1) None) (line_text submit_line ++ more)) =
    command_says submit_line (λ waits. refl) (refl, (refl, (refl, (refl, (refl, (refl, (refl, (refl, (refl, (refl, (refl, (refl, (refl, (refl, (refl, (refl, (refl, tt))))))))))))))))) (omega arith) n last (number + 1) None (omega (arith, fits, short)) more
    (later (last + 18) (number + 1 + 1) (omega (arith, short))) in
    let opens : Says (n + 1 + 1) (rest_of (at next number None) behind) =
    command_says (opening_line file known) (opening_kind file known) (opening_free file known lines.digit) (omega (arith, short)) (n + 1) next number None (omega (arith, fits, short)) (line_text submit_line ++ more) submits in
    let said = block_says (at place number None) (file_line file) (file_free file lines.digit) (omega arith) 8 (content_of step) (λ b. Some (Put (record { path = path_of_file file; bytes = b }))) (λ b. None) refl
    (λ x. ap (λ k. part_of (at place number None) (file_line file) k x) lines.kind) (omega (arith, fits)) behind in
    subst (λ t. Says (n + 1 + 1) (rest_of (at place number None) t)) (sym (shape file known step more))
    (subst (Says (n + 1 + 1)) (sym said) (with_content (n + 1 + 1) (rest_of (at next number None) behind) content opens))

-- ---- all steps

steps_say : (x count : ℕ) (before : List ℕ) (place number : ℕ) → place + 60 * count ≤ 67108864 → Says (2 * count) (rest_of (at place number None) (steps_behind before (files_after x count)))
steps_say x zero before place number fits =
    subst (Says 0) (sym (says_end (at place number None) [] (omega (arith, fits)) None refl)) (record { whole = refl; commands = λ contents. refl })
steps_say x (suc count) before place number fits =
    let file = value_of (next_number x) % 10 in
    let many : 2 * count + 1 + 1 ≡ 2 * suc count = omega arith in
    subst (λ m. Says m (rest_of (at place number None) (steps_behind before (files_after x (suc count))))) many
    (step_says file (lines_of_file file (mod_below (value_of (next_number x)) 10 (omega arith))) (is_among before file) (length before + 1) (2 * count) place number (omega (arith, fits))
    (steps_behind (before ++ file ∷ []) (files_after (next_number x) count))
    (λ later_place later_number within. steps_say (next_number x) count (before ++ file ∷ []) later_place later_number (omega (arith, fits, within))))

-- ---- the whole script

abbrev head_line : List ℕ
head_line = codes "session load load load"

abbrev caller : Caller
caller = record { user = codes "load"; client = codes "load"; host = codes "load" }

abbrev input_line : List ℕ
input_line = codes "input 45"

abbrev form : List ℕ
form = codes "Client:\tload\n\nView:\n\t//depot/... //load/...\n\n"

abbrev client_line : List ℕ
client_line = codes "p4 client -i"

beginning_shape : (more : List ℕ) → beginning ++ more ≡ head_line ++ 10 ∷ ((line_text input_line ++ line_text form) ++ (line_text client_line ++ more))
beginning_shape more = refl

begun_says : (n : ℕ) (more : List ℕ) → Says n (rest_of (at 91 2 None) more) → Says (n + 1) (rest_of (at 23 1 None) ((line_text input_line ++ line_text form) ++ (line_text client_line ++ more)))
begun_says n more later =
    let saves : Says (n + 1) (rest_of (at 78 1 (Some form)) (line_text client_line ++ more)) =
    command_says client_line (λ waits. refl) (refl, (refl, (refl, (refl, (refl, (refl, (refl, (refl, (refl, (refl, (refl, (refl, tt)))))))))))) (omega arith) n 78 1 (Some form) (omega arith) more later in
    let said = block_says (at 23 1 None) input_line (refl, (refl, (refl, (refl, (refl, (refl, (refl, (refl, tt)))))))) (omega arith) 45 form (λ b. None) (λ b. Some b) refl (λ x. refl) (omega arith) (line_text client_line ++ more) in
    subst (Says (n + 1)) (sym said) saves

script_says : (seed count : ℕ) → count ≤ 1000000 → (said : Entries) × Says (2 * count + 1) said × (script_of (load_text seed count) ≡ headed (Session caller) said)
script_says seed count few =
    let steps = steps_behind [] (files_after seed count) in
    let behind = (line_text input_line ++ line_text form) ++ (line_text client_line ++ steps) in (
      rest_of (at 23 1 None) behind,
      begun_says (2 * count) steps (steps_say seed count [] 91 2 (omega (arith, few))),
      ap script_of (beginning_shape steps)
          ∙ head_there head_line behind (refl, (refl, (refl, (refl, (refl, (refl, (refl, (refl, (refl, (refl, (refl, (refl, (refl, (refl, (refl, (refl, (refl, (refl, (refl, (refl, (refl, (refl, tt)))))))))))))))))))))) (Session caller) (omega arith) refl,
    )

pub load_scripts_whole : LoadScriptsAreWhole
load_scripts_whole seed count few =
    let bytes = load_text seed count in
    let (said, says, is) = script_says seed count few in
    let whole : (asking_of bytes).fault ≡ None = ap (λ (s : Script). (asking_by s).fault) is ∙ says.whole in (
      (refl, whole),
      ap (λ (s : Script). length (commands_of (asking_by s).session)) is ∙ says.commands [],
    )
