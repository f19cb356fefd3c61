-- The text of changes is that of a group.
use Rattle.std.proofs.Common.{◌≡◌, ℕ, ◌+◌, ◌-◌, ◌≤◌, List, ◌++◌, length, take, ◌∙◌, ap, arith, append_assoc, length-append}
use Rattle.std.proofs.lemmas.List.{take-append-le, take_all}
use Rattle.db_records.specs.declared.change.Change.{Change}
use Rattle.journal_groups.specs.Groups.{group_text, head_of, body_of}
use Rattle.disk_journal.specs.Text.{IsGroup, mark}

pub is_group : (number : ℕ) (changes : List Change) → IsGroup number (group_text number changes)
is_group number changes = record { records = body_of changes; is = simp append_assoc }

-- its records are no longer
pub body_within : (number : ℕ) (changes : List Change) → length (body_of changes) ≤ length (group_text number changes)
body_within number changes = omega (arith, length-append (head_of number (length (body_of changes))) (body_of changes))

-- a group before a closed mark
pub before_mark : (group text : List ℕ) → text ≡ group ++ mark 109 → take (length text - 5) text ≡ group
before_mark group text is =
    let long : length text - 5 ≡ length group = omega (arith, ap length is ∙ length-append group (mark 109)) in
    ap (λ (n : ℕ). take n text) long ∙ ap (take (length group)) is ∙ take-append-le (length group) group (mark 109) (omega arith) ∙ take_all (length group) group (omega arith)
