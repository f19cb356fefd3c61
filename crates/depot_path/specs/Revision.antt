-- The revisions of a file specification: nothing, one revision, or two ends with a comma between (Command-Line Reference, "File
-- specifications"). Which ends a range may have, and which fault comes first, are this project's own choice.
use Rattle.std.specs.Prelude.{ℕ, ◌+◌, Bool, true, false, not, ◌&&◌, ◌||◌, List, take, drop, slice_index, position, ◌==◌, codes, if◌then◌else◌, Option, Some, None, Result, Ok, Err}
use Rattle.depot_path.specs.Answers.{◌>>=◌}
use Rattle.depot_path.specs.Bytes.{same as same_text, is_among, begins_with}
use Rattle.depot_path.specs.Name.{is_name}
use Rattle.depot_path.specs.Date.{has_date_shape, is_date, moment_of}
use Rattle.depot_path.specs.Digits.{is_digits, number_up_to}
use Rattle.depot_path.specs.Pattern.{pattern_of}
use Rattle.depot_path.specs.declared.fault.PathFault.{PathFault}
use Rattle.depot_path.specs.declared.fault.PathFault.TheVariants.{BadRevision, BadRange, BadDate, Memory}
use Rattle.depot_path.specs.declared.piece.Piece.{Piece}
use Rattle.depot_path.specs.declared.revision.RevSpec.{RevSpec}
use Rattle.depot_path.specs.declared.revision.RevSpec.TheVariants.{Number, Newest, Have, Zero, Change, Only, Moment, Named}
use Rattle.depot_path.specs.declared.revision.Wanted.{Wanted}
use Rattle.depot_path.specs.declared.revision.Wanted.TheVariants.{Head, One, Range}
use Rattle.depot_path.specs.declared.file_spec.FileSpec.{FileSpec}

-- the number that a word of digits spells, up to 2,147,483,647
abbrev pub small_number : List ℕ → Option ℕ
small_number word = number_up_to 2147483647 word

abbrev pub made_of : (ℕ → RevSpec) → Option ℕ → Result RevSpec PathFault
made_of made (Some n) = Ok (made n)
made_of made None = Err BadRevision

-- `#0` is the same as `#none`
abbrev pub numbered : ℕ → RevSpec
numbered n = if n == 0 then Zero else Number n

-- what a word after `#` means
abbrev pub hash_end : List ℕ → Result RevSpec PathFault
hash_end word =
    if same_text word (codes "head") then Ok Newest else
    (if same_text word (codes "have") then Ok Have else
    (if same_text word (codes "none") then Ok Zero else made_of numbered (small_number word)))

-- a name that may stand after `@`: since a comma parts ends, it holds none
abbrev pub is_plain_name : List ℕ → Bool
is_plain_name word = is_name word && not (is_among word 0x2C)

-- what a word after `@` means: `=n`, a change, a date, or the name of a label or client
abbrev pub at_end : List ℕ → Result RevSpec PathFault
at_end word =
    if begins_with word (codes "=") then made_of (λ n. Only n) (small_number (drop 1 word)) else
    (if is_digits word then made_of (λ n. Change n) (small_number word) else
    (if has_date_shape word then (if is_date word then Ok (Moment (moment_of word)) else Err BadDate) else
    (if is_plain_name word then Ok (Named word) else Err BadRevision)))

-- what a word means after `#`, or else after `@`
abbrev pub end_of : Bool → List ℕ → Result RevSpec PathFault
end_of hash word = if hash then hash_end word else at_end word

-- ends that a range may have: numbers and the head, changes, or words of a date's shape
abbrev pub is_counted : Result RevSpec PathFault → Bool
is_counted (Ok (Number n)) = true
is_counted (Ok Newest) = true
is_counted _ = false

abbrev pub is_change : Result RevSpec PathFault → Bool
is_change (Ok (Change n)) = true
is_change _ = false

abbrev pub is_dated : Result RevSpec PathFault → Bool
is_dated (Ok (Moment seconds)) = true
is_dated (Err BadDate) = true
is_dated _ = false

abbrev pub may_be_range : Result RevSpec PathFault → Result RevSpec PathFault → Bool
may_be_range first second = (is_counted first && is_counted second) || (is_change first && is_change second) || (is_dated first && is_dated second)

abbrev pub has_no_form : Result RevSpec PathFault → Bool
has_no_form (Err BadRevision) = true
has_no_form _ = false

-- two ends, with the same mark or not
abbrev pub range_of : Bool → Result RevSpec PathFault → Result RevSpec PathFault → Result Wanted PathFault
range_of same first second =
    if has_no_form first || has_no_form second then Err BadRevision else
    (if not same || not (may_be_range first second) then Err BadRange else
    (first >>= (λ a. second >>= (λ b. Ok (Range a b)))))

abbrev pub same_mark : Bool → Bool → Bool
same_mark true hash = hash
same_mark false hash = not hash

-- the mark of a second end: its own, or else that of the first
abbrev pub second_hash : Bool → List ℕ → Bool
second_hash hash second = if begins_with second (codes "#") then true else (if begins_with second (codes "@") then false else hash)

abbrev pub second_word : List ℕ → List ℕ
second_word second = if begins_with second (codes "#") || begins_with second (codes "@") then drop 1 second else second

abbrev pub ends_of : Bool → List ℕ → List ℕ → Result Wanted PathFault
ends_of hash first second = range_of (same_mark hash (second_hash hash second)) (end_of hash first) (end_of (second_hash hash second) (second_word second))

abbrev pub one_of : Result RevSpec PathFault → Result Wanted PathFault
one_of end = end >>= (λ e. Ok (One e))

-- an end for which there was no memory
abbrev pub is_memory : Result RevSpec PathFault → Bool
is_memory (Err Memory) = true
is_memory _ = false

-- what stands after a mark: the first comma parts two ends
abbrev pub parted : Bool → List ℕ → Option ℕ → Result Wanted PathFault
parted hash text None = one_of (end_of hash text)
parted hash text (Some comma) = ends_of hash (take comma text) (drop (comma + 1) text)

abbrev pub wanted_of : Bool → List ℕ → Result Wanted PathFault
wanted_of hash text = parted hash text (position (λ b. b == 0x2C) text)

abbrev pub spec_of : Result (List Piece) PathFault → Result Wanted PathFault → Result FileSpec PathFault
spec_of pattern wanted = pattern >>= (λ p. wanted >>= (λ w. Ok (record { pattern = p; wanted = w })))

-- a pattern up to the first mark, and from there on revisions
abbrev pub marked : List ℕ → Option ℕ → Result FileSpec PathFault
marked text None = spec_of (pattern_of false text) (Ok Head)
marked text (Some mark) = spec_of (pattern_of false (take mark text)) (wanted_of (slice_index text mark == 0x23) (drop (mark + 1) text))

-- the file specification that a text spells, or the first fault
abbrev pub file_spec_of : List ℕ → Result FileSpec PathFault
file_spec_of text = marked text (position (is_among (codes "#@")) text)
