-- The lines that tell of an end on standard error. The words are this project's own choice.
use Rattle.std.specs.Prelude.{ℕ, List, ◌++◌, codes, decimal}
use Rattle.wire_text.specs.declared.fault.ScriptFaultKind.{ScriptFaultKind}
use Rattle.wire_text.specs.declared.fault.ScriptFaultKind.TheVariants.{BadHead, LongLine, BadData, Cut, LongData}

-- `laitsjop: WHAT: WHY`
abbrev pub failed : List ℕ → List ℕ → List ℕ
failed what why = codes "laitsjop: " ++ (what ++ (codes ": " ++ why))

-- of a file of a disk: `laitsjop: FOLDER/FILE at byte PLACE: ..`
abbrev pub damaged : List ℕ → ℕ → ℕ → List ℕ
damaged folder file place =
    codes "laitsjop: " ++ (folder ++ (codes "/" ++ (decimal file ++ (codes " at byte " ++ (decimal place ++ codes ": damaged; nothing was changed")))))

-- of a node: `laitsjop: node.journal departs from depot.journal in generation GENERATION at byte PLACE; ..`
abbrev pub apart : ℕ → ℕ → List ℕ
apart generation place =
    codes "laitsjop: node.journal departs from depot.journal in generation " ++ (decimal generation ++ (codes " at byte " ++ (decimal place ++ codes "; nothing was changed")))

-- of what can't be followed: `laitsjop: depot.journal or depot.archive at byte PLACE: bad; ..`
abbrev pub bad_place : ℕ → List ℕ
bad_place place = codes "laitsjop: depot.journal or depot.archive at byte " ++ (decimal place ++ codes ": bad; the node has what stands before it")

-- of a script, where the line isn't known: `laitsjop: NAME at byte PLACE: WHY`
abbrev pub bad_at_byte : List ℕ → ℕ → List ℕ → List ℕ
bad_at_byte name place why = codes "laitsjop: " ++ (name ++ (codes " at byte " ++ (decimal place ++ (codes ": " ++ why))))

-- of a script: `laitsjop: NAME line LINE: WHY`
abbrev pub bad_line : List ℕ → ℕ → List ℕ → List ℕ
bad_line name line why = codes "laitsjop: " ++ (name ++ (codes " line " ++ (decimal line ++ (codes ": " ++ why))))

-- what is wrong with a script
abbrev pub wrong : ScriptFaultKind → List ℕ
wrong BadHead = codes "this is no first line of a script, as `session USER CLIENT HOST` is"
wrong LongLine = codes "the line is longer than 8192 bytes"
wrong BadData = codes "the line is not of its form, or no line feed follows its block"
wrong Cut = codes "the script ends inside a line or a block, or before the command of an input"
wrong LongData = codes "the block is longer than 8388608 bytes, or the script than 67108864"
