-- What a script says of the files of its client workspace, and the contents in force behind each of its lines: the last one of each file, in the order in which
-- the files were first named since they were last cleared. This is this project's own choice; a real client reads the files of its workspace.
use Rattle.std.specs.Prelude.{◌≡◌, ◌≤◌, ℕ, zero, suc, ◌+◌, Bool, ◌==◌, Bool, nat_lt, List, [], ◌∷◌, ◌++◌, find, if◌then◌else◌, Option, Some, None, option_map, IfSome, IsTrue}
use Rattle.std.specs.List.{list_all}
use Rattle.std.specs.Option.{option_or, unwrap_or}
use Rattle.std.specs.Map.{lookup}
use Rattle.indexmap.specs.IndexMap.{insert_entry, shift_remove_entry}
use Rattle.db_records.specs.depot_path.Bytes.{same}
use Rattle.depot_model.specs.declared.contents.FileLine.{FileLine}
use Rattle.depot_model.specs.declared.request.Content.{Content}

-- ---- lines

-- files, each with the lines that name it
abbrev pub Files : Type 0
Files = List (List ℕ × List FileLine)

-- how many lines of a script say something of files, and these files
pub record ScriptFiles : Type 0 where
  pub lines : ℕ
  pub files : List (List ℕ × List FileLine)

abbrev pub line_at : ℕ → List FileLine → Option FileLine
line_at n lines = find (λ (l : FileLine). l.line == n) lines

-- what a line says: the file that it names, and the bytes that the file holds from there on, if it holds any
abbrev pub Said : Type 0
Said = List ℕ × Option (List ℕ)

abbrev pub said_of : List ℕ → Option FileLine → Option Said
said_of path line = option_map (λ (l : FileLine). (path, l.bytes)) line

-- what the line behind so many others says
abbrev pub said_at : ℕ → Files → Option Said
said_at n [] = None
said_at n (file ∷ files) = option_or (said_of file.0 (line_at n file.1)) (said_at n files)

-- ---- contents

abbrev pub named : List ℕ → Option (List ℕ) → List (List ℕ × List ℕ) → List (List ℕ × List ℕ)
named path (Some bytes) contents = insert_entry same contents path bytes
named path None contents = shift_remove_entry (same path) contents

abbrev pub after_line : Option Said → List (List ℕ × List ℕ) → List (List ℕ × List ℕ)
after_line None contents = contents
after_line (Some said) contents = named said.0 said.1 contents

-- the contents in force behind so many lines
abbrev pub contents_after : ℕ → Files → List (List ℕ × List ℕ)
contents_after zero files = []
contents_after (suc n) files = after_line (said_at n files) (contents_after n files)

abbrev pub content_of : List ℕ × List ℕ → Content
content_of entry = record { path = entry.0; bytes = entry.1 }

-- one more line names a file, and what was in force behind the lines before it stays
pub record IsOneMore (old new : ScriptFiles) (path : List ℕ) (bytes : Option (List ℕ)) : Type 0 where
  pub lines : new.lines ≡ old.lines + 1
  pub earlier : (n : ℕ) → n ≤ old.lines → contents_after n new.files ≡ contents_after n old.files
  pub last : contents_after new.lines new.files ≡ named path bytes (contents_after old.lines old.files)

abbrev pub are_bytes : List ℕ → Bool
are_bytes bytes = list_all (λ b. nat_lt b 256) bytes

-- ---- how they are kept

-- the lines that name a file
abbrev pub lines_of : Files → List ℕ → List FileLine
lines_of files path = unwrap_or (lookup (same path) files) []

-- with one more line that names a file
abbrev pub with_line : Files → List ℕ → FileLine → Files
with_line [] path line = (path, line ∷ []) ∷ []
with_line (file ∷ files) path line = if same path file.0 then (file.0, file.1 ++ line ∷ []) ∷ files else file ∷ with_line files path line

-- lines stand in their order, none before the first of these numbers
abbrev pub AreRising : ℕ → List FileLine → Type 0
AreRising from [] = Unit {0}
AreRising from (l ∷ lines) = from ≤ l.line × AreRising (suc l.line) lines

-- what the last of the lines before a number says, the others saying this
abbrev pub newest : Option (List ℕ) → ℕ → List FileLine → Option (List ℕ)
newest bytes n [] = bytes
newest bytes n (l ∷ lines) = if nat_lt l.line n then newest l.bytes n lines else bytes

-- what it says to a file
abbrev pub said_to : List ℕ → Option Said → Option (Option (List ℕ))
said_to path None = None
said_to path (Some said) = if same said.0 path then Some said.1 else None

-- the lines of each file are those that name it, and their bytes are below 256
pub record AreTold (lines : ℕ) (files : Files) : Type 0 where
  pub ahead : (n : ℕ) → lines ≤ n → said_at n files ≡ None
  pub told : (path : List ℕ) (n : ℕ) → option_map (λ (l : FileLine). l.bytes) (line_at n (lines_of files path)) ≡ said_to path (said_at n files)
  pub rising : (path : List ℕ) → AreRising 0 (lines_of files path)
  pub bytes : (n : ℕ) → IfSome (said_at n files) (λ (said : Said). IfSome said.1 (λ (bs : List ℕ). IsTrue (are_bytes bs)))
