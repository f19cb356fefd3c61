-- The table of commands (Command-Line Reference, "Commands", each command's syntax; `pull` is this project's own). For each form of words: the
-- command's word, the form, the options that it always has, the options that it may have, and whether an input block belongs to it.
use Rattle.std.specs.Prelude.{ℕ, Bool, true, false, List, [], ◌∷◌, map, codes, if◌then◌else◌, Option, Some, None}
use Rattle.std.specs.List.{list_any}
use Rattle.std.specs.Borrow.{Bor}
use Rattle.depot_path.specs.Bytes.{same}
use Rattle.depot_model.specs.declared.command.Labelling.TheVariants.{Exact, Adding, Removing}
use Rattle.depot_model.specs.declared.command.Taking.TheVariants.{Theirs, Yours}
use Rattle.command_words.specs.declared.table.ValueKind.{ValueKind}
use Rattle.command_words.specs.declared.table.ValueKind.TheVariants as kinds
use Rattle.command_words.specs.declared.table.Form.{Form}
use Rattle.command_words.specs.declared.table.Form.TheVariants.{Bare, Files, Words}
use Rattle.command_words.specs.declared.table.BareForm.TheVariants as bare
use Rattle.command_words.specs.declared.table.FileForm.TheVariants as files
use Rattle.command_words.specs.declared.table.WordForm.TheVariants as words

-- an option, and what its value is
pub record Choice : Type 0 where
  pub option : List ℕ
  pub kind : ValueKind

pub record Row : Type 0 where
  pub word : List ℕ
  pub form : Form
  pub always : List Choice
  pub may : List Choice
  pub takes_input : Bool

abbrev pub row : List ℕ → Form → List Choice → List Choice → Row
row word form always may = record { word = word; form = form; always = always; may = may; takes_input = false }

abbrev pub choice : ValueKind → List ℕ → Choice
choice kind option = record { option = option; kind = kind }

abbrev pub flag : List ℕ → Choice
flag = choice kinds.Flag

abbrev pub number : List ℕ → Choice
number = choice kinds.Number

abbrev pub number_or_default : List ℕ → Choice
number_or_default = choice kinds.Change

abbrev pub name : List ℕ → Choice
name = choice kinds.Name

abbrev pub file_type : List ℕ → Choice
file_type = choice kinds.FileType

abbrev pub word : List ℕ → Choice
word = choice kinds.Word

-- the form that saves what its input block holds
abbrev pub save : List ℕ → Form → Row
save word form = record { word = word; form = form; always = flag (codes "-i") ∷ []; may = []; takes_input = true }

unfoldable pub table : List Row
table =
    row (codes "counter") (Words words.Counter) [] []
    ∷ row (codes "counter") (Words words.CounterDelete) (flag (codes "-d") ∷ []) []
    ∷ row (codes "counters") (Bare bare.Counters) [] []
    ∷ row (codes "client") (Words words.ClientShow) (flag (codes "-o") ∷ []) []
    ∷ save (codes "client") (Bare bare.ClientSave)
    ∷ row (codes "label") (Words words.LabelShow) (flag (codes "-o") ∷ []) []
    ∷ save (codes "label") (Bare bare.LabelSave)
    ∷ row (codes "group") (Words words.GroupShow) (flag (codes "-o") ∷ []) []
    ∷ save (codes "group") (Bare bare.GroupSave)
    ∷ row (codes "protect") (Bare bare.ProtectShow) (flag (codes "-o") ∷ []) []
    ∷ save (codes "protect") (Bare bare.ProtectSave)
    ∷ row (codes "where") (Files files.Where) [] []
    ∷ row (codes "add") (Files files.Add) [] (number (codes "-c") ∷ file_type (codes "-t") ∷ [])
    ∷ row (codes "edit") (Files files.Edit) [] (number (codes "-c") ∷ file_type (codes "-t") ∷ [])
    ∷ row (codes "delete") (Files files.Delete) [] (number (codes "-c") ∷ [])
    ∷ row (codes "move") (Files files.Move) [] (number (codes "-c") ∷ [])
    ∷ row (codes "revert") (Files files.Revert) [] (number (codes "-c") ∷ [])
    ∷ row (codes "reopen") (Files files.Reopen) [] (number_or_default (codes "-c") ∷ file_type (codes "-t") ∷ [])
    ∷ row (codes "lock") (Files files.Lock) [] (number (codes "-c") ∷ [])
    ∷ row (codes "unlock") (Files files.Unlock) [] (number (codes "-c") ∷ [])
    ∷ row (codes "opened") (Files files.Opened) [] (flag (codes "-a") ∷ [])
    ∷ save (codes "change") (Bare bare.ChangeSave)
    ∷ row (codes "change") (Words words.ChangeShow) (flag (codes "-o") ∷ []) []
    ∷ row (codes "change") (Words words.ChangeDelete) (number (codes "-d") ∷ []) []
    ∷ row (codes "changes") (Files files.Changes) [] (number (codes "-m") ∷ word (codes "-s") ∷ name (codes "-u") ∷ name (codes "-c") ∷ [])
    ∷ row (codes "submit") (Words words.SubmitChange) (number (codes "-c") ∷ []) []
    ∷ row (codes "submit") (Words words.SubmitDefault) (word (codes "-d") ∷ []) []
    ∷ row (codes "sync") (Files files.Sync) [] (flag (codes "-f") ∷ flag (codes "-n") ∷ [])
    ∷ row (codes "have") (Files files.Have) [] []
    ∷ row (codes "tag") (Files files.Tag) (name (codes "-l") ∷ []) (flag (codes "-d") ∷ [])
    ∷ row (codes "labelsync") (Files (files.LabelSync Exact)) (name (codes "-l") ∷ []) []
    ∷ row (codes "labelsync") (Files (files.LabelSync Adding)) (name (codes "-l") ∷ flag (codes "-a") ∷ []) []
    ∷ row (codes "labelsync") (Files (files.LabelSync Removing)) (name (codes "-l") ∷ flag (codes "-d") ∷ []) []
    ∷ row (codes "labels") (Bare bare.Labels) [] []
    ∷ row (codes "integrate") (Files files.Integrate) [] (number (codes "-c") ∷ [])
    ∷ row (codes "resolve") (Files (files.Resolve Theirs)) (flag (codes "-at") ∷ []) []
    ∷ row (codes "resolve") (Files (files.Resolve Yours)) (flag (codes "-ay") ∷ []) []
    ∷ row (codes "integrated") (Files files.Integrated) [] []
    ∷ row (codes "files") (Files files.Files) [] (flag (codes "-e") ∷ [])
    ∷ row (codes "filelog") (Files files.FileLog) [] []
    ∷ row (codes "print") (Files files.Print) [] []
    ∷ row (codes "describe") (Words words.Describe) (number (codes "-s") ∷ []) []
    ∷ row (codes "describe") (Words words.DescribeShelved) (number (codes "-S") ∷ []) []
    ∷ row (codes "dirs") (Files files.Dirs) [] []
    ∷ row (codes "fstat") (Files files.FileStat) [] []
    ∷ row (codes "shelve") (Files files.Shelve) (number (codes "-c") ∷ []) (flag (codes "-f") ∷ [])
    ∷ row (codes "shelve") (Files files.ShelveDelete) (flag (codes "-d") ∷ number (codes "-c") ∷ []) []
    ∷ row (codes "unshelve") (Files files.Unshelve) (number (codes "-s") ∷ []) (number (codes "-c") ∷ [])
    ∷ row (codes "job") (Words words.JobShow) (flag (codes "-o") ∷ []) []
    ∷ save (codes "job") (Bare bare.JobSave)
    ∷ row (codes "jobs") (Bare bare.Jobs) [] []
    ∷ row (codes "fix") (Words words.Fix) (number (codes "-c") ∷ []) []
    ∷ row (codes "fix") (Words words.FixDelete) (flag (codes "-d") ∷ number (codes "-c") ∷ []) []
    ∷ row (codes "fixes") (Words words.Fixes) [] (number (codes "-c") ∷ word (codes "-j") ∷ [])
    ∷ row (codes "admin") (Words words.Admin) [] []
    ∷ row (codes "pull") (Bare bare.Pull) [] []
    ∷ []

abbrev pub takes_value : ValueKind → Bool
takes_value kinds.Flag = false
takes_value _ = true

-- what the value of an option is, among these
abbrev pub kind_in : List Choice → List ℕ → Option ValueKind
kind_in [] option = None
kind_in (c ∷ choices) option = if same c.option option then Some c.kind else kind_in choices option

-- what the value of a form's option is
abbrev pub kind_in_row : Row → List ℕ → Option ValueKind
kind_in_row r option = elim (kind_in r.always option) [ Some kind ↦ Some kind | None ↦ kind_in r.may option ]

-- what the value of a command's option is: that of the first form that has the option
abbrev pub kind_of : List Row → List ℕ → List ℕ → Option ValueKind
kind_of [] command option = None
kind_of (r ∷ rows) command option = elim (if same r.word command then kind_in_row r option else None) [ Some kind ↦ Some kind | None ↦ kind_of rows command option ]

-- there is a command of that word
abbrev pub is_command : List Row → List ℕ → Bool
is_command rows command = list_any (λ (r : Row). same r.word command) rows

-- a row of the code's table, whose words and lists stand behind references
abbrev pub CodeChoice : Type 0
CodeChoice = Bor (List ℕ) × ValueKind

abbrev pub CodeRow : Type 0
CodeRow = Bor (List ℕ) × Form × Bor (List CodeChoice) × Bor (List CodeChoice) × Bool

abbrev pub seen_choices : List CodeChoice → List Choice
seen_choices choices = map (λ (c : CodeChoice). record { option = c.0.now; kind = c.1 }) choices

abbrev pub seen_row : CodeRow → Row
seen_row r = record { word = r.0.now; form = r.1; always = seen_choices r.2.now; may = seen_choices r.3.now; takes_input = r.4 }

abbrev pub seen_rows : List CodeRow → List Row
seen_rows rows = map seen_row rows
