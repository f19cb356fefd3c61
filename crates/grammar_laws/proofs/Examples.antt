-- A printed script, and the words of some commands.
use Rattle.std.proofs.Common.{◌≡◌, [], ◌∷◌, Some, None, refl, true}
use Rattle.std.specs.Prelude.{codes}
use Rattle.std.specs.Fmt.{digits}
use Rattle.depot_rows.specs.depot_model.declared.command.Command.TheVariants as commands
use Rattle.depot_rows.specs.depot_model.declared.command.Labelling.TheVariants.{Adding}
use Rattle.depot_rows.specs.depot_model.declared.line.Line.TheVariants.{Words, Bad}
use Rattle.wire_text.specs.declared.entry.Entry.{Entry}
use Rattle.wire_text.specs.declared.entry.Entry.TheVariants.{Put, Clear, Command}
use Rattle.wire_text.specs.declared.head.Head.{Head}
use Rattle.wire_text.specs.declared.head.Head.TheVariants.{Session, Replica}
use Rattle.grammar_laws.specs.CommandText.{words_of}
use Rattle.grammar_laws.specs.ScriptText.{script_text, are_entries, head_line, is_head}

ann : Head
ann = Session (record { user = codes "ann"; client = codes "w"; host = codes "h" })

content : Entry
content = Put (record { path = codes "//w/a b#"; bytes = codes "x\ny" })

cleared : Entry
cleared = Clear (codes "//w/c")

saves : Entry
saves = Command (record { number = 1; line = Words (codes "p4" ∷ codes "client" ∷ codes "-i" ∷ []); input = Some (codes "z") })

unread : Entry
unread = Command (record { number = 2; line = Bad; input = None })

session : script_text ann (content ∷ cleared ∷ saves ∷ unread ∷ [])
    ≡ codes "session ann w h\nfile //w/a b%23 3\nx\ny\nclear //w/c\ninput 1\nz\n \"p4\" \"client\" \"-i\" \n\"\n"
unfolding ann content cleared saves unread digits
session = refl

-- such a script can be printed
may_begin : is_head ann ≡ true
unfolding ann
may_begin = refl

may_say : are_entries (codes "w") 1 (content ∷ cleared ∷ saves ∷ unread ∷ []) ≡ true
unfolding content cleared saves unread
may_say = refl

replica : head_line (Replica (record { user = codes "ann"; client = codes "w"; host = codes "h" }) (codes "//depot/..." ∷ codes "-//depot/x/..." ∷ [])) ≡ codes "replica w ann h //depot/... -//depot/x/..."
replica = refl

-- words

counts : words_of (commands.CounterSet (codes "build") 7) ≡ codes "p4" ∷ codes "counter" ∷ codes "build" ∷ codes "7" ∷ []
unfolding digits
counts = refl

labels : words_of (commands.LabelSync (codes "stable") Adding []) ≡ codes "p4" ∷ codes "labelsync" ∷ codes "-l" ∷ codes "stable" ∷ codes "-a" ∷ []
labels = refl

fixes : words_of (commands.FixDelete 12 (codes "job1" ∷ codes "job2" ∷ [])) ≡ codes "p4" ∷ codes "fix" ∷ codes "-d" ∷ codes "-c" ∷ codes "12" ∷ codes "job1" ∷ codes "job2" ∷ []
unfolding digits
fixes = refl
