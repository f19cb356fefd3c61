-- Lines and the commands that they spell, or their first faults.
use Rattle.std.proofs.Common.{◌≡◌, [], ◌∷◌, Some, None, refl, Ok, Err, true, false}
use Rattle.std.specs.Prelude.{codes}
use Rattle.depot_path.specs.declared.fault.PathFault.TheVariants.{NoSlashes, EmptyPart, BadByte, BadEscape, BadRange, BadDate}
use Rattle.depot_path.specs.declared.piece.Piece.TheVariants.{Byte}
use Rattle.depot_path.specs.declared.revision.Wanted.TheVariants.{Head}
use Rattle.depot_model.specs.declared.line.Line.TheVariants.{Words, Bad}
use Rattle.depot_model.specs.declared.request.WordFault.TheVariants as faults
use Rattle.depot_model.specs.declared.command.Labelling.TheVariants.{Adding}
use Rattle.depot_model.specs.declared.command.Taking.TheVariants.{Theirs}
use Rattle.depot_model.specs.declared.command.Command.TheVariants.{CounterShow, CounterSet, ClientSave, Edit, SubmitDefault, LabelSync, Resolve, Changes, DescribeShelved, ShelveDelete, FixDelete, Checkpoint, Pull, Reopen}
use Rattle.command_words.specs.Table.{table}
use Rattle.command_words.specs.Reading.{command_of}

-- p4 counter build 7
sets : command_of (Words (codes "p4" ∷ codes "counter" ∷ codes "build" ∷ codes "7" ∷ [])) false ≡ Ok (CounterSet (codes "build") 7)
unfolding table
sets = refl

-- p4 counter a 18446744073709551615
greatest_value : command_of (Words (codes "p4" ∷ codes "counter" ∷ codes "a" ∷ codes "18446744073709551615" ∷ [])) false ≡ Ok (CounterSet (codes "a") 18446744073709551615)
unfolding table
greatest_value = refl

-- p4 counter a 18446744073709551616
value_too_great : command_of (Words (codes "p4" ∷ codes "counter" ∷ codes "a" ∷ codes "18446744073709551616" ∷ [])) false ≡ Err (faults.BadNumber (codes "counter"))
unfolding table
value_too_great = refl

-- p4 counter 007 1
digits_are_no_name : command_of (Words (codes "p4" ∷ codes "counter" ∷ codes "007" ∷ codes "1" ∷ [])) false ≡ Err (faults.BadUsage (codes "counter"))
unfolding table
digits_are_no_name = refl

-- p4 counter a 007
zeros_in_front : command_of (Words (codes "p4" ∷ codes "counter" ∷ codes "a" ∷ codes "007" ∷ [])) false ≡ Ok (CounterSet (codes "a") 7)
unfolding table
zeros_in_front = refl

-- p4 counter -x
no_such_option : command_of (Words (codes "p4" ∷ codes "counter" ∷ codes "-x" ∷ [])) false ≡ Err (faults.BadUsage (codes "counter"))
unfolding table
no_such_option = refl

-- p4 counter
counter_alone : command_of (Words (codes "p4" ∷ codes "counter" ∷ [])) false ≡ Err (faults.BadUsage (codes "counter"))
unfolding table
counter_alone = refl

-- p4 counter -d journal
kept_deleted : command_of (Words (codes "p4" ∷ codes "counter" ∷ codes "-d" ∷ codes "journal" ∷ [])) false ≡ Err (faults.BadUsage (codes "counter"))
unfolding table
kept_deleted = refl

-- p4 add //ws1/a%4
bad_escape : command_of (Words (codes "p4" ∷ codes "add" ∷ codes "//ws1/a%4" ∷ [])) false ≡ Err (faults.BadPath (codes "//ws1/a%4") BadEscape)
unfolding table
bad_escape = refl

-- p4 add //depot
one_component : command_of (Words (codes "p4" ∷ codes "add" ∷ codes "//depot" ∷ [])) false ≡ Err (faults.BadUsage (codes "add"))
unfolding table
one_component = refl

-- p4 edit -t binary+Fx //d/a
type_in_order : command_of (Words (codes "p4" ∷ codes "edit" ∷ codes "-t" ∷ codes "binary+Fx" ∷ codes "//d/a" ∷ [])) false ≡ Ok (Edit None (Some (codes "binary+xF")) (record { text = codes "//d/a"; spec = record { pattern = Byte 47 ∷ Byte 47 ∷ Byte 100 ∷ Byte 47 ∷ Byte 97 ∷ []; wanted = Head } } ∷ []))
unfolding table
type_in_order = refl

-- p4 edit -t text+xx //d/a
type_twice_modified : command_of (Words (codes "p4" ∷ codes "edit" ∷ codes "-t" ∷ codes "text+xx" ∷ codes "//d/a" ∷ [])) false ≡ Err (faults.BadUsage (codes "edit"))
unfolding table
type_twice_modified = refl

-- p4 edit -t text+ //d/a
type_without_modifier : command_of (Words (codes "p4" ∷ codes "edit" ∷ codes "-t" ∷ codes "text+" ∷ codes "//d/a" ∷ [])) false ≡ Err (faults.BadUsage (codes "edit"))
unfolding table
type_without_modifier = refl

-- p4 edit //a//b //depot/a#9,
first_fault_of_arguments : command_of (Words (codes "p4" ∷ codes "edit" ∷ codes "//a//b" ∷ codes "//depot/a#9," ∷ [])) false ≡ Err (faults.BadPath (codes "//a//b") EmptyPart)
unfolding table
first_fault_of_arguments = refl

-- p4 counter change 5
kept : command_of (Words (codes "p4" ∷ codes "counter" ∷ codes "change" ∷ codes "5" ∷ [])) false ≡ Err (faults.BadUsage (codes "counter"))
unfolding table
kept = refl

-- p4 counter change
kept_shown : command_of (Words (codes "p4" ∷ codes "counter" ∷ codes "change" ∷ [])) false ≡ Ok (CounterShow (codes "change"))
unfolding table
kept_shown = refl

-- p4 edit -c 1 -c 2 //depot/a
option_twice : command_of (Words (codes "p4" ∷ codes "edit" ∷ codes "-c" ∷ codes "1" ∷ codes "-c" ∷ codes "2" ∷ codes "//depot/a" ∷ [])) false ≡ Err (faults.BadUsage (codes "edit"))
unfolding table
option_twice = refl

-- p4 edit //depot/a -c 1
option_after : command_of (Words (codes "p4" ∷ codes "edit" ∷ codes "//depot/a" ∷ codes "-c" ∷ codes "1" ∷ [])) false ≡ Err (faults.BadPath (codes "-c") NoSlashes)
unfolding table
option_after = refl

-- p4 tag //depot/a
option_missing : command_of (Words (codes "p4" ∷ codes "tag" ∷ codes "//depot/a" ∷ [])) false ≡ Err (faults.BadUsage (codes "tag"))
unfolding table
option_missing = refl

-- p4 tag //depot//a
option_missing_first : command_of (Words (codes "p4" ∷ codes "tag" ∷ codes "//depot//a" ∷ [])) false ≡ Err (faults.BadUsage (codes "tag"))
unfolding table
option_missing_first = refl

-- p4 edit -- //depot/a
dashes : command_of (Words (codes "p4" ∷ codes "edit" ∷ codes "--" ∷ codes "//depot/a" ∷ [])) false ≡ Err (faults.BadUsage (codes "edit"))
unfolding table
dashes = refl

-- p4 edit -c
value_missing : command_of (Words (codes "p4" ∷ codes "edit" ∷ codes "-c" ∷ [])) false ≡ Err (faults.BadUsage (codes "edit"))
unfolding table
value_missing = refl

-- p4 edit -c x -q
value_first : command_of (Words (codes "p4" ∷ codes "edit" ∷ codes "-c" ∷ codes "x" ∷ codes "-q" ∷ [])) false ≡ Err (faults.BadNumber (codes "edit"))
unfolding table
value_first = refl

-- p4 edit -q -c x
unknown_first : command_of (Words (codes "p4" ∷ codes "edit" ∷ codes "-q" ∷ codes "-c" ∷ codes "x" ∷ [])) false ≡ Err (faults.BadUsage (codes "edit"))
unfolding table
unknown_first = refl

-- p4 submit -d -c
value_like_option : command_of (Words (codes "p4" ∷ codes "submit" ∷ codes "-d" ∷ codes "-c" ∷ [])) false ≡ Ok (SubmitDefault (codes "-c"))
unfolding table
value_like_option = refl

-- p4 edit -c default //depot/a
no_default : command_of (Words (codes "p4" ∷ codes "edit" ∷ codes "-c" ∷ codes "default" ∷ codes "//depot/a" ∷ [])) false ≡ Err (faults.BadNumber (codes "edit"))
unfolding table
no_default = refl

-- p4 change -d 2147483648
number_too_great : command_of (Words (codes "p4" ∷ codes "change" ∷ codes "-d" ∷ codes "2147483648" ∷ [])) false ≡ Err (faults.BadNumber (codes "change"))
unfolding table
number_too_great = refl

-- p4 files //depot/a#1,#2
no_range : command_of (Words (codes "p4" ∷ codes "files" ∷ codes "//depot/a#1,#2" ∷ [])) false ≡ Err (faults.BadRevision (codes "//depot/a#1,#2") BadRange)
unfolding table
no_range = refl

-- p4 edit //depot/a#1,#2
no_range_before_no_revision : command_of (Words (codes "p4" ∷ codes "edit" ∷ codes "//depot/a#1,#2" ∷ [])) false ≡ Err (faults.BadRevision (codes "//depot/a#1,#2") BadRange)
unfolding table
no_range_before_no_revision = refl

-- p4 edit //depot/a#1
no_revision : command_of (Words (codes "p4" ∷ codes "edit" ∷ codes "//depot/a#1" ∷ [])) false ≡ Err (faults.BadUsage (codes "edit"))
unfolding table
no_revision = refl

-- p4 files //depot/a@2020/13/01
no_date : command_of (Words (codes "p4" ∷ codes "files" ∷ codes "//depot/a@2020/13/01" ∷ [])) false ≡ Err (faults.BadRevision (codes "//depot/a@2020/13/01") BadDate)
unfolding table
no_date = refl

-- p4 add //depot/*
no_wildcard : command_of (Words (codes "p4" ∷ codes "add" ∷ codes "//depot/*" ∷ [])) false ≡ Err (faults.BadUsage (codes "add"))
unfolding table
no_wildcard = refl

-- p4 label -o a/b
bad_name : command_of (Words (codes "p4" ∷ codes "label" ∷ codes "-o" ∷ codes "a/b" ∷ [])) false ≡ Err (faults.BadUsage (codes "label"))
unfolding table
bad_name = refl

-- p4 changes -u 12
bad_user : command_of (Words (codes "p4" ∷ codes "changes" ∷ codes "-u" ∷ codes "12" ∷ [])) false ≡ Err (faults.BadUsage (codes "changes"))
unfolding table
bad_user = refl

-- (with an input block) p4 edit //depot//a
input_unasked : command_of (Words (codes "p4" ∷ codes "edit" ∷ codes "//depot//a" ∷ [])) true ≡ Err (faults.BadUsage (codes "edit"))
unfolding table
input_unasked = refl

-- (with an input block) p4 edit -c x
input_after_options : command_of (Words (codes "p4" ∷ codes "edit" ∷ codes "-c" ∷ codes "x" ∷ [])) true ≡ Err (faults.BadNumber (codes "edit"))
unfolding table
input_after_options = refl

-- p4 client -i
input_wanted : command_of (Words (codes "p4" ∷ codes "client" ∷ codes "-i" ∷ [])) false ≡ Err (faults.BadUsage (codes "client"))
unfolding table
input_wanted = refl

-- (with an input block) p4 client -i
input_given : command_of (Words (codes "p4" ∷ codes "client" ∷ codes "-i" ∷ [])) true ≡ Ok ClientSave
unfolding table
input_given = refl

-- (with an input block) p4 client -i -o
both_forms : command_of (Words (codes "p4" ∷ codes "client" ∷ codes "-i" ∷ codes "-o" ∷ [])) true ≡ Err (faults.BadUsage (codes "client"))
unfolding table
both_forms = refl

-- p4 labelsync -l rel -a -d
two_ways : command_of (Words (codes "p4" ∷ codes "labelsync" ∷ codes "-l" ∷ codes "rel" ∷ codes "-a" ∷ codes "-d" ∷ [])) false ≡ Err (faults.BadUsage (codes "labelsync"))
unfolding table
two_ways = refl

-- p4 labelsync -a -l rel
one_way : command_of (Words (codes "p4" ∷ codes "labelsync" ∷ codes "-a" ∷ codes "-l" ∷ codes "rel" ∷ [])) false ≡ Ok (LabelSync (codes "rel") Adding [])
unfolding table
one_way = refl

-- p4 resolve
no_way : command_of (Words (codes "p4" ∷ codes "resolve" ∷ [])) false ≡ Err (faults.BadUsage (codes "resolve"))
unfolding table
no_way = refl

-- p4 resolve -at
theirs : command_of (Words (codes "p4" ∷ codes "resolve" ∷ codes "-at" ∷ [])) false ≡ Ok (Resolve Theirs [])
unfolding table
theirs = refl

-- p4 changes -c ws1 -m 5
narrowed : command_of (Words (codes "p4" ∷ codes "changes" ∷ codes "-c" ∷ codes "ws1" ∷ codes "-m" ∷ codes "5" ∷ [])) false ≡ Ok (Changes (Some 5) None None (Some (codes "ws1")) [])
unfolding table
narrowed = refl

-- p4 describe -S 3
shelved : command_of (Words (codes "p4" ∷ codes "describe" ∷ codes "-S" ∷ codes "3" ∷ [])) false ≡ Ok (DescribeShelved 3)
unfolding table
shelved = refl

-- p4 shelve -d -c 3
unshelved : command_of (Words (codes "p4" ∷ codes "shelve" ∷ codes "-d" ∷ codes "-c" ∷ codes "3" ∷ [])) false ≡ Ok (ShelveDelete 3 [])
unfolding table
unshelved = refl

-- p4 shelve -f -d -c 3
unshelved_again : command_of (Words (codes "p4" ∷ codes "shelve" ∷ codes "-f" ∷ codes "-d" ∷ codes "-c" ∷ codes "3" ∷ [])) false ≡ Err (faults.BadUsage (codes "shelve"))
unfolding table
unshelved_again = refl

-- p4 fix -d -c 3 job000001 x/y
fixed : command_of (Words (codes "p4" ∷ codes "fix" ∷ codes "-d" ∷ codes "-c" ∷ codes "3" ∷ codes "job000001" ∷ codes "x/y" ∷ [])) false ≡ Ok (FixDelete 3 (codes "job000001" ∷ codes "x/y" ∷ []))
unfolding table
fixed = refl

-- p4 fix -c 3
no_job : command_of (Words (codes "p4" ∷ codes "fix" ∷ codes "-c" ∷ codes "3" ∷ [])) false ≡ Err (faults.BadUsage (codes "fix"))
unfolding table
no_job = refl

-- p4 integrate //depot/a/... //depot/b/*
unlike : command_of (Words (codes "p4" ∷ codes "integrate" ∷ codes "//depot/a/..." ∷ codes "//depot/b/*" ∷ [])) false ≡ Err (faults.BadUsage (codes "integrate"))
unfolding table
unlike = refl

-- p4 integrate //depot/a //depot/b#1
bad_target : command_of (Words (codes "p4" ∷ codes "integrate" ∷ codes "//depot/a" ∷ codes "//depot/b#1" ∷ [])) false ≡ Err (faults.BadPath (codes "//depot/b#1") BadByte)
unfolding table
bad_target = refl

-- p4 admin checkpoint
checkpoint : command_of (Words (codes "p4" ∷ codes "admin" ∷ codes "checkpoint" ∷ [])) false ≡ Ok Checkpoint
unfolding table
checkpoint = refl

-- p4 admin
admin_alone : command_of (Words (codes "p4" ∷ codes "admin" ∷ [])) false ≡ Err (faults.BadUsage (codes "admin"))
unfolding table
admin_alone = refl

-- p4 pull
pulled : command_of (Words (codes "p4" ∷ codes "pull" ∷ [])) false ≡ Ok Pull
unfolding table
pulled = refl

-- p4 frob -x
unknown : command_of (Words (codes "p4" ∷ codes "frob" ∷ codes "-x" ∷ [])) false ≡ Err (faults.UnknownCommand (codes "frob"))
unfolding table
unknown = refl

-- p4 reopen -c default //d/a
to_default : command_of (Words (codes "p4" ∷ codes "reopen" ∷ codes "-c" ∷ codes "default" ∷ codes "//d/a" ∷ [])) false
    ≡ Ok (Reopen (Some 0) None (record { text = codes "//d/a"; spec = record { pattern = Byte 47 ∷ Byte 47 ∷ Byte 100 ∷ Byte 47 ∷ Byte 97 ∷ []; wanted = Head } } ∷ []))
unfolding table
to_default = refl

no_words : command_of (Words []) false ≡ Err (faults.BadUsage [])
no_words = refl

bad_line : command_of Bad false ≡ Err (faults.BadUsage [])
bad_line = refl

only_program : command_of (Words (codes "p4" ∷ [])) false ≡ Err (faults.BadUsage [])
only_program = refl

other_program : command_of (Words (codes "svn" ∷ codes "sync" ∷ [])) false ≡ Err (faults.UnknownCommand (codes "svn"))
other_program = refl
