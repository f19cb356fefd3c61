-- The reply to a command that doesn't touch the table of revisions has no contents.
use Rattle.std.proofs.Common.{◌≡◌, ℕ, Bool, true, false, List, [], ◌∷◌, ◌++◌, Option, Some, None, Result, Ok, Err, refl, ap, subst, ◌∙◌}
use Rattle.std.specs.Prelude.{◌&&◌, ◌-◌, not, flat_map, nat_lt, length, codes, is_none, unwrap_or, if◌then◌else◌}
use Rattle.depot_rows.specs.protect_table.Line.{table_of as protects_of}
use Rattle.depot_rows.specs.spec_form.Form.{FormValue, lines_of}
use Rattle.depot_rows.specs.spec_form.Places.{field_place, line_place}
use Rattle.depot_rows.specs.spec_form.Reading.{form_of}
use Rattle.depot_rows.specs.spec_form.declared.shape.Shape.TheVariants as shapes
use Rattle.depot_rows.specs.view_map.Reading.{view_of}
use Rattle.depot_rows.specs.depot_path.Name.{is_name}
use Rattle.depot_rows.specs.db_records.declared.table.TableId.TheVariants.{Rev}
use Rattle.depot_rows.specs.depot_model.About.{about}
use Rattle.depot_rows.specs.depot_model.Arguments.{changed_paths, each_or, everything, is_in as is_taken, named as named_files, no_file, not_in, over, over_all, paths_of, within_files}
use Rattle.depot_rows.specs.depot_model.Asking.{to_open, to_write}
use Rattle.depot_rows.specs.depot_model.Commands.{own_step, whole_step, step}
use Rattle.depot_rows.specs.depot_model.Common.{common_refusals, last_refusals, word_refusal}
use Rattle.depot_rows.specs.depot_model.Deeds.{Deed, FixForm, Pending}
use Rattle.depot_rows.specs.depot_model.Fixes.{fix_name, has_fix}
use Rattle.depot_rows.specs.depot_model.Latest.{spec}
use Rattle.depot_rows.specs.depot_model.Numbers.{landing, pending}
use Rattle.depot_rows.specs.depot_model.Opened.{holder, opened}
use Rattle.depot_rows.specs.depot_model.Refusals.{refusal_row}
use Rattle.depot_rows.specs.depot_model.Shelves.{kept_paths}
use Rattle.depot_rows.specs.depot_model.Step.{Step, all_of, both, does, nothing, refuse_if, refuses, tells, unless}
use Rattle.depot_rows.specs.depot_model.Steps.Changing.{change_delete, change_form, change_save, has_number}
use Rattle.depot_rows.specs.depot_model.Steps.Clients as clients
use Rattle.depot_rows.specs.depot_model.Steps.Groups as groups
use Rattle.depot_rows.specs.depot_model.Steps.Jobs.{distinct, fix, fix_delete, fix_job, is_change, is_status, job_save, save_form, unfix, unfix_job}
use Rattle.depot_rows.specs.depot_model.Steps.Labels as labels
use Rattle.depot_rows.specs.depot_model.Steps.Opening.{change_refusal, reopened_change_refusal, right_refusal}
use Rattle.depot_rows.specs.depot_model.Steps.Protections as protections
use Rattle.depot_rows.specs.depot_model.Steps.Reverting.{both_ends, is_held_by, lock, lock_file, moved, not_open, reopen, reopen_file, reopen_opening, revert, revert_file, revert_files, revert_named, revert_over, selected, shut, unlock, unlock_file}
use Rattle.depot_rows.specs.depot_model.Steps.Shelving.{describe_kept, describe_shelved, shelf_refusal, shelve_delete, unkeep, within_forms}
use Rattle.depot_rows.specs.depot_model.Tables.{touches}
use Rattle.depot_rows.specs.depot_model.Values.{value_of}
use Rattle.depot_rows.specs.depot_model.declared.command.Command.{Command}
use Rattle.depot_rows.specs.depot_model.declared.command.Command.TheVariants as commands
use Rattle.depot_rows.specs.depot_model.declared.command.FileArgument.{FileArgument}
use Rattle.depot_rows.specs.depot_model.declared.refusal.Limit.TheVariants.{Files, Protections}
use Rattle.depot_rows.specs.depot_model.declared.refusal.Refusal.{Refusal}
use Rattle.depot_rows.specs.depot_model.declared.refusal.Refusal.TheVariants.{BadForm, NoShelf, NoSuchChange, NoSuchFile, NotOpen, OverLimit}
use Rattle.depot_rows.specs.depot_model.declared.reply.Row.{Row}
use Rattle.depot_rows.specs.depot_model.declared.request.Caller.{Caller}
use Rattle.depot_rows.specs.depot_model.declared.request.Request.{Request}
use Rattle.depot_rows.specs.depot_model.declared.request.WordFault.{WordFault}
use Rattle.depot_runs.specs.Replica.{answered, replica_reply}
use Rattle.replica_replies.proofs.Bare.{reply_bare}
use Rattle.replica_replies.specs.Prints.{is_print, prints}
use Rattle.reply_rows.proofs.Bare.{AreBare, none_told, refusal_bare}
use Rattle.reply_rows.specs.Made.{contents_of}

-- ---- steps

-- the rows of a step have no contents
record IsBare (told : Step) : Type 0 where
  pub rows : AreBare told.rows

nothing_bare : IsBare nothing
nothing_bare = record { rows = tt }

refused : (why : Refusal) → IsBare (refuses why)
refused why = record { rows = (refusal_bare why, tt) }

done : (deeds : List Deed) (row : Row) → row.content ≡ None → IsBare (does deeds row)
done deeds row bare = record { rows = (bare, tt) }

rows_both : (a b : List Row) → AreBare a → AreBare b → AreBare (a ++ b)
rows_both [] b h k = k
rows_both (row ∷ a) b h k = (h.0, rows_both a b h.1 k)

bare_both : (first next : Step) → IsBare first → IsBare next → IsBare (both first next)
bare_both first next h k = record { rows = rows_both first.rows next.rows h.rows k.rows }

bare_unless : (tests : List (Option Refusal)) (told : Step) → IsBare told → IsBare (unless tests told)
bare_unless [] told h = h
bare_unless (None ∷ tests) told h = bare_unless tests told h
bare_unless (Some why ∷ tests) told h = refused why

bare_refused : (test : Option Refusal) (tests : List (Option Refusal)) (told : Step) → IsBare told → IsBare (unless (test ∷ tests) told)
bare_refused test tests told h = bare_unless (test ∷ tests) told h

bare_if : (b : Bool) (on off : Step) → IsBare on → IsBare off → IsBare (if b then on else off)
bare_if true on off h k = h
bare_if false on off h k = k

bare_within : (told : Step) → IsBare told → IsBare (within_files told)
bare_within told h = bare_if (nat_lt 10000 (length (paths_of changed_paths told.deeds))) (refuses (OverLimit Files)) told (refused (OverLimit Files)) h

bare_where : {A : Type 0} (act : A → Step) → ((x : A) → IsBare (act x)) → (o : Option A) → IsBare (elim o as (λ _. Step) [ None ↦ nothing | Some x ↦ act x ])
bare_where act h None = nothing_bare
bare_where act h (Some x) = h x

bare_read : {A E : Type 0} (act : A → Step) → ((x : A) → IsBare (act x)) → (fails : E → Step) → ((e : E) → IsBare (fails e)) → (r : Result A E)
    → IsBare (elim r as (λ _. Step) [ Err e ↦ fails e | Ok x ↦ act x ])
bare_read act h fails k (Err e) = k e
bare_read act h fails k (Ok x) = h x

bare_all : {A : Type 0} (act : A → Step) → ((x : A) → IsBare (act x)) → (xs : List A) → IsBare (all_of act xs)
bare_all act h [] = nothing_bare
bare_all act h (x ∷ xs) = bare_both (act x) (all_of act xs) (h x) (bare_all act h xs)

-- the files that arguments name, of which one that names none is answered otherwise
module _ (files : FileArgument → List (List ℕ)) (act : List ℕ → Step) (acts : (path : List ℕ) → IsBare (act path)) where
  module _ (missing : FileArgument → Step) (misses : (a : FileArgument) → IsBare (missing a)) where
    one_or : (a : FileArgument) (named left : List (List ℕ)) → IsBare (each_or (missing a) act named left)
    one_or a [] left = misses a
    one_or a (path ∷ paths) left = bare_all act acts left

    bare_in_turn : (taken : List (List ℕ)) (arguments : List FileArgument) → IsBare (over files missing (λ _. act) taken arguments)
    bare_in_turn taken [] = nothing_bare
    bare_in_turn taken (a ∷ arguments) =
        bare_both (each_or (missing a) act (files a) (not_in taken (files a))) (over files missing (λ _. act) (taken ++ files a) arguments)
        (one_or a (files a) (not_in taken (files a))) (bare_in_turn (taken ++ files a) arguments)

  -- it isn't opened
  bare_over : (taken : List (List ℕ)) (arguments : List FileArgument) → IsBare (over files not_open (λ _. act) taken arguments)
  bare_over taken arguments = bare_in_turn not_open (λ a. refused (NotOpen a.text)) taken arguments

  -- it names no file; arguments may be absent
  bare_over_all : (arguments : List FileArgument) → IsBare (over_all files no_file (λ _. act) arguments)
  bare_over_all [] = bare_in_turn (λ _. nothing) (λ a. nothing_bare) [] (everything ∷ [])
  bare_over_all (a ∷ arguments) = bare_in_turn no_file (λ a. refused (NoSuchFile a.text)) [] (a ∷ arguments)

-- ---- forms, groups, protections

module _ (input : List ℕ) where
  client_form_bare : (form : FormValue) → IsBare (clients.saved input form)
  client_form_bare form =
      let name = value_of form (codes "Client") in
      bare_refused (refuse_if (not (is_name name)) (BadForm 0)) _ _
      (bare_read _ (λ view. done _ _ refl) _ (λ fault. refused (BadForm (line_place input (codes "View") (fault.line - 1)))) (view_of name (lines_of form (codes "View"))))

  client_save_bare : IsBare (clients.client_save input)
  client_save_bare = bare_read (clients.saved input) client_form_bare _ (λ fault. refused (BadForm fault.line)) (form_of shapes.Client input)

  group_form_bare : (form : FormValue) → IsBare (groups.saved input form)
  group_form_bare form = bare_refused (refuse_if (not (is_name (value_of form (codes "Group")))) (BadForm 0)) _ _ (done _ _ refl)

  group_save_bare : IsBare (groups.group_save input)
  group_save_bare = bare_read (groups.saved input) group_form_bare _ (λ fault. refused (BadForm fault.line)) (form_of shapes.Group input)

  lines_bare : (lines : List (List ℕ)) → IsBare (protections.saved input lines)
  lines_bare lines = bare_read _ (λ table. bare_refused (refuse_if (nat_lt 1000 (length lines)) (OverLimit Protections)) _ _ (done _ _ refl)) _
      (λ fault. refused (BadForm (line_place input (codes "Protections") (fault.line - 1)))) (protects_of lines)

  protect_save_bare : IsBare (protections.protect_save input)
  protect_save_bare =
      bare_read _ (λ form. lines_bare (lines_of form (codes "Protections"))) _ (λ fault. refused (BadForm fault.line)) (form_of shapes.Protect input)

module _ (d : List Deed) where
  module _ (input : List ℕ) where
    label_form_bare : (form : FormValue) → IsBare (labels.saved d form)
    label_form_bare form = bare_refused (refuse_if (not (is_name (value_of form (codes "Label")))) (BadForm 0)) _ _ (done _ _ refl)

    label_save_bare : IsBare (labels.label_save d input)
    label_save_bare = bare_read (labels.saved d) label_form_bare _ (λ fault. refused (BadForm fault.line)) (form_of shapes.Label input)

    job_form_bare : (form : FormValue) → IsBare (save_form d input form)
    job_form_bare form = bare_refused (refuse_if (not (is_status (value_of form (codes "Status")))) (BadForm (field_place input (codes "Status")))) _ _ (done _ _ refl)

    job_save_bare : IsBare (job_save d input)
    job_save_bare = bare_read (save_form d input) job_form_bare _ (λ fault. refused (BadForm fault.line)) (form_of shapes.Job input)

  -- ---- changes and fixes

  change_form_bare : (request : Request) (input : List ℕ) (form : FormValue) → IsBare (change_form d request input form)
  change_form_bare request input form =
      bare_refused (refuse_if (not (has_number form)) (BadForm (field_place input (codes "Change")))) _ _ (done _ _ refl)

  change_save_bare : (request : Request) (input : List ℕ) → IsBare (change_save d request input)
  change_save_bare request input =
      bare_read (change_form d request input) (change_form_bare request input) _ (λ fault. refused (BadForm fault.line)) (form_of shapes.Change input)

  change_delete_bare : (caller : Caller) (n : ℕ) → IsBare (change_delete d caller n)
  change_delete_bare caller n = bare_refused (refuse_if (is_none (pending d n) && is_none (landing d n)) (NoSuchChange n)) _ _ (done _ _ refl)

  fix_bare : (caller : Caller) (n : ℕ) (names : List (List ℕ)) → IsBare (fix d caller n names)
  fix_bare caller n names =
      bare_refused (refuse_if (not (is_change d n)) (NoSuchChange n)) _ _ (bare_all (fix_job d caller n) (λ name. done _ _ refl) (distinct names))

  fix_delete_bare : (n : ℕ) (names : List (List ℕ)) → IsBare (fix_delete d n names)
  fix_delete_bare n names = bare_refused (refuse_if (not (is_change d n)) (NoSuchChange n)) _ _ (bare_all (unfix_job d n)
      (λ name. bare_where _ (λ form. bare_if (has_fix d n name) (unfix n name form) nothing (done _ _ refl) nothing_bare) (spec d FixForm (fix_name name n)))
      (distinct names))

  -- ---- opened files

  module _ (caller : Caller) where
    reopen_file_bare : (change : Option ℕ) (type : Option (List ℕ)) (path : List ℕ) → IsBare (reopen_file d caller change type path)
    reopen_file_bare change type path = bare_where (λ o. reopen_opening d caller (moved change type o))
        (λ o. bare_refused (right_refusal to_open d caller o.path) _ _ (done _ _ refl)) (opened d caller.client path)

    reopen_bare : (change : Option ℕ) (type : Option (List ℕ)) (arguments : List FileArgument) → IsBare (reopen d caller change type arguments)
    reopen_bare change type arguments = bare_refused (reopened_change_refusal d caller change) _ _ (bare_within _
        (bare_over (selected d caller None) (reopen_file d caller change type) (reopen_file_bare change type) [] arguments))

    lock_bare : (change : Option ℕ) (arguments : List FileArgument) → IsBare (lock d caller change arguments)
    lock_bare change arguments = bare_within _ (bare_over (selected d caller change) (lock_file d caller)
        (λ path. bare_refused (right_refusal to_write d caller path) _ _ (done _ _ refl)) [] arguments)

    unlock_bare : (change : Option ℕ) (arguments : List FileArgument) → IsBare (unlock d caller change arguments)
    unlock_bare change arguments = bare_within _ (bare_over (selected d caller change) (unlock_file d caller)
        (λ path. bare_refused (right_refusal to_write d caller path) _ _ (bare_if (is_held_by caller (holder d path)) _ nothing (done _ _ refl) nothing_bare)) [] arguments)

    revert_file_bare : (path : List ℕ) → IsBare (revert_file d caller path)
    revert_file_bare path = bare_refused (right_refusal to_open d caller path) _ _ (bare_all (shut d caller) (λ p. done _ _ refl) (both_ends d caller path))

    revert_files_bare : (taken paths : List (List ℕ)) → IsBare (revert_files d caller taken paths)
    revert_files_bare taken [] = nothing_bare
    revert_files_bare taken (path ∷ paths) =
        bare_both (if is_taken taken path then nothing else revert_file d caller path) (revert_files d caller (both_ends d caller path ++ taken) paths)
        (bare_if (is_taken taken path) nothing (revert_file d caller path) nothing_bare (revert_file_bare path))
        (revert_files_bare (both_ends d caller path ++ taken) paths)

    revert_named_bare : (taken : List (List ℕ)) (a : FileArgument) (files : List (List ℕ)) → IsBare (revert_named d caller taken a files)
    revert_named_bare taken a [] = refused (NotOpen a.text)
    revert_named_bare taken a (path ∷ paths) = revert_files_bare taken (path ∷ paths)

    revert_over_bare : (change : Option ℕ) (taken : List (List ℕ)) (arguments : List FileArgument) → IsBare (revert_over d caller change taken arguments)
    revert_over_bare change taken [] = nothing_bare
    revert_over_bare change taken (a ∷ arguments) =
        let files = selected d caller change a in
        let later = flat_map (both_ends d caller) files ++ taken in
        bare_both (revert_named d caller taken a files) (revert_over d caller change later arguments) (revert_named_bare taken a files)
        (revert_over_bare change later arguments)

    revert_bare : (change : Option ℕ) (arguments : List FileArgument) → IsBare (revert d caller change arguments)
    revert_bare change arguments = bare_within (revert_over d caller change [] arguments) (revert_over_bare change [] arguments)

    -- ---- shelves

    unkeep_bare : (n : ℕ) (path : List ℕ) → IsBare (unkeep d caller n path)
    unkeep_bare n path = bare_refused (right_refusal to_open d caller path) _ _ (done _ _ refl)

    bare_within_forms : (told : Step) → IsBare told → IsBare (within_forms told)
    bare_within_forms told h = bare_unless (_ ∷ _ ∷ []) told h

    shelve_delete_bare : (n : ℕ) (arguments : List FileArgument) → IsBare (shelve_delete d caller n arguments)
    shelve_delete_bare n arguments = bare_unless (change_refusal d caller n ∷ shelf_refusal d caller n ∷ []) _
        (bare_within_forms _ (bare_over_all (named_files true d caller (kept_paths d n)) (unkeep d caller n) (unkeep_bare n) arguments))

    describe_shelved_bare : (n : ℕ) → IsBare (describe_shelved d caller n)
    describe_shelved_bare n = bare_unless (shelf_refusal d caller n ∷ []) _ (shown (pending d n))
      where
        shown : (change : Option Pending) → IsBare (elim change as (λ _. Step) [ None ↦ refuses (NoShelf n) | Some p ↦ tells (describe_kept d caller p ∷ []) ])
        shown None = refused (NoShelf n)
        shown (Some p) = record { rows = (refl, tt) }

-- ---- all commands

module _ (d : List Deed) (request : Request) where
  whole : (command : Command) → IsBare (own_step d request command) → IsBare (whole_step d request command)
  whole command h = bare_unless (common_refusals d request.caller (about command) ++ last_refusals d command) (own_step d request command) h

  abbrev input : List ℕ
  input = unwrap_or request.input []

  -- a command that writes, or one that a replica answers too
  command_bare : (command : Command) → touches command Rev ≡ false → AreBare (answered d request command) → IsBare (whole_step d request command)
  command_bare (commands.CounterSet name value) away told = whole (commands.CounterSet name value) (done _ _ refl)
  command_bare (commands.CounterDelete name) away told = whole (commands.CounterDelete name) (done _ _ refl)
  command_bare commands.ClientSave away told = whole commands.ClientSave (client_save_bare input)
  command_bare commands.LabelSave away told = whole commands.LabelSave (label_save_bare d input)
  command_bare commands.GroupSave away told = whole commands.GroupSave (group_save_bare input)
  command_bare commands.ProtectSave away told = whole commands.ProtectSave (protect_save_bare input)
  command_bare (commands.Revert change files) away told = whole (commands.Revert change files) (revert_bare d request.caller change files)
  command_bare (commands.Reopen change type files) away told = whole (commands.Reopen change type files) (reopen_bare d request.caller change type files)
  command_bare (commands.Lock change files) away told = whole (commands.Lock change files) (lock_bare d request.caller change files)
  command_bare (commands.Unlock change files) away told = whole (commands.Unlock change files) (unlock_bare d request.caller change files)
  command_bare commands.ChangeSave away told = whole commands.ChangeSave (change_save_bare d request input)
  command_bare (commands.ChangeDelete n) away told = whole (commands.ChangeDelete n) (change_delete_bare d request.caller n)
  command_bare commands.JobSave away told = whole commands.JobSave (job_save_bare d input)
  command_bare (commands.Fix n names) away told = whole (commands.Fix n names) (fix_bare d request.caller n names)
  command_bare (commands.FixDelete n names) away told = whole (commands.FixDelete n names) (fix_delete_bare d n names)
  command_bare (commands.ShelveDelete n files) away told = whole (commands.ShelveDelete n files) (shelve_delete_bare d request.caller n files)
  command_bare (commands.DescribeShelved n) away told = whole (commands.DescribeShelved n) (describe_shelved_bare d request.caller n)
  command_bare (commands.Add change type paths) away told = absurd cc
  command_bare (commands.Edit change type files) away told = absurd cc
  command_bare (commands.Delete change files) away told = absurd cc
  command_bare (commands.Move change from to) away told = absurd cc
  command_bare (commands.SubmitChange n) away told = absurd cc
  command_bare (commands.SubmitDefault text) away told = absurd cc
  command_bare (commands.Sync again shows files) away told = absurd cc
  command_bare (commands.Tag label removes files) away told = absurd cc
  command_bare (commands.LabelSync label labelling files) away told = absurd cc
  command_bare (commands.Integrate change from to) away told = absurd cc
  command_bare (commands.Resolve taking files) away told = absurd cc
  command_bare (commands.Shelve n replaces files) away told = absurd cc
  command_bare (commands.Unshelve n change files) away told = absurd cc
  command_bare commands.Checkpoint away told = absurd cc
  command_bare _ away told = record { rows = told }

  prints_not : (command : Command) → touches command Rev ≡ false → is_print command ≡ false
  prints_not (commands.Print files) away = absurd cc
  prints_not _ away = refl

  -- the rows of a replica's reply, and the step, of what was asked
  abbrev reply_by : Result Command WordFault → List Row
  reply_by asked = elim asked [ Err fault ↦ refusal_row (word_refusal fault) ∷ [] | Ok command ↦ answered d request command ]

  abbrev rows_by : Result Command WordFault → List Row
  rows_by asked = (elim asked as (λ _. Step) [ Err fault ↦ refuses (word_refusal fault) | Ok command ↦ whole_step d request command ]).rows

  pub nothing_read : (command : Command) → request.command ≡ Ok command → touches command Rev ≡ false → contents_of (step d request).rows ≡ []
  nothing_read command is away =
      let told : AreBare (replica_reply d request) = reply_bare d request (ap prints is ∙ prints_not command away) in
      let bare = command_bare command away (subst AreBare (ap reply_by is) told) in
      ap (λ (asked : Result Command WordFault). contents_of (rows_by asked)) is ∙ none_told (whole_step d request command).rows bare.rows
