-- A replica's reply to anything but `print` has no contents.
use Rattle.std.proofs.Common.{◌≡◌, ℕ, Bool, true, false, cond, List, [], ◌∷◌, ◌++◌, map, Option, Some, None, Result, Ok, Err, refl}
use Rattle.std.specs.Prelude.{◌&&◌, ◌==◌, codes, decimal, filter, filter_map, flat_map, length, option_map, not, unwrap_or}
use Rattle.std.specs.List.{cons_option, enumerate_from, list_any}
use Rattle.std.proofs.lemmas.Bool.{true≢false}
use Rattle.depot_model.specs.depot_path.Bytes.{same}
use Rattle.depot_model.specs.view_map.Mapping.{path_in}
use Rattle.depot_model.specs.spec_form.Form.{FormValue}
use Rattle.depot_model.specs.declared.command.Command.{Command}
use Rattle.depot_model.specs.declared.command.Command.TheVariants as commands
use Rattle.depot_model.specs.declared.command.FileArgument.{FileArgument}
use Rattle.depot_model.specs.declared.refusal.Refusal.{Refusal}
use Rattle.depot_model.specs.declared.refusal.Refusal.TheVariants.{BadUsage, NoSuchChange, NoSuchFile, NoSuchJob, NotInView, NotOpen, ReadOnly}
use Rattle.depot_model.specs.declared.reply.Row.{Row}
use Rattle.depot_model.specs.declared.request.Caller.{Caller}
use Rattle.depot_model.specs.declared.request.Request.{Request}
use Rattle.depot_model.specs.declared.request.WordFault.{WordFault}
use Rattle.depot_model.specs.Arguments.{each_or, everything, had, named as named_files, no_file, not_in, over, over_all, submitted}
use Rattle.depot_model.specs.About.{about}
use Rattle.depot_model.specs.Asking.{view}
use Rattle.depot_model.specs.Commands.{own_step, whole_step}
use Rattle.depot_model.specs.Common.{common_refusals, last_refusals, word_refusal}
use Rattle.depot_model.specs.Deeds.{ClientForm, Deed, LabelForm, Landing, Pending}
use Rattle.depot_model.specs.Fixes.{fixes_on, job, job_names}
use Rattle.depot_model.specs.Latest.{count_name, keys_of, spec, spec_name}
use Rattle.depot_model.specs.Numbers.{landing, pending}
use Rattle.depot_model.specs.Opened.{opened}
use Rattle.depot_model.specs.Refusals.{refusal_row}
use Rattle.depot_model.specs.Revisions.{is_live}
use Rattle.depot_model.specs.Rows.{path_field, row}
use Rattle.depot_model.specs.FormRows.{form_fields}
use Rattle.depot_model.specs.Sorted.{inserted}
use Rattle.depot_model.specs.Step.{Step, all_of, nothing, refuse_if, refuses, tells, unless}
use Rattle.depot_model.specs.Steps.Changes.{Listed, at_most, change_row, is_made, listed as listed_change, missing, numbers, passes}
use Rattle.depot_model.specs.Steps.Changing.{change_row as shown_change, change_show, listable, openings_in, show_landed}
use Rattle.depot_model.specs.Steps.Counters.{counter_of, counter_row}
use Rattle.depot_model.specs.Steps.History.{change_fields, describe, describe_fields, describe_landed, describe_pending, dir_row, dirs_after, dirs_of, integrated_row, landed_files, log_fields, log_file, no_dir, records_of, stat_file, stat_row, up_to}
use Rattle.depot_model.specs.Steps.Jobs.{fix_row, is_wanted, job_row, job_show}
use Rattle.depot_model.specs.Steps.Labels.{label_row, listed}
use Rattle.depot_model.specs.Steps.Clients.{client_row}
use Rattle.depot_model.specs.Steps.Listing.{Numbered, chosen_revision, file_row, listed as listed_files, tells_file, tells_revision}
use Rattle.depot_model.specs.Steps.Placing.{have_row, place_row, tell_place, told}
use Rattle.depot_model.specs.Steps.Reverting.{not_open, opened_files, opened_row, openers_shown, show_opened}
use Rattle.depot_runs.specs.Replica.{answered, replica_reply}
use Rattle.reply_rows.proofs.Bare.{AreBare, refusal_bare}
use Rattle.replica_replies.specs.Prints.{is_print, prints}

-- ---- rows

both_bare : (a b : List Row) → AreBare a → AreBare b → AreBare (a ++ b)
both_bare [] b h k = k
both_bare (row ∷ a) b h k = (h.0, both_bare a b h.1 k)

map_bare : {A : Type 0} (f : A → Row) → ((x : A) → (f x).content ≡ None) → (xs : List A) → AreBare (map f xs)
map_bare f h [] = tt
map_bare f h (x ∷ xs) = (h x, map_bare f h xs)

some_bare : {A : Type 0} (f : A → Row) → ((x : A) → (f x).content ≡ None) → (o : Option A) (rows : List Row) → AreBare rows → AreBare (cons_option (option_map f o) rows)
some_bare f h None rows bare = bare
some_bare f h (Some x) rows bare = (h x, bare)

flat_bare : {A : Type 0} (f : A → List Row) → ((x : A) → AreBare (f x)) → (xs : List A) → AreBare (flat_map f xs)
flat_bare f h [] = tt
flat_bare f h (x ∷ xs) = both_bare (f x) (flat_map f xs) (h x) (flat_bare f h xs)

-- ---- steps

pub refuses_bare : (why : Refusal) → AreBare (refuses why).rows
refuses_bare why = (refusal_bare why, tt)

unless_bare : (tests : List (Option Refusal)) (step : Step) → AreBare step.rows → AreBare (unless tests step).rows
unless_bare [] step bare = bare
unless_bare (None ∷ tests) step bare = unless_bare tests step bare
unless_bare (Some why ∷ tests) step bare = refuses_bare why

all_bare : {A : Type 0} (act : A → Step) → ((x : A) → AreBare (act x).rows) → (xs : List A) → AreBare (all_of act xs).rows
all_bare act h [] = tt
all_bare act h (x ∷ xs) = both_bare (act x).rows (all_of act xs).rows (h x) (all_bare act h xs)

module _ (paths : FileArgument → List (List ℕ)) (missing : FileArgument → Step) (act : FileArgument → List ℕ → Step)
    (act_bare : (a : FileArgument) (path : List ℕ) → AreBare (act a path).rows) where
  over_bare : ((a : FileArgument) → AreBare (missing a).rows) → (taken : List (List ℕ)) (arguments : List FileArgument) → AreBare (over paths missing act taken arguments).rows
  over_bare h taken [] = tt
  over_bare h taken (a ∷ arguments) =
      both_bare (each_or (missing a) (act a) (paths a) (not_in taken (paths a))).rows (over paths missing act (taken ++ paths a) arguments).rows
      (each (paths a)) (over_bare h (taken ++ paths a) arguments)
    where
      each : (named : List (List ℕ)) → AreBare (each_or (missing a) (act a) named (not_in taken (paths a))).rows
      each [] = h a
      each (path ∷ others) = all_bare (act a) (act_bare a) (not_in taken (paths a))

over_all_bare : (paths : FileArgument → List (List ℕ)) (missing : FileArgument → Step) (act : FileArgument → List ℕ → Step)
    → ((a : FileArgument) (path : List ℕ) → AreBare (act a path).rows) → ((a : FileArgument) → AreBare (missing a).rows) → (arguments : List FileArgument)
    → AreBare (over_all paths missing act arguments).rows
over_all_bare paths missing act h k [] = over_bare paths (λ a. nothing) act h (λ a. tt) [] (everything ∷ [])
over_all_bare paths missing act h k (a ∷ arguments) = over_bare paths missing act h k [] (a ∷ arguments)

-- ---- commands

counters_bare : (d : List Deed) (names : List (List ℕ)) → AreBare (filter_map (λ name. option_map (counter_row name) (counter_of d name)) names)
counters_bare d [] = tt
counters_bare d (name ∷ names) = some_bare (counter_row name) (λ n. refl) (counter_of d name) _ (counters_bare d names)

labels_bare : (d : List Deed) (names : List (List ℕ)) → AreBare (filter_map (λ name. option_map (listed name) (spec d LabelForm name)) names)
labels_bare d [] = tt
labels_bare d (name ∷ names) = some_bare (listed name) (λ form. refl) (spec d LabelForm name) _ (labels_bare d names)

client_bare : (name : List ℕ) (form : Option FormValue) → (client_row name form).content ≡ None
client_bare name None = refl
client_bare name (Some form) = refl

label_bare : (name : List ℕ) (form : Option FormValue) → (label_row name form).content ≡ None
label_bare name None = refl
label_bare name (Some form) = refl

-- a row that is told where something is found, and something else where it isn't
or_else : {A : Type 0} (other : Step) (f : A → Row) → AreBare other.rows → ((x : A) → (f x).content ≡ None) → (o : Option A)
    → AreBare (elim o as (λ _. Step) [ None ↦ other | Some x ↦ tells (f x ∷ []) ]).rows
or_else other f h k None = h
or_else other f h k (Some x) = (k x, tt)

told_if : (b : Bool) (made : Row) → made.content ≡ None → AreBare (cond b nothing (tells (made ∷ []))).rows
told_if true made bare = tt
told_if false made bare = (bare, tt)

module _ (d : List Deed) (caller : Caller) where
  file_bare : (live : Bool) (a : FileArgument) (path : List ℕ) → AreBare (tells_file live d caller a path).rows
  file_bare live a path = go (chosen_revision d caller a path)
    where
      go : (o : Option Numbered) → AreBare (elim o as (λ _. Step) [ None ↦ nothing | Some r ↦ tells_revision live path r ]).rows
      go None = tt
      go (Some r) = told_if (live && not (is_live r.made)) (file_row path r) refl

  dirs_bare : (taken : List (List ℕ)) (arguments : List FileArgument) → AreBare (dirs_after d caller taken arguments)
  dirs_bare taken [] = tt
  dirs_bare taken (a ∷ arguments) =
      let found = dirs_of d caller a.spec.pattern in
      let new : List (List ℕ) = filter (λ path. not (list_any (same path) taken)) found in
      both_bare (no_dir a found ++ map dir_row new) (dirs_after d caller (taken ++ found) arguments)
      (both_bare (no_dir a found) (map dir_row new) (none found) (map_bare dir_row (λ path. refl) new)) (dirs_bare (taken ++ found) arguments)
    where
      none : (found : List (List ℕ)) → AreBare (no_dir a found)
      none [] = (refusal_bare (NoSuchFile a.text), tt)
      none (path ∷ found) = tt

  missing_bare : (a : FileArgument) → AreBare (missing d caller a)
  missing_bare a = go (length (named_files false d caller (submitted d) a) == 0)
    where
      go : (b : Bool) → AreBare (cond b (refusal_row (NoSuchFile a.text) ∷ []) [])
      go true = (refusal_bare (NoSuchFile a.text), tt)
      go false = tt

  describe_bare : (n : ℕ) → AreBare (describe d caller n).rows
  describe_bare n = go (landing d n)
    where
      go : (o : Option Landing) → AreBare (elim o as (λ _. Step) [ None ↦ describe_pending d n | Some l ↦ describe_landed d caller l ]).rows
      go None =
          or_else (refuses (NoSuchChange n)) (λ (p : Pending). row (change_fields p.change p.user p.client p.moment (codes "pending") p.text))
          (refuses_bare (NoSuchChange n)) (λ p. refl) (pending d n)
      go (Some l) =
          let there = landed_files d caller l.change in
          unless_bare (refuse_if (length there == 0) (NoSuchChange l.change) ∷ [])
          (tells (row (change_fields l.change l.user l.client l.moment (codes "submitted") l.text ++ flat_map (describe_fields d) (enumerate_from 0 there)) ∷ []))
          (refl, tt)

  change_bare : (n : Option ℕ) → AreBare (change_show d caller n).rows
  change_bare None = (refl, tt)
  change_bare (Some n) =
      or_else (show_landed d n) (λ (p : Pending). shown_change (decimal n) p.client p.user (codes "pending") p.text (listable d caller (openings_in d p)))
      (or_else (refuses (NoSuchChange n)) (λ (l : Landing). shown_change (decimal n) l.client l.user (codes "submitted") l.text []) (refuses_bare (NoSuchChange n)) (λ l. refl) (landing d n))
      (λ p. refl) (pending d n)

  job_bare : (name : Option (List ℕ)) → AreBare (job_show d caller name).rows
  job_bare None = (refl, tt)
  job_bare (Some name) = or_else (refuses (NoSuchJob name)) (λ (form : FormValue). row (form_fields form)) (refuses_bare (NoSuchJob name)) (λ form. refl) (job d name)

-- ---- all commands

module _ (d : List Deed) (request : Request) where
  abbrev caller : Caller
  caller = request.caller

  refused : (command : Command) → AreBare (refusal_row (ReadOnly (about command).word) ∷ [])
  refused command = refuses_bare (ReadOnly (about command).word)

  whole : (command : Command) → AreBare (own_step d request command).rows → AreBare (whole_step d request command).rows
  whole command bare = unless_bare (common_refusals d caller (about command) ++ last_refusals d command) (own_step d request command) bare

  -- the changes that are listed, and the row of a file's log
  abbrev changes_shown : Option ℕ → Option (List ℕ) → Option (List ℕ) → Option (List ℕ) → List FileArgument → List Listed
  changes_shown most status user client named =
      at_most most (filter (λ l. passes status l.status && passes user l.user && passes client l.client)
      (filter_map (listed_change d caller) (filter (is_made d caller named) (numbers d))))

  abbrev log_row : List ℕ → Numbered → Row
  log_row path r = row (path_field (codes "depotFile") path ∷ flat_map (log_fields d caller path) (enumerate_from 0 (up_to d path r.number)))

  command_bare : (command : Command) → is_print command ≡ false → AreBare (answered d request command)
  command_bare (commands.CounterShow name) other = whole (commands.CounterShow name) (refl, tt)
  command_bare commands.Counters other = whole commands.Counters (counters_bare d (inserted (codes "change") (keys_of count_name d)))
  command_bare (commands.ClientShow name) other = whole (commands.ClientShow name) (client_bare (unwrap_or name caller.client) (spec d ClientForm (unwrap_or name caller.client)), tt)
  command_bare (commands.LabelShow name) other = whole (commands.LabelShow name) (label_bare name (spec d LabelForm name), tt)
  command_bare commands.Labels other = whole commands.Labels (labels_bare d (keys_of (spec_name LabelForm) d))
  command_bare (commands.GroupShow name) other = whole (commands.GroupShow name) (refl, tt)
  command_bare commands.ProtectShow other = whole commands.ProtectShow (refl, tt)
  command_bare (commands.Where paths) other = whole (commands.Where paths) (over_bare (told d caller) (λ a. refuses (NotInView a.text)) (λ _. tell_place d caller)
      (λ a path. or_else nothing (place_row path) tt (λ place. refl) (path_in (view d caller.client) path)) (λ a. refuses_bare (NotInView a.text)) [] paths)
  command_bare (commands.Opened all named) other = whole (commands.Opened all named) (over_all_bare (named_files true d caller (opened_files all d caller)) not_open (show_opened all d caller)
      (λ a path. map_bare (opened_row d) (λ o. refl) (filter_map (λ client. opened d client path) (openers_shown all d caller path))) (λ a. refuses_bare (NotOpen a.text)) named)
  command_bare (commands.ChangeShow change) other = whole (commands.ChangeShow change) (change_bare d caller change)
  command_bare (commands.Changes most status user client named) other = whole (commands.Changes most status user client named) (both_bare (flat_map (missing d caller) named) (map change_row (changes_shown most status user client named)) (flat_bare (missing d caller) (missing_bare d caller) named)
      (map_bare change_row (λ l. refl) (changes_shown most status user client named)))
  command_bare (commands.Have named) other = whole (commands.Have named) (over_all_bare (named_files true d caller (had d caller.client)) no_file (λ _ path. tells (have_row d caller path ∷ [])) (λ a path. (refl, tt)) (λ a. refuses_bare (NoSuchFile a.text)) named)
  command_bare (commands.Integrated named) other = whole (commands.Integrated named) (over_bare (named_files false d caller (submitted d)) no_file (λ _ path. tells (map integrated_row (records_of d caller path)))
      (λ a path. map_bare integrated_row (λ r. refl) (records_of d caller path)) (λ a. refuses_bare (NoSuchFile a.text)) [] named)
  command_bare (commands.Files live named) other = whole (commands.Files live named) (over_bare (listed_files d caller) no_file (tells_file live d caller) (λ a path. file_bare d caller live a path) (λ a. refuses_bare (NoSuchFile a.text)) [] named)
  command_bare (commands.FileLog named) other = whole (commands.FileLog named) (over_bare (listed_files d caller) no_file (log_file d caller)
      (λ a path. or_else nothing (log_row path) tt (λ r. refl) (chosen_revision d caller a path)) (λ a. refuses_bare (NoSuchFile a.text)) [] named)
  command_bare (commands.FileStat named) other = whole (commands.FileStat named) (over_bare (listed_files d caller) no_file (stat_file d caller)
      (λ a path. or_else nothing (stat_row d caller path) tt (λ r. refl) (chosen_revision d caller a path)) (λ a. refuses_bare (NoSuchFile a.text)) [] named)
  command_bare (commands.Describe change) other = whole (commands.Describe change) (describe_bare d caller change)
  command_bare (commands.Dirs patterns) other = whole (commands.Dirs patterns) (dirs_bare d caller [] patterns)
  command_bare (commands.JobShow name) other = whole (commands.JobShow name) (job_bare d caller name)
  command_bare commands.Jobs other = whole commands.Jobs (map_bare job_row (λ form. refl) (filter_map (job d) (job_names d)))
  command_bare (commands.Fixes change name) other = whole (commands.Fixes change name) (map_bare fix_row (λ form. refl) (filter (is_wanted change name) (fixes_on d)))
  command_bare commands.Pull other = whole commands.Pull (refuses_bare (BadUsage (codes "pull")))
  command_bare (commands.CounterSet name value) other = refused (commands.CounterSet name value)
  command_bare (commands.CounterDelete name) other = refused (commands.CounterDelete name)
  command_bare commands.ClientSave other = refused commands.ClientSave
  command_bare commands.LabelSave other = refused commands.LabelSave
  command_bare commands.GroupSave other = refused commands.GroupSave
  command_bare commands.ProtectSave other = refused commands.ProtectSave
  command_bare (commands.Add change file_type paths) other = refused (commands.Add change file_type paths)
  command_bare (commands.Edit change file_type named) other = refused (commands.Edit change file_type named)
  command_bare (commands.Delete change named) other = refused (commands.Delete change named)
  command_bare (commands.Move change from to) other = refused (commands.Move change from to)
  command_bare (commands.Revert change named) other = refused (commands.Revert change named)
  command_bare (commands.Reopen change file_type named) other = refused (commands.Reopen change file_type named)
  command_bare (commands.Lock change named) other = refused (commands.Lock change named)
  command_bare (commands.Unlock change named) other = refused (commands.Unlock change named)
  command_bare commands.ChangeSave other = refused commands.ChangeSave
  command_bare (commands.ChangeDelete change) other = refused (commands.ChangeDelete change)
  command_bare (commands.SubmitChange change) other = refused (commands.SubmitChange change)
  command_bare (commands.SubmitDefault text) other = refused (commands.SubmitDefault text)
  command_bare (commands.Sync again shows named) other = refused (commands.Sync again shows named)
  command_bare (commands.Tag label removes named) other = refused (commands.Tag label removes named)
  command_bare (commands.LabelSync label labelling named) other = refused (commands.LabelSync label labelling named)
  command_bare (commands.Integrate change from to) other = refused (commands.Integrate change from to)
  command_bare (commands.Resolve taking named) other = refused (commands.Resolve taking named)
  command_bare commands.JobSave other = refused commands.JobSave
  command_bare (commands.Fix change names) other = refused (commands.Fix change names)
  command_bare (commands.FixDelete change names) other = refused (commands.FixDelete change names)
  command_bare commands.Checkpoint other = refused commands.Checkpoint
  command_bare (commands.Shelve change replaces named) other = refused (commands.Shelve change replaces named)
  command_bare (commands.ShelveDelete change named) other = refused (commands.ShelveDelete change named)
  command_bare (commands.Unshelve shelved change named) other = refused (commands.Unshelve shelved change named)
  command_bare (commands.DescribeShelved change) other = refused (commands.DescribeShelved change)
  command_bare (commands.Print named) other = absurd (true≢false other)

  pub reply_bare : prints request.command ≡ false → AreBare (replica_reply d request)
  reply_bare other = go request.command other
    where
      go : (asked : Result Command WordFault) → prints asked ≡ false
          → AreBare (elim asked as (λ _. List Row) [ Err fault ↦ refusal_row (word_refusal fault) ∷ [] | Ok command ↦ answered d request command ])
      go (Err fault) other = refuses_bare (word_refusal fault)
      go (Ok command) other = command_bare command other
