-- `filelog`, `integrated`, `print`, `describe`, `dirs`, `fstat` (Command-Line Reference, the pages of these commands).
use Rattle.std.specs.Prelude.{ℕ, ◌==◌, ◌+◌, List, [], ◌∷◌, ◌++◌, length, map, filter, filter_map, flat_map, find, reverse, take, drop, codes, if◌then◌else◌, Option, Some, None, Ok, Err, Bool, false, not, ◌&&◌, decimal}
use Rattle.std.specs.List.{list_any, enumerate_from, slice_split}
use Rattle.std.specs.Ordering.{is_lt}
use Rattle.db_records.specs.depot_path.Bytes.{same}
use Rattle.db_records.specs.depot_path.Path.{printed, path_of}
use Rattle.db_records.specs.depot_path.Fit.{fits}
use Rattle.db_records.specs.depot_path.declared.piece.Piece.{Piece}
use Rattle.db_records.specs.depot_path.declared.revision.Wanted.TheVariants.{Head}
use Rattle.view_map.specs.Mapping.{path_in}
use Rattle.db_records.specs.Key.{key_cmp}
use Rattle.db_records.specs.Record.{key_of}
use Rattle.db_records.specs.declared.record.Record.TheVariants.{Integed}
use Rattle.db_records.specs.declared.rows.IntegedRecord.{IntegedRecord}
use Rattle.depot_model.specs.declared.request.Caller.{Caller}
use Rattle.depot_model.specs.declared.command.FileArgument.{FileArgument}
use Rattle.depot_model.specs.declared.reply.Row.{Row}
use Rattle.depot_model.specs.declared.reply.Field.{Field}
use Rattle.depot_model.specs.declared.refusal.Refusal.TheVariants.{NoSuchFile, NoSuchChange}
use Rattle.depot_model.specs.Deeds.{Deed, Landing, Opening}
use Rattle.depot_model.specs.Latest.{have}
use Rattle.depot_model.specs.Revisions.{Revision, revisions, revision, is_live_head}
use Rattle.depot_model.specs.Opened.{opened}
use Rattle.depot_model.specs.Numbers.{pending, landing}
use Rattle.depot_model.specs.Asking.{view, may_list, to_read}
use Rattle.depot_model.specs.Choice.{shown}
use Rattle.depot_model.specs.Arguments.{named, submitted, over, in_client_syntax, no_file}
use Rattle.depot_model.specs.Sorted.{all_inserted}
use Rattle.depot_model.specs.Rows.{row, path_field, number_field, text_field, if_any, action_word}
use Rattle.depot_model.specs.Refusals.{refusal_row}
use Rattle.depot_model.specs.Step.{Step, nothing, tells, refuses, unless, refuse_if}
use Rattle.depot_model.specs.Steps.Opening.{right_refusal}
use Rattle.depot_model.specs.Steps.Listing.{Numbered, chosen_revision, listed}
use Rattle.depot_model.specs.Steps.Changing.{files_of_change}
use Rattle.depot_model.specs.Records.{digest, integrations, is_at}

-- ---- integration records, in key order, each key once

abbrev pub integed_inserted : IntegedRecord → List IntegedRecord → List IntegedRecord
integed_inserted r [] = r ∷ []
integed_inserted r (s ∷ records) =
    if is_at (key_of (Integed r)) (key_of (Integed s)) then r ∷ records else
    (if is_lt (key_cmp (key_of (Integed r)) (key_of (Integed s))) then r ∷ s ∷ records else s ∷ integed_inserted r records)

abbrev pub in_key_order : List IntegedRecord → List IntegedRecord
in_key_order [] = []
in_key_order (r ∷ records) = integed_inserted r (in_key_order records)

abbrev pub may_list_text : List Deed → Caller → List ℕ → Bool
may_list_text d caller text = elim (path_of text) [ Err fault ↦ false | Ok path ↦ may_list d caller path ]

-- the records of a file whose other file the caller may list
abbrev pub records_of : List Deed → Caller → List ℕ → List IntegedRecord
records_of d caller path =
    in_key_order (filter (λ (r : IntegedRecord). same r.to_file (printed path) && may_list_text d caller r.from_file) (integrations d))

abbrev pub integrated_row : IntegedRecord → Row
integrated_row r = row (
    text_field (codes "toFile") r.to_file ∷ text_field (codes "fromFile") r.from_file ∷ number_field (codes "startToRev") r.start_to
    ∷ number_field (codes "endToRev") r.end_to
    ∷ number_field (codes "startFromRev") r.start_from ∷ number_field (codes "endFromRev") r.end_from ∷ text_field (codes "how") r.how
    ∷ number_field (codes "change") r.change ∷ [])

abbrev pub integrated : List Deed → Caller → List FileArgument → Step
integrated d caller files =
    over (named false d caller (submitted d)) no_file (λ _ path. tells (map integrated_row (records_of d caller path))) [] files

-- ---- filelog

abbrev pub record_fields : List ℕ → ℕ × IntegedRecord → List Field
record_fields revision r =
    let index = revision ++ codes "," ++ decimal r.0 in
    text_field (codes "how" ++ index) (r.1).how ∷ text_field (codes "file" ++ index) (r.1).from_file
    ∷ number_field (codes "srev" ++ index) (r.1).start_from ∷ number_field (codes "erev" ++ index) (r.1).end_from ∷ []

abbrev pub log_fields : List Deed → Caller → List ℕ → ℕ × Numbered → List Field
log_fields d caller path item =
    let index = decimal item.0 in
    let r = item.1 in
    number_field (codes "rev" ++ index) r.number ∷ number_field (codes "change" ++ index) r.made.landing.change
    ∷ text_field (codes "action" ++ index) (action_word r.made.entry.action) ∷ text_field (codes "type" ++ index) r.made.entry.file_type
    ∷ number_field (codes "time" ++ index) r.made.landing.moment ∷ text_field (codes "user" ++ index) r.made.landing.user
    ∷ text_field (codes "client" ++ index) r.made.landing.client
    ∷ if_any (λ (content : List ℕ). number_field (codes "fileSize" ++ index) (length content)) r.made.entry.content
    ++ if_any (λ (content : List ℕ). text_field (codes "digest" ++ index) (digest content)) r.made.entry.content
    ++ text_field (codes "desc" ++ index) r.made.landing.text
    ∷ flat_map (record_fields index) (enumerate_from 0 (filter (λ (i : IntegedRecord). i.end_to == r.number) (records_of d caller path)))

-- the revisions up to one, the newest first
abbrev pub numbered_from : ℕ → List Revision → List Numbered
numbered_from n [] = []
numbered_from n (r ∷ revs) = record { number = n; made = r } ∷ numbered_from (n + 1) revs

abbrev pub up_to : List Deed → List ℕ → ℕ → List Numbered
up_to d path n = reverse (take n (numbered_from 1 (revisions d path)))

abbrev pub log_file : List Deed → Caller → FileArgument → List ℕ → Step
log_file d caller argument path = elim (chosen_revision d caller argument path) [
  | None ↦ nothing
  | Some r ↦ tells (row (path_field (codes "depotFile") path ∷ flat_map (log_fields d caller path) (enumerate_from 0 (up_to d path r.number))) ∷ [])
]

abbrev pub filelog : List Deed → Caller → List FileArgument → Step
filelog d caller files = over (listed d caller) no_file (log_file d caller) [] files

-- ---- print

abbrev pub print_row : List ℕ → Numbered → Row
print_row path r = record {
  fields = path_field (codes "depotFile") path ∷ number_field (codes "rev") r.number ∷ number_field (codes "change") r.made.landing.change
      ∷ text_field (codes "action") (action_word r.made.entry.action) ∷ text_field (codes "type") r.made.entry.file_type
      ∷ if_any (λ (content : List ℕ). number_field (codes "fileSize") (length content)) r.made.entry.content;
  content = r.made.entry.content;
}

abbrev pub print_chosen : List Deed → Caller → FileArgument → List ℕ → Step
print_chosen d caller argument path = elim (chosen_revision d caller argument path) [ None ↦ nothing | Some r ↦ tells (print_row path r ∷ []) ]

abbrev pub print : List Deed → Caller → List FileArgument → Step
print d caller files =
    over (listed d caller) no_file (λ argument path. unless (right_refusal to_read d caller path ∷ []) (print_chosen d caller argument path)) [] files

-- ---- describe

abbrev pub describe_fields : List Deed → ℕ × Numbered → List Field
describe_fields d item =
    let index = decimal item.0 in
    let r = item.1 in
    path_field (codes "depotFile" ++ index) r.made.entry.path ∷ text_field (codes "action" ++ index) (action_word r.made.entry.action)
    ∷ text_field (codes "type" ++ index) r.made.entry.file_type ∷ number_field (codes "rev" ++ index) r.number
    ∷ if_any (λ (content : List ℕ). number_field (codes "fileSize" ++ index) (length content)) r.made.entry.content
    ++ if_any (λ (content : List ℕ). text_field (codes "digest" ++ index) (digest content)) r.made.entry.content

abbrev pub change_fields : ℕ → List ℕ → List ℕ → ℕ → List ℕ → List ℕ → List Field
change_fields change user client moment status text =
    number_field (codes "change") change ∷ text_field (codes "user") user ∷ text_field (codes "client") client
    ∷ number_field (codes "time") moment ∷ text_field (codes "status") status ∷ text_field (codes "desc") text ∷ []

-- the revision of a path that a change made
abbrev pub made_in : List Deed → ℕ → List ℕ → Option Numbered
made_in d n path = find (λ (r : Numbered). r.made.landing.change == n) (numbered_from 1 (revisions d path))

abbrev pub landed_files : List Deed → Caller → ℕ → List Numbered
landed_files d caller n = filter_map (made_in d n) (filter (may_list d caller) (files_of_change d n))

abbrev pub describe_landed : List Deed → Caller → Landing → Step
describe_landed d caller l = unless (refuse_if (length (landed_files d caller l.change) == 0) (NoSuchChange l.change) ∷ [])
    (tells (row (change_fields l.change l.user l.client l.moment (codes "submitted") l.text ++ flat_map (describe_fields d) (enumerate_from 0 (landed_files d caller l.change))) ∷ []))

abbrev pub describe_pending : List Deed → ℕ → Step
describe_pending d n = elim (pending d n) [
  | None ↦ refuses (NoSuchChange n)
  | Some p ↦ tells (row (change_fields p.change p.user p.client p.moment (codes "pending") p.text) ∷ [])
]

abbrev pub describe : List Deed → Caller → ℕ → Step
describe d caller n = elim (landing d n) [ None ↦ describe_pending d n | Some l ↦ describe_landed d caller l ]

-- ---- dirs

-- the directories above a path: the path's fronts that end before a slash, from the second component on
abbrev pub fronts : List ℕ → List (List ℕ) → List (List ℕ)
fronts before [] = []
fronts before (part ∷ []) = []
fronts before (part ∷ next ∷ parts) = (before ++ 0x2F ∷ part) ∷ fronts (before ++ 0x2F ∷ part) (next ∷ parts)

abbrev pub directories : List ℕ → List (List ℕ)
directories path = fronts (0x2F ∷ []) (slice_split (λ b. b == 0x2F) (drop 2 path))

-- the paths whose directories an argument asks for: depot paths, or client paths at which files are shown
abbrev pub seen_paths : List Deed → Caller → List Piece → List (List ℕ)
seen_paths d caller pattern =
    let live = filter (λ path. may_list d caller path && is_live_head d path) (submitted d) in
    if in_client_syntax caller.client pattern then filter_map (shown d caller Head) live else live

abbrev pub dirs_of : List Deed → Caller → List Piece → List (List ℕ)
dirs_of d caller pattern = filter (fits pattern) (all_inserted (flat_map directories (seen_paths d caller pattern)) [])

abbrev pub dir_row : List ℕ → Row
dir_row path = row (path_field (codes "dir") path ∷ [])

-- the row of an argument that names no directory
abbrev pub no_dir : FileArgument → List (List ℕ) → List Row
no_dir argument [] = refusal_row (NoSuchFile argument.text) ∷ []
no_dir argument (_ ∷ _) = []

abbrev pub dirs_after : List Deed → Caller → List (List ℕ) → List FileArgument → List Row
dirs_after d caller taken [] = []
dirs_after d caller taken (a ∷ arguments) =
    no_dir a (dirs_of d caller a.spec.pattern)
    ++ map dir_row (filter (λ path. not (list_any (same path) taken)) (dirs_of d caller a.spec.pattern))
    ++ dirs_after d caller (taken ++ dirs_of d caller a.spec.pattern) arguments

abbrev pub dirs : List Deed → Caller → List FileArgument → Step
dirs d caller arguments = tells (dirs_after d caller [] arguments)

-- ---- fstat

abbrev pub stat_row : List Deed → Caller → List ℕ → Numbered → Row
stat_row d caller path r = row (
    path_field (codes "depotFile") path ∷ if_any (path_field (codes "clientFile")) (path_in (view d caller.client) path)
    ++ text_field (codes "headAction") (action_word r.made.entry.action) ∷ text_field (codes "headType") r.made.entry.file_type
    ∷ number_field (codes "headTime") r.made.landing.moment ∷ number_field (codes "headRev") r.number
    ∷ number_field (codes "headChange") r.made.landing.change
    ∷ (if have d caller.client path == 0 then [] else number_field (codes "haveRev") (have d caller.client path) ∷ [])
    ++ if_any (λ (o : Opening). text_field (codes "action") (action_word o.action)) (opened d caller.client path))

abbrev pub stat_file : List Deed → Caller → FileArgument → List ℕ → Step
stat_file d caller argument path = elim (chosen_revision d caller argument path) [ None ↦ nothing | Some r ↦ tells (stat_row d caller path r ∷ []) ]

abbrev pub fstat : List Deed → Caller → List FileArgument → Step
fstat d caller files = over (listed d caller) no_file (stat_file d caller) [] files
