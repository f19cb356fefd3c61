-- `resolve -at`, `resolve -ay` (Command-Line Reference, "p4 resolve").
use Rattle.std.specs.Prelude.{ℕ, List, [], ◌∷◌, map, filter, codes, if◌then◌else◌, Some, None, is_none, false}
use Rattle.db_records.specs.depot_path.Bytes.{same}
use Rattle.depot_model.specs.declared.request.Caller.{Caller}
use Rattle.depot_model.specs.declared.command.FileArgument.{FileArgument}
use Rattle.depot_model.specs.declared.command.Taking.{Taking}
use Rattle.depot_model.specs.declared.command.Taking.TheVariants.{Theirs, Yours}
use Rattle.depot_model.specs.declared.reply.Row.{Row}
use Rattle.depot_model.specs.Deeds.{Deed, Open, Got, Paid, Shut, Opening, Owing, Held, Source, How, CopyFrom, Ignored}
use Rattle.depot_model.specs.Revisions.{is_live_at}
use Rattle.depot_model.specs.Opened.{opened, Resolve}
use Rattle.depot_model.specs.Arguments.{named, opened_by, over_all, within_files}
use Rattle.depot_model.specs.Rows.{row, path_field, number_field, text_field, how_word}
use Rattle.depot_model.specs.Step.{Step, nothing, does, unless, both, after}
use Rattle.depot_model.specs.Steps.Opening.{right_refusal}
use Rattle.depot_model.specs.Steps.Reverting.{not_open}
use Rattle.depot_model.specs.Steps.Submitting.{resolves_of, is_unpaid}
use Rattle.depot_model.specs.Asking.{to_open}

abbrev pub how_of : Taking → How
how_of Theirs = CopyFrom
how_of Yours = Ignored

abbrev pub resolve_row : Owing → How → Row
resolve_row r how = row (
    path_field (codes "toFile") r.path ∷ path_field (codes "fromFile") r.from ∷ number_field (codes "startFromRev") r.first
    ∷ number_field (codes "endFromRev") r.last ∷ text_field (codes "how") (how_word how) ∷ [])

abbrev pub held_of : Owing → Held
held_of r = record { client = r.client; path = r.path }

abbrev pub paid : Taking → Owing → Deed
paid taking r = Paid (held_of r) r.from (how_of taking)

abbrev pub source_at : Owing → Source
source_at r = record { path = r.from; rev = r.last }

-- the deeds of a resolve from the file itself: base and have become its last revision
abbrev pub own_deeds : List Deed → Taking → Opening → Owing → List Deed
own_deeds d Theirs o r =
    if is_live_at d r.path r.last
    then Got (held_of r) r.last ∷ Open (record o { base = r.last; source = Some (source_at r) }) ∷ []
    else Got (held_of r) 0 ∷ Shut (held_of r) ∷ []
own_deeds d Yours o r = Got (held_of r) r.last ∷ Open (record o { base = r.last; source = None }) ∷ []

-- of one from another file
abbrev pub other_deeds : Taking → Opening → Owing → List Deed
other_deeds Theirs o r = Open (record o { source = Some (source_at r) }) ∷ []
other_deeds Yours o r = []

abbrev pub resolve_one : List Deed → Taking → Opening → Owing → Step
resolve_one d taking o r =
    does (paid taking r ∷ (if same r.from r.path then own_deeds d taking o r else other_deeds taking o r)) (resolve_row r (how_of taking))

-- the owed resolves of one file in key order, each over the opening that those before left, until the file is shut
abbrev pub resolve_next : (List Deed → Owing → Step) → List Deed → Caller → List ℕ → List Owing → Step
resolve_next act d caller path [] = nothing
resolve_next act d caller path (r ∷ rs) =
    if is_none (opened d caller.client path) then nothing
    else both (act d r) (resolve_next act (after d (act d r).deeds) caller path rs)

abbrev pub resolve_opened : Taking → List Deed → Caller → List ℕ → Owing → Step
resolve_opened taking d caller path r = elim (opened d caller.client path) [ None ↦ nothing | Some o ↦ resolve_one d taking o r ]

abbrev pub owings : List Deed → Caller → List ℕ → List Owing
owings d caller path = elim (opened d caller.client path) [ None ↦ [] | Some o ↦ map (λ (r : Resolve). r.owing) (filter is_unpaid (resolves_of d o)) ]

abbrev pub resolve_file : Taking → List Deed → Caller → List ℕ → Step
resolve_file taking d caller path =
    unless (right_refusal to_open d caller path
    ∷ []) (resolve_next (λ e. resolve_opened taking e caller path) d caller path (owings d caller path))

abbrev pub resolve : List Deed → Caller → Taking → List FileArgument → Step
resolve d caller taking files =
    within_files (over_all (named false d caller (opened_by d caller.client)) not_open (λ _. resolve_file taking d caller) files)
