-- `tag`, `labelsync` (Command-Line Reference, "p4 tag", "p4 labelsync").
use Rattle.std.specs.Prelude.{ℕ, zero, suc, ◌==◌, List, [], ◌∷◌, codes, if◌then◌else◌, Bool, true, false, not}
use Rattle.db_records.specs.depot_path.declared.revision.Wanted.{Wanted}
use Rattle.db_records.specs.depot_path.declared.revision.Wanted.TheVariants.{Head, One, Range}
use Rattle.db_records.specs.depot_path.declared.revision.RevSpec.TheVariants.{Have}
use Rattle.depot_model.specs.declared.request.Caller.{Caller}
use Rattle.depot_model.specs.declared.command.FileArgument.{FileArgument}
use Rattle.depot_model.specs.declared.command.Labelling.{Labelling}
use Rattle.depot_model.specs.declared.command.Labelling.TheVariants.{Exact, Adding, Removing}
use Rattle.depot_model.specs.declared.reply.Row.{Row}
use Rattle.depot_model.specs.declared.refusal.Refusal.TheVariants.{NoSuchLabel, LabelLocked}
use Rattle.depot_model.specs.Deeds.{Deed, Spec, Tag, LabelForm}
use Rattle.depot_model.specs.Latest.{labelled}
use Rattle.depot_model.specs.Revisions.{is_live_at}
use Rattle.depot_model.specs.Asking.{is_label, to_open}
use Rattle.depot_model.specs.Choice.{PassedOver, At, chosen}
use Rattle.depot_model.specs.Arguments.{named, submitted, over, over_all, within_files, no_file}
use Rattle.depot_model.specs.Rows.{row, path_field, number_field, text_field}
use Rattle.spec_form.specs.declared.shape.Shape.TheVariants.{Label}
use Rattle.depot_model.specs.Values.{valued}
use Rattle.depot_model.specs.Step.{Step, nothing, does, unless, refuse_if, both}
use Rattle.depot_model.specs.Steps.Opening.{right_refusal}
use Rattle.depot_model.specs.Steps.Labels.{is_locked}

abbrev pub tag_row : List ℕ → ℕ → List ℕ → Row
tag_row path rev word = row (path_field (codes "depotFile") path ∷ number_field (codes "rev") rev ∷ text_field (codes "action") word ∷ [])

-- a label's revision of a file becomes another; no row where nothing changes
abbrev pub tag_to : List ℕ → List ℕ → ℕ → ℕ → Step
tag_to label path zero zero = nothing
tag_to label path zero (suc new) = does (Tag label path (suc new) ∷ []) (tag_row path (suc new) (codes "added"))
tag_to label path (suc old) zero = does (Tag label path 0 ∷ []) (tag_row path (suc old) (codes "deleted"))
tag_to label path (suc old) (suc new) =
    if old == new then nothing else does (Tag label path (suc new) ∷ []) (tag_row path (suc new) (codes "updated"))

abbrev pub tag_file : List Deed → Caller → List ℕ → List ℕ → ℕ → Step
tag_file d caller label path new = unless (right_refusal to_open d caller path ∷ []) (tag_to label path (labelled d label path) new)

abbrev pub live_choice : List Deed → Caller → Wanted → List ℕ → ℕ
live_choice d caller wanted path = elim (chosen d caller path wanted) [ PassedOver ↦ 0 | At n ↦ if is_live_at d path n then n else 0 ]

-- a revision, or for none the one that a label has
abbrev pub or_labelled : List Deed → List ℕ → List ℕ → ℕ → ℕ
or_labelled d label path n = if n == 0 then labelled d label path else n

-- a form of the field Label alone
abbrev pub made_label : List Deed → List ℕ → List Deed
made_label d label = if is_label d label then [] else Spec LabelForm label (record { shape = Label; fields = valued (codes "Label") label ∷ [] }) ∷ []

-- the revision that a label is to have: with -d none; without it the chosen one where it is live, else the one that it has
abbrev pub tagged_rev : Bool → List Deed → Caller → List ℕ → FileArgument → List ℕ → ℕ
tagged_rev true d caller label argument path = 0
tagged_rev false d caller label argument path = or_labelled d label path (live_choice d caller argument.spec.wanted path)

abbrev pub tag_files : List Deed → Caller → List ℕ → Bool → List FileArgument → Step
tag_files d caller label removes files =
    over (named false d caller (submitted d)) no_file (λ argument path. tag_file d caller label path (tagged_rev removes d caller label argument path)) [] files

abbrev pub tag : List Deed → Caller → List ℕ → Bool → List FileArgument → Step
tag d caller label removes files = unless (refuse_if (is_locked d label) (LabelLocked label) ∷ [])
    (within_files (both (record { deeds = made_label d label; rows = [] }) (tag_files d caller label removes files)))

-- labelsync: the have revision where none is given
abbrev pub or_have : Wanted → Wanted
or_have Head = One Have
or_have (One end) = One end
or_have (Range first second) = Range first second

abbrev pub synced_rev : Labelling → List Deed → Caller → List ℕ → FileArgument → List ℕ → ℕ
synced_rev Removing d caller label argument path = 0
synced_rev Exact d caller label argument path = live_choice d caller (or_have argument.spec.wanted) path
synced_rev Adding d caller label argument path = or_labelled d label path (live_choice d caller (or_have argument.spec.wanted) path)

abbrev pub labelsync : List Deed → Caller → List ℕ → Labelling → List FileArgument → Step
labelsync d caller label labelling files =
    unless (refuse_if (not (is_label d label)) (NoSuchLabel label) ∷ refuse_if (is_locked d label) (LabelLocked label) ∷ [])
    (within_files (over_all (named false d caller (submitted d)) no_file (λ argument path. tag_file d caller label path (synced_rev labelling d caller label argument path)) files))
