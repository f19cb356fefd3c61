-- The revision of a file that a label is to have, as `tag` and `labelsync` choose it, and the step of a file whose revision in a label becomes
-- another one (Command-Line Reference, "p4 tag", "p4 labelsync").
use Rattle.std.specs.Prelude.{ℕ, Bool, true, false, ◌==◌, List, [], ◌∷◌, codes, if◌then◌else◌}
use Rattle.depot_rows.specs.depot_path.declared.revision.Wanted.{Wanted}
use Rattle.depot_rows.specs.depot_path.declared.revision.Wanted.TheVariants.{Head, One, Range}
use Rattle.depot_rows.specs.spec_form.declared.shape.Shape.TheVariants.{Label}
use Rattle.depot_rows.specs.depot_model.declared.command.FileArgument.{FileArgument}
use Rattle.depot_rows.specs.depot_model.declared.command.Labelling.{Labelling}
use Rattle.depot_rows.specs.depot_model.declared.command.Labelling.TheVariants.{Exact, Adding, Removing}
use Rattle.depot_rows.specs.depot_model.declared.request.Caller.{Caller}
use Rattle.depot_rows.specs.depot_model.Arguments.{named, no_file, over, over_all, submitted, within_files}
use Rattle.depot_rows.specs.depot_model.Deeds.{Deed, Tag}
use Rattle.depot_rows.specs.depot_model.Step.{Step, both, does}
use Rattle.depot_rows.specs.depot_model.Values.{valued}
use Rattle.depot_rows.specs.declared.deed.Deed.TheVariants as dones
use Rattle.depot_rows.specs.declared.deed.SpecKind.TheVariants as kinds
use Rattle.reply_rows.specs.declared.step.Step.{Step as MadeStep}
use Rattle.depot_rows.specs.depot_model.Steps.Tagging.{live_choice, made_label, or_have, or_labelled, tag_file, tag_files, tag_row}

-- what an argument asks for, where the have revision stands for none
abbrev pub asked : Bool → Wanted → Wanted
asked false wanted = wanted
asked true wanted = or_have wanted

abbrev pub is_head : Wanted → Bool
is_head Head = true
is_head (One end) = false
is_head (Range first second) = false

-- 0 for none
abbrev pub rev_by : Labelling → List Deed → Caller → List ℕ → Wanted → List ℕ → ℕ
rev_by Removing d caller label wanted path = 0
rev_by Exact d caller label wanted path = live_choice d caller wanted path
rev_by Adding d caller label wanted path = or_labelled d label path (live_choice d caller wanted path)

-- `tag` leaves the files that it doesn't take
abbrev pub labelling_of : Bool → Labelling
labelling_of true = Removing
labelling_of false = Adding

-- what is done with a file
abbrev pub taken : Labelling → Bool → List Deed → Caller → List ℕ → FileArgument → List ℕ → Step
taken labelling have d caller label argument path =
    tag_file d caller label path (rev_by labelling d caller label (asked have argument.spec.wanted) path)

-- what is done with the files that arguments name, and without arguments with all files or with none
abbrev pub taken_files : Bool → Labelling → Bool → List Deed → Caller → List ℕ → List FileArgument → Step
taken_files all labelling have d caller label files =
    if all then over_all (named false d caller (submitted d)) no_file (taken labelling have d caller label) files
    else over (named false d caller (submitted d)) no_file (taken labelling have d caller label) [] files

-- `tag` of a label that isn't locked, and `labelsync` of one that isn't refused
abbrev pub tagged : List Deed → Caller → List ℕ → Bool → List FileArgument → Step
tagged d caller label removes files = within_files (both (record { deeds = made_label d label; rows = [] }) (tag_files d caller label removes files))

abbrev pub synced : List Deed → Caller → List ℕ → Labelling → List FileArgument → Step
synced d caller label labelling files = within_files (taken_files true labelling true d caller label files)

-- what becomes of a revision, 0 for none
abbrev pub word_of : ℕ → ℕ → List ℕ
word_of old new = if old == 0 then codes "added" else if new == 0 then codes "deleted" else codes "updated"

abbrev pub told_rev : ℕ → ℕ → ℕ
told_rev old new = if new == 0 then old else new

abbrev pub tag_step : List ℕ → List ℕ → ℕ → ℕ → Step
tag_step label path old new = does (Tag label path new ∷ []) (tag_row path (told_rev old new) (word_of old new))

-- the step that saves the form of a label without further fields
abbrev pub saved_label : List ℕ → MadeStep
saved_label label = record {
  deeds = dones.Spec kinds.Label label (record { shape = Label; fields = valued (codes "Label") label ∷ [] }) ∷ [];
  rows = [];
  stores = [];
  reads = [];
}
