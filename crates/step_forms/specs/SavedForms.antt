-- The kinds of forms that each command saves (Command-Line Reference, each command's page). That a label is made by the command that first tags files
-- with it, and that fixes and shelved files are saved forms, is this project's own choice.
use Rattle.std.specs.Prelude.{Bool, true, List, [], ◌∷◌}
use Rattle.std.specs.List.{list_any}
use Rattle.depot_model.specs.declared.command.Command.{Command}
use Rattle.depot_model.specs.declared.command.Command.TheVariants.{ClientSave, LabelSave, Tag, SubmitChange, SubmitDefault, Shelve, ShelveDelete, JobSave, Fix, FixDelete}
use Rattle.depot_model.specs.Deeds.{Deed, Spec, SpecKind, ClientForm, LabelForm, ShelfForm, JobForm, FixForm}
use Rattle.depot_model.specs.Latest.{same_kind}

abbrev pub saved_kinds : Command → List SpecKind
saved_kinds ClientSave = ClientForm ∷ []
saved_kinds LabelSave = LabelForm ∷ []
saved_kinds (Tag label removes files) = LabelForm ∷ []
saved_kinds (SubmitChange change) = FixForm ∷ JobForm ∷ []
saved_kinds (SubmitDefault text) = FixForm ∷ JobForm ∷ []
saved_kinds (Shelve change replaces files) = ShelfForm ∷ []
saved_kinds (ShelveDelete change files) = ShelfForm ∷ []
saved_kinds JobSave = JobForm ∷ []
saved_kinds (Fix change jobs) = FixForm ∷ JobForm ∷ []
saved_kinds (FixDelete change jobs) = FixForm ∷ []
saved_kinds _ = []

abbrev pub is_kind_in : List SpecKind → SpecKind → Bool
is_kind_in kinds kind = list_any (same_kind kind) kinds

-- a deed saves a form of one of these kinds, or none
abbrev pub saves_in : List SpecKind → Deed → Bool
saves_in kinds (Spec kind name form) = is_kind_in kinds kind
saves_in kinds _ = true
