-- What the last deed says that says something: have lists, labels, counters, forms, groups, protections (Command-Line Reference, "p4 have",
-- "p4 label", "p4 counter", "p4 client", "p4 group", "p4 protect").
use Rattle.std.specs.Prelude.{ℕ, Bool, ◌&&◌, List, [], ◌∷◌, if◌then◌else◌, Option, Some, None, unwrap_or, codes}
use Rattle.std.specs.Option.{option_or, option_flatten, option_map_or}
use Rattle.db_records.specs.depot_path.Bytes.{same}
use Rattle.depot_model.specs.Sorted.{inserted}
use Rattle.spec_form.specs.Form.{FormValue}
use Rattle.depot_model.specs.Deeds.{Deed, Spec, Guard, Group, Count, Got, Tag, Held, SpecKind, ClientForm, LabelForm, ShelfForm, JobForm, FixForm}

-- what the last deed says of which the reading gives something
abbrev pub latest : {A : Type 0} → (Deed → Option A) → List Deed → Option A
latest reading [] = None
latest reading (deed ∷ d) = option_or (reading deed) (latest reading d)

-- each key of which some deed speaks, once, in order
abbrev pub keys_of : (Deed → Option (List ℕ)) → List Deed → List (List ℕ)
keys_of key [] = []
keys_of key (deed ∷ d) = option_map_or inserted (key deed) (λ keys. keys) (keys_of key d)

abbrev pub when : {A : Type 0} → Bool → A → Option A
when test value = if test then Some value else None

abbrev pub is_held : List ℕ → List ℕ → Held → Bool
is_held client path held = same held.client client && same held.path path

-- the have list
abbrev pub have_said : List ℕ → List ℕ → Deed → Option ℕ
have_said client path (Got held rev) = when (is_held client path held) rev
have_said client path _ = None

abbrev pub have : List Deed → List ℕ → List ℕ → ℕ
have d client path = unwrap_or (latest (have_said client path) d) 0

-- labels
abbrev pub label_said : List ℕ → List ℕ → Deed → Option ℕ
label_said label path (Tag l p rev) = when (same l label && same p path) rev
label_said label path _ = None

abbrev pub labelled : List Deed → List ℕ → List ℕ → ℕ
labelled d label path = unwrap_or (latest (label_said label path) d) 0

-- counters
abbrev pub count_said : List ℕ → Deed → Option (Option ℕ)
count_said name (Count n value) = when (same n name) value
count_said name _ = None

abbrev pub count_of : List Deed → List ℕ → Option ℕ
count_of d name = option_flatten (latest (count_said name) d)

-- clients, labels, shelved files, jobs and fixes as saved
abbrev pub kind_word : SpecKind → List ℕ
kind_word ClientForm = codes "client"
kind_word LabelForm = codes "label"
kind_word ShelfForm = codes "shelf"
kind_word JobForm = codes "job"
kind_word FixForm = codes "fix"

abbrev pub same_kind : SpecKind → SpecKind → Bool
same_kind kind other = same (kind_word kind) (kind_word other)

abbrev pub spec_said : SpecKind → List ℕ → Deed → Option FormValue
spec_said kind name (Spec k n form) = when (same_kind k kind && same n name) form
spec_said kind name _ = None

abbrev pub spec : List Deed → SpecKind → List ℕ → Option FormValue
spec d kind name = latest (spec_said kind name) d

-- groups
abbrev pub group_said : List ℕ → Deed → Option (List (List ℕ))
group_said name (Group n users) = when (same n name) users
group_said name _ = None

abbrev pub users : List Deed → List ℕ → List (List ℕ)
users d name = unwrap_or (latest (group_said name) d) []

-- the lines of the protections
abbrev pub guard_said : Deed → Option (List (List ℕ))
guard_said (Guard lines) = Some lines
guard_said _ = None

abbrev pub guard_lines : List Deed → List (List ℕ)
guard_lines d = unwrap_or (latest guard_said d) []

-- the names of which there are counts, groups or saved forms, in order
abbrev pub count_name : Deed → Option (List ℕ)
count_name (Count n value) = Some n
count_name _ = None

abbrev pub group_name : Deed → Option (List ℕ)
group_name (Group n users) = Some n
group_name _ = None

abbrev pub spec_name : SpecKind → Deed → Option (List ℕ)
spec_name kind (Spec k n form) = when (same_kind k kind) n
spec_name kind _ = None
