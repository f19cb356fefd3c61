-- Files that are shelved in a change: their forms, and what an opening of them is to be (Command-Line Reference, "p4 shelve", "p4 unshelve"). That
-- a shelved file is a saved form is this project's own choice.
use Rattle.std.specs.Prelude.{ℕ, ◌/◌, List, [], ◌∷◌, ◌++◌, length, nat_lt, drop, filter, find, codes, if◌then◌else◌, Option, Some, None, Ok, Err, option_and_then, unwrap_or, is_some, Bool, decimal}
use Rattle.hex.specs.Hex.{encode_lower, decode_of}
use Rattle.db_records.specs.depot_path.Bytes.{same}
use Rattle.db_records.specs.depot_path.Path.{path_of, printed}
use Rattle.db_records.specs.depot_path.Digits.{number_of}
use Rattle.spec_form.specs.declared.form.Field.{Field}
use Rattle.spec_form.specs.Form.{FormValue, lines_of}
use Rattle.spec_form.specs.declared.shape.Shape.TheVariants.{Shelf}
use Rattle.depot_model.specs.Values.{value_of, valued}
use Rattle.depot_model.specs.declared.request.Caller.{Caller}
use Rattle.depot_model.specs.Deeds.{Deed, Spec, ShelfForm, Opening, Source, Action, Add, Edit, Delete}
use Rattle.depot_model.specs.Latest.{spec, when}
use Rattle.depot_model.specs.Rows.{action_word}
use Rattle.depot_model.specs.Arguments.{paths_of}

abbrev pub shelf_name : ℕ → List ℕ → List ℕ
shelf_name n path = decimal n ++ 0x20 ∷ printed path

-- the path that a text prints
abbrev pub paths_in : List ℕ → List (List ℕ)
paths_in text = elim (path_of text) [ Err fault ↦ [] | Ok path ↦ path ∷ [] ]

abbrev pub is_of_change : ℕ → FormValue → Bool
is_of_change n form = same (value_of form (codes "Change")) (decimal n)

abbrev pub is_kept : FormValue → Bool
is_kept form = same (value_of form (codes "State")) (codes "kept")

-- a file that is kept in a change
abbrev pub kept : List Deed → ℕ → List ℕ → Option FormValue
kept d n path = option_and_then (λ form. when (is_kept form) form) (spec d ShelfForm (shelf_name n path))

abbrev pub shelf_paths : ℕ → Deed → List (List ℕ)
shelf_paths n (Spec ShelfForm name form) = if is_of_change n form then paths_in (value_of form (codes "Path")) else []
shelf_paths n _ = []

abbrev pub kept_paths : List Deed → ℕ → List (List ℕ)
kept_paths d n = filter (λ path. is_some (kept d n path)) (paths_of (shelf_paths n) d)

abbrev pub is_shelved : List Deed → ℕ → Bool
is_shelved d n = nat_lt 0 (length (kept_paths d n))

-- the forms of a file that is kept, and of one that is gone
abbrev pub source_fields : Option Source → List Field
source_fields None = []
source_fields (Some s) = valued (codes "From") (printed s.path) ∷ valued (codes "FromRev") (decimal s.rev) ∷ []

abbrev pub content_fields : Option (List ℕ) → List Field
content_fields None = []
content_fields (Some block) = valued (codes "Content") (codes "x" ++ encode_lower block) ∷ []

abbrev pub kept_form : Caller → Opening → Option (List ℕ) → FormValue
kept_form caller o block = record {
  shape = Shelf;
  fields = valued (codes "Path") (printed o.path) ∷ valued (codes "Change") (decimal o.change) ∷ valued (codes "Client") caller.client
      ∷ valued (codes "User") caller.user ∷ valued (codes "State") (codes "kept") ∷ valued (codes "Action") (action_word o.action)
      ∷ valued (codes "Type") o.file_type ∷ valued (codes "Base") (decimal o.base) ∷ source_fields o.source ++ content_fields block;
}

abbrev pub gone_form : ℕ → List ℕ → FormValue
gone_form n path =
    record {
      shape = Shelf;
      fields = valued (codes "Path") (printed path) ∷ valued (codes "Change") (decimal n)
          ∷ valued (codes "State") (codes "gone") ∷ [];
    }

-- what a form says of the opening
abbrev pub kept_base : FormValue → ℕ
kept_base form = number_of (value_of form (codes "Base"))

abbrev pub kept_action : FormValue → Action
kept_action form = unwrap_or (find (λ action. same (action_word action) (value_of form (codes "Action"))) (Add ∷ Edit ∷ Delete ∷ [])) Add

abbrev pub source_at : FormValue → List (List ℕ) → Option Source
source_at form [] = None
source_at form (path ∷ paths) = Some (record { path = path; rev = number_of (value_of form (codes "FromRev")) })

abbrev pub kept_source : FormValue → Option Source
kept_source form = source_at form (paths_in (value_of form (codes "From")))

-- the block that gave the content, where one did
abbrev pub block_in : List (List ℕ) → Option (List ℕ)
block_in [] = None
block_in (line ∷ lines) = elim (decode_of (drop 1 line)) [ Err fault ↦ None | Ok block ↦ Some block ]

abbrev pub kept_block : FormValue → Option (List ℕ)
kept_block form = block_in (lines_of form (codes "Content"))

-- the bytes of the block: two digits for each, behind the `x`
abbrev pub block_size : FormValue → ℕ
block_size form = length (value_of form (codes "Content")) / 2

abbrev pub kept_opening : Caller → ℕ → List ℕ → FormValue → Opening
kept_opening caller change path form = record {
  client = caller.client;
  path = path;
  base = kept_base form;
  action = kept_action form;
  file_type = value_of form (codes "Type");
  change = change;
  source = kept_source form;
  moved = None;
}
