-- `changes` (Command-Line Reference, "p4 changes").
use Rattle.std.specs.Prelude.{ℕ, ◌==◌, List, [], ◌∷◌, ◌++◌, map, filter, filter_map, flat_map, take, length, codes, if◌then◌else◌, Option, Some, None, option_map, Bool, true, false, ◌&&◌, nat_lt}
use Rattle.std.specs.Option.{option_map_or, option_or}
use Rattle.std.specs.List.{list_any}
use Rattle.db_records.specs.depot_path.Bytes.{same}
use Rattle.depot_model.specs.declared.request.Caller.{Caller}
use Rattle.depot_model.specs.declared.command.FileArgument.{FileArgument}
use Rattle.depot_model.specs.declared.reply.Row.{Row}
use Rattle.depot_model.specs.declared.refusal.Refusal.TheVariants.{NoSuchFile}
use Rattle.depot_model.specs.Deeds.{Deed, Pend, Land, Landing, Pending}
use Rattle.depot_model.specs.Revisions.{Revision, revision}
use Rattle.depot_model.specs.Numbers.{pending, landing}
use Rattle.depot_model.specs.Asking.{may_list}
use Rattle.depot_model.specs.Range.{in_range}
use Rattle.depot_model.specs.Arguments.{named, not_in, submitted}
use Rattle.depot_model.specs.Rows.{row, text_field, number_field}
use Rattle.depot_model.specs.Refusals.{refusal_row}
use Rattle.depot_model.specs.Step.{Step, tells}
use Rattle.depot_model.specs.Steps.Changing.{files_of_change}

-- a change as it is listed
pub record Listed : Type 0 where
  pub change : ℕ
  pub moment : ℕ
  pub user : List ℕ
  pub client : List ℕ
  pub status : List ℕ
  pub text : List ℕ

-- numbers, each once, the greatest first
abbrev pub number_inserted : ℕ → List ℕ → List ℕ
number_inserted n [] = n ∷ []
number_inserted n (m ∷ ns) = if n == m then m ∷ ns else (if nat_lt m n then n ∷ m ∷ ns else m ∷ number_inserted n ns)

abbrev pub numbers : List Deed → List ℕ
numbers [] = []
numbers (Pend p ∷ d) = number_inserted p.change (numbers d)
numbers (Land l ∷ d) = number_inserted l.change (numbers d)
numbers (_ ∷ d) = numbers d

abbrev pub listed_pending : Pending → Listed
listed_pending p = record { change = p.change; moment = p.moment; user = p.user; client = p.client; status = codes "pending"; text = p.text }

abbrev pub listed_landing : Landing → Listed
listed_landing l = record { change = l.change; moment = l.moment; user = l.user; client = l.client; status = codes "submitted"; text = l.text }

-- a submitted change is listed where the caller may list one of its files
abbrev pub is_listable : List Deed → Caller → ℕ → Bool
is_listable d caller n = list_any (may_list d caller) (files_of_change d n)

abbrev pub listed_submitted : List Deed → Caller → ℕ → Option Listed
listed_submitted d caller n = elim (landing d n) [ None ↦ None | Some l ↦ if is_listable d caller n then Some (listed_landing l) else None ]

abbrev pub listed : List Deed → Caller → ℕ → Option Listed
listed d caller n = option_or (option_map listed_pending (pending d n)) (listed_submitted d caller n)

-- the changes that made a selected revision of a named file
abbrev pub change_at : List Deed → List ℕ → ℕ → Option ℕ
change_at d path n = option_map (λ (r : Revision). r.landing.change) (revision d path n)

abbrev pub made_of : List Deed → Caller → FileArgument → List (List ℕ) → List ℕ
made_of d caller argument paths = flat_map (λ path. filter_map (change_at d path) (in_range d caller path argument.spec.wanted)) paths

-- each file counts by the first argument that names it
abbrev pub made_over : List Deed → Caller → List (List ℕ) → List FileArgument → List ℕ
made_over d caller taken [] = []
made_over d caller taken (a ∷ arguments) =
    let files = named false d caller (submitted d) a in
    made_of d caller a (not_in taken files) ++ made_over d caller (taken ++ files) arguments

abbrev pub is_made : List Deed → Caller → List FileArgument → ℕ → Bool
is_made d caller [] n = true
is_made d caller (a ∷ arguments) n = list_any (λ m. m == n) (made_over d caller [] (a ∷ arguments))

abbrev pub passes : Option (List ℕ) → List ℕ → Bool
passes wanted text = option_map_or (same text) wanted true

abbrev pub change_row : Listed → Row
change_row l = row (
    number_field (codes "change") l.change ∷ number_field (codes "time") l.moment ∷ text_field (codes "user") l.user
    ∷ text_field (codes "client") l.client ∷ text_field (codes "status") l.status ∷ text_field (codes "desc") l.text ∷ [])

abbrev pub at_most : {A : Type 0} → Option ℕ → List A → List A
at_most None xs = xs
at_most (Some n) xs = take n xs

abbrev pub missing : List Deed → Caller → FileArgument → List Row
missing d caller argument = if length (named false d caller (submitted d) argument) == 0 then refusal_row (NoSuchFile argument.text) ∷ [] else []

abbrev pub changes : List Deed → Caller → Option ℕ → Option (List ℕ) → Option (List ℕ) → Option (List ℕ) → List FileArgument → Step
changes d caller most status user client arguments =
    tells (flat_map (missing d caller) arguments ++ map change_row (at_most most (filter
    (λ l. passes status l.status && passes user l.user && passes client l.client)
    (filter_map (listed d caller) (filter (is_made d caller arguments) (numbers d))))))
