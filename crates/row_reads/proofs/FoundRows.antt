-- What the row of a file says is what the depot says.
use Rattle.std.proofs.Common.{◌≡◌, ℕ, Bool, true, false, List, Option, Some, None, Result, Ok, Err, refl, sym, ap, ◌∙◌, arith}
use Rattle.std.specs.Prelude.{option_map, if◌then◌else◌, ◌==◌}
use Rattle.std.proofs.lemmas.Bool.Decides.{nat_tests}
use Rattle.std.proofs.lemmas.Slice.Eq.{bytes_eq-Decides}
use Rattle.depot_rows.specs.depot_path.Bytes.{same}
use Rattle.depot_rows.specs.depot_path.Path.{path_of, printed}
use Rattle.depot_rows.specs.depot_path.declared.fault.PathFault.{PathFault}
use Rattle.depot_rows.specs.db_records.Key.{key_table}
use Rattle.depot_rows.specs.db_records.declared.key.Key.{Key}
use Rattle.depot_rows.specs.db_records.declared.key.Key.TheVariants as keys
use Rattle.depot_rows.specs.db_records.declared.record.Record.{Record}
use Rattle.depot_rows.specs.db_records.declared.record.Record.TheVariants as records
use Rattle.depot_rows.specs.db_records.declared.table.TableId.{TableId}
use Rattle.depot_rows.specs.table_store.Rows.{TableRows, row_at}
use Rattle.depot_rows.specs.depot_model.Deeds.{Deed, Opening}
use Rattle.depot_rows.specs.depot_model.Latest.{have, labelled}
use Rattle.depot_rows.specs.depot_model.Opened.{opened}
use Rattle.depot_rows.specs.depot_model.Records.{record_of, unplaced, at_path, numbered_record, working_record}
use Rattle.depot_rows.specs.Standing.{unplaced_at}
use Rattle.row_reads.specs.Found.{have_in, label_in}

-- the record at a path's own text
abbrev read_at : List ℕ → Result (List ℕ) PathFault → (List ℕ → Option Record) → Option Record
read_at text read said = elim read [ Err fault ↦ None | Ok path ↦ if same (printed path) text then said path else None ]

pub at_own_path : (path : List ℕ) (said : List ℕ → Option Record) → path_of (printed path) ≡ Ok path → at_path (printed path) said ≡ said path
at_own_path path said e =
    ap (λ read. read_at (printed path) read said) e
    ∙ ap (λ b. if b then said path else None) ((bytes_eq-Decides (printed path) (printed path)).1 refl)

have_placed : (row : Option Record) → have_in (option_map unplaced row) ≡ have_in row
have_placed None = refl
have_placed (Some (records.Have r)) = refl
have_placed (Some (records.Rev r)) = refl
have_placed (Some (records.Counter r)) = refl
have_placed (Some (records.Group r)) = refl
have_placed (Some (records.Protect r)) = refl
have_placed (Some (records.Domain r)) = refl
have_placed (Some (records.Label r)) = refl
have_placed (Some (records.Integed r)) = refl
have_placed (Some (records.Resolve r)) = refl
have_placed (Some (records.Working r)) = refl
have_placed (Some (records.Change r)) = refl

label_placed : (row : Option Record) → label_in (option_map unplaced row) ≡ label_in row
label_placed None = refl
label_placed (Some (records.Label r)) = refl
label_placed (Some (records.Rev r)) = refl
label_placed (Some (records.Counter r)) = refl
label_placed (Some (records.Group r)) = refl
label_placed (Some (records.Protect r)) = refl
label_placed (Some (records.Domain r)) = refl
label_placed (Some (records.Have r)) = refl
label_placed (Some (records.Integed r)) = refl
label_placed (Some (records.Resolve r)) = refl
label_placed (Some (records.Working r)) = refl
label_placed (Some (records.Change r)) = refl

is_zero : (n : ℕ) → (n == 0) ≡ true → 0 ≡ n
is_zero n e = grind (arith, nat_tests)

-- the number that a row was made of
numbered : (read : Option Record → ℕ) (made : ℕ → Record) → read None ≡ 0 → ((n : ℕ) → read (Some (made n)) ≡ n) → (n : ℕ) (b : Bool) → (n == 0) ≡ b
    → read (if b then None else Some (made n)) ≡ n
numbered read made none some n true e = none ∙ is_zero n e
numbered read made none some n false e = some n

pub have_read : (d : List Deed) (client path : List ℕ) (row : Option Record) → path_of (printed path) ≡ Ok path
    → option_map unplaced row ≡ record_of d (keys.Have client (printed path)) → have_in row ≡ have d client path
have_read d client path row e is =
    let made : ℕ → Record = λ rev. records.Have (record { client = client; path = printed path; rev = rev }) in
    sym (have_placed row) ∙ ap have_in (is ∙ at_own_path path (λ p. numbered_record made (have d client p)) e)
    ∙ numbered have_in made refl (λ n. refl) (have d client path) (have d client path == 0) refl

pub label_read : (d : List Deed) (label path : List ℕ) (row : Option Record) → path_of (printed path) ≡ Ok path
    → option_map unplaced row ≡ record_of d (keys.Label label (printed path)) → label_in row ≡ labelled d label path
label_read d label path row e is =
    let made : ℕ → Record = λ rev. records.Label (record { label = label; path = printed path; rev = rev }) in
    sym (label_placed row) ∙ ap label_in (is ∙ at_own_path path (λ p. numbered_record made (labelled d label p)) e)
    ∙ numbered label_in made refl (λ n. refl) (labelled d label path) (labelled d label path == 0) refl

-- a row of an opened file has no place
working_placed : (d : List Deed) (row : Option Record) (o : Option Opening) → option_map unplaced row ≡ option_map (working_record d) o
    → row ≡ option_map (working_record d) o
working_placed d None o e = e
working_placed d (Some (records.Working r)) o e = e
working_placed d (Some (records.Have r)) o e = e
working_placed d (Some (records.Counter r)) o e = e
working_placed d (Some (records.Group r)) o e = e
working_placed d (Some (records.Protect r)) o e = e
working_placed d (Some (records.Domain r)) o e = e
working_placed d (Some (records.Label r)) o e = e
working_placed d (Some (records.Integed r)) o e = e
working_placed d (Some (records.Resolve r)) o e = e
working_placed d (Some (records.Change r)) o e = e
working_placed d (Some (records.Rev r)) None e = absurd cc
working_placed d (Some (records.Rev r)) (Some o) e = absurd cc

pub opened_read : (d : List Deed) (client path : List ℕ) (row : Option Record) → path_of (printed path) ≡ Ok path
    → option_map unplaced row ≡ record_of d (keys.Working (printed path) client) → row ≡ option_map (working_record d) (opened d client path)
opened_read d client path row e is =
    working_placed d row (opened d client path) (is ∙ at_own_path path (λ p. option_map (working_record d) (opened d client p)) e)

-- the row that a key found in a table that has the rows of a depot
pub at_key : (t : TableId) (d : List Deed) (rows : List Record) (key target : Key) (version : TableRows) (row : Option Record)
    → ((k : Key) → key_table k ≡ t → unplaced_at rows k ≡ record_of d k) → key_table target ≡ t → key ≡ target → version.rows ≡ rows
    → row ≡ row_at key version.rows → option_map unplaced row ≡ record_of d target
at_key t d rows key target version row has of is are found =
    ap (λ r. option_map unplaced r) (found ∙ ap (λ k. row_at k version.rows) is ∙ ap (row_at target) are) ∙ has target of
