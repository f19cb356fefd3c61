-- What rows tell of openings.
use Rattle.std.proofs.Common.{◌≡◌, ℕ, Bool, true, Option, Some, None, List, [], Result, Ok, Err, refl, sym, ap, subst}
use Rattle.std.specs.Prelude.{option_map, unwrap_or, ◌&&◌, ◌++◌, if◌then◌else◌}
use Rattle.std.specs.List.{list_all}
use Rattle.std.proofs.lemmas.Bool.{and_parts}
use Rattle.depot_rows.specs.depot_path.Path.{printed, is_path}
use Rattle.depot_rows.specs.depot_path.declared.fault.PathFault.{PathFault}
use Rattle.depot_rows.proofs.depot_path.Paths.{prints_path}
use Rattle.depot_rows.specs.depot_model.Deeds as model
use Rattle.depot_rows.specs.depot_model.Deeds.{Deed, Opening, Source, Action}
use Rattle.depot_rows.specs.depot_model.Opened.{opened}
use Rattle.depot_rows.specs.db_records.declared.record.Record.{Record}
use Rattle.depot_rows.specs.db_records.declared.record.Record.TheVariants as records
use Rattle.depot_rows.specs.db_records.declared.rows.WorkingRecord.{WorkingRecord}
use Rattle.depot_rows.specs.depot_model.Records.{working_record, printed_or_empty, is_holder}
use Rattle.depot_rows.specs.depot_model.Rows.{action_word}
use Rattle.depot_rows.specs.depot_model.Rules.{IsSound, opening_paths, path_or_none}
use Rattle.depot_rows.specs.depot_model.Steps.Reverting.{moved}
use Rattle.depot_rows.specs.Deed.{action_of, opening_of, source_of}
use Rattle.depot_rows.proofs.CutPairs.{opening_paths_are}
use Rattle.depot_rows.proofs.Locks.{IsOf, opened-is}
use Rattle.opening_reads.specs.Read.{opening_in_row, path_in_text, source_at, source_in_row, word_action}

pub action_is : (a : Action) → action_of (word_action (action_word a)) ≡ a
action_is model.Add = refl
action_is model.Edit = refl
action_is model.Delete = refl
action_is model.Branch = refl
action_is model.Integrate = refl
action_is model.MoveAdd = refl
action_is model.MoveDelete = refl

pub path_is : (path : List ℕ) → is_path path ≡ true → path_in_text (printed path) ≡ Some path
path_is path is = ap (λ (r : Result (List ℕ) PathFault). elim r as (λ _. Option (List ℕ)) [ Err fault ↦ None | Ok p ↦ Some p ]) (prints_path path is)

pub moved_is : (m : Option (List ℕ)) → list_all is_path (path_or_none m) ≡ true → path_in_text (printed_or_empty m) ≡ m
moved_is None is = refl
moved_is (Some p) is = path_is p (and_parts (is_path p) true is).0

abbrev source_text : Option Source → List ℕ
source_text s = elim s [ None ↦ [] | Some s ↦ printed s.path ]

abbrev source_number : Option Source → ℕ
source_number s = elim s [ None ↦ 0 | Some s ↦ s.rev ]

pub source_is : (s : Option Source) → list_all is_path (path_or_none (option_map (λ (x : Source). x.path) s)) ≡ true
    → option_map source_of (source_in_row (source_text s) (source_number s)) ≡ s
source_is None is = refl
source_is (Some s) is = ap (λ (p : Option (List ℕ)). option_map source_of (option_map (source_at s.rev) p)) (path_is s.path (and_parts (is_path s.path) true is).0)

pub parts : (m : Option (List ℕ)) (rest : List (List ℕ)) → list_all is_path (path_or_none m ++ rest) ≡ true
    → (list_all is_path (path_or_none m) ≡ true) × (list_all is_path rest ≡ true)
parts None rest is = (refl, is)
parts (Some p) rest is = (ap (λ (b : Bool). b && true) (and_parts (is_path p) (list_all is_path rest) is).0, (and_parts (is_path p) (list_all is_path rest) is).1)

-- the row of an opening
abbrev row_of : ℕ → Opening → WorkingRecord
row_of lock o = record {
  path = printed o.path;
  client = o.client;
  base = o.base;
  action = action_word o.action;
  file_type = o.file_type;
  change = o.change;
  lock = lock;
  source = source_text o.source;
  source_rev = source_number o.source;
  moved = printed_or_empty o.moved;
}

pub opening_is : (client path : List ℕ) (o : Opening) (lock : ℕ) (change : Option ℕ) (type : Option (List ℕ)) → IsOf client path o
    → list_all is_path (opening_paths o) ≡ true → opening_of (opening_in_row client path (row_of lock o) change type) ≡ moved change type o
opening_is client path o lock change type of is =
    let sources = path_or_none (option_map (λ (s : Source). s.path) o.source) in
    let both = parts o.moved sources (and_parts (is_path o.path) (list_all is_path (path_or_none o.moved ++ sources)) is).1 in
    λ i. record {
      client = sym of.0 i;
      path = sym of.1 i;
      base = o.base;
      action = action_is o.action i;
      file_type = unwrap_or type o.file_type;
      change = unwrap_or change o.change;
      source = source_is o.source both.1 i;
      moved = moved_is o.moved both.0 i;
    }

-- the row of an opened file tells its opening
pub row_opens : (d : List Deed) (client path : List ℕ) (o : Opening) (row : WorkingRecord) (change : Option ℕ) (type : Option (List ℕ)) → IsSound d
    → opened d client path ≡ Some o → records.Working row ≡ working_record d o → opening_of (opening_in_row client path row change type) ≡ moved change type o
row_opens d client path o row change type sound e is =
    let lock = if is_holder d o then 1 else 0 in
    let own : row ≡ row_of lock o = cc in
    let P : WorkingRecord → Type 0 = λ r. opening_of (opening_in_row client path r change type) ≡ moved change type o in
    subst P (sym own)
    (opening_is client path o lock change type (opened-is d client path o e) (opening_paths_are [] d client path o sound.paths e))

-- and where it is there, that opening
pub row_told : (d : List Deed) (client path : List ℕ) (row : WorkingRecord) → IsSound d → Some (records.Working row) ≡ option_map (working_record d) (opened d client path)
    → Some (opening_of (opening_in_row client path row None None)) ≡ opened d client path
row_told d client path row sound is = go (opened d client path) refl is
  where
    one_row : (r s : Record) → Some r ≡ Some s → r ≡ s
    one_row r s e = cc

    go : (found : Option Opening) → opened d client path ≡ found → Some (records.Working row) ≡ option_map (working_record d) found
        → Some (opening_of (opening_in_row client path row None None)) ≡ found
    go None e k = absurd cc
    go (Some o) e k = ap (λ (x : Opening). Some x) (row_opens d client path o row None None sound e (one_row (records.Working row) (working_record d o) k))
