-- The openings that are moved into another change.
use Rattle.std.proofs.Common.{◌≡◌, ℕ, Bool, true, false, List, [], ◌∷◌, ◌++◌, Option, Some, None, refl, sym, ap, ◌∙◌}
use Rattle.std.specs.Prelude.{◌&&◌, filter_map, flat_map, is_none, map, option_map}
use Rattle.std.specs.List.{cons_option, list_all}
use Rattle.std.specs.Option.{option_to_list}
use Rattle.std.proofs.lemmas.Bool.{and_parts}
use Rattle.depot_rows.specs.depot_path.Path.{is_path, printed}
use Rattle.depot_rows.specs.db_records.declared.record.Record.{Record}
use Rattle.depot_rows.specs.db_records.declared.record.Record.TheVariants.{Working}
use Rattle.depot_rows.specs.db_records.declared.rows.WorkingRecord.{WorkingRecord}
use Rattle.depot_rows.specs.depot_model.declared.request.Caller.{Caller}
use Rattle.depot_rows.specs.depot_model.Deeds as model
use Rattle.depot_rows.specs.depot_model.Deeds.{Deed, Opening}
use Rattle.depot_rows.specs.depot_model.Opened.{opened}
use Rattle.depot_rows.specs.depot_model.Records.{working_record}
use Rattle.depot_rows.specs.depot_model.Rules.{IsSound}
use Rattle.depot_rows.specs.depot_model.declared.refusal.Refusal.TheVariants.{NotOpen}
use Rattle.depot_rows.specs.depot_model.Step.{refuse_if}
use Rattle.depot_rows.specs.depot_model.Steps.Changing.{moved_to, not_open}
use Rattle.depot_rows.specs.Deed.{opening_of}
use Rattle.depot_rows.specs.Effects.{Follow}
use Rattle.depot_rows.specs.declared.deed.Deed.TheVariants as dones
use Rattle.depot_rows.specs.declared.deed.Opening.{Opening as DeedOpening}
use Rattle.depot_rows.proofs.CutPairs.{opening_paths_are}
use Rattle.opening_reads.proofs.Opens.{row_opens}
use Rattle.change_lists.specs.Saving.{in_other, moved_in, moved_row, not_open_in}

module _ (d : List Deed) (client path : List ℕ) (n : ℕ) (sound : IsSound d) where
  -- what a row tells is the opening in the other change
  pub row_moves : (row : Option WorkingRecord) → option_map Working row ≡ option_map (working_record d) (opened d client path)
      → map opening_of (option_to_list (option_map (moved_row client path n) row)) ≡ moved_in d client n path
  row_moves row is = go row (opened d client path) refl is
    where
      one_row : (r s : Record) → Some r ≡ Some s → r ≡ s
      one_row r s e = cc

      go : (row : Option WorkingRecord) (found : Option Opening) → opened d client path ≡ found → option_map Working row ≡ option_map (working_record d) found
          → map opening_of (option_to_list (option_map (moved_row client path n) row)) ≡ option_to_list (option_map (in_other n) found)
      go None None e k = refl
      go None (Some o) e k = absurd cc
      go (Some r) None e k = absurd cc
      go (Some r) (Some o) e k = ap (λ (x : Opening). x ∷ []) (row_opens d client path o r (Some n) None sound e (one_row (Working r) (working_record d o) k))

  abbrev has_path : Opening → Bool
  has_path o = is_path o.path

  -- their paths are paths
  one_path : list_all has_path (moved_in d client n path) ≡ true
  one_path = go (opened d client path) refl
    where
      go : (found : Option Opening) → opened d client path ≡ found → list_all has_path (option_to_list (option_map (in_other n) found)) ≡ true
      go None e = refl
      go (Some o) e = ap (λ (b : Bool). b && true) (and_parts (is_path o.path) _ (opening_paths_are [] d client path o sound.paths e)).0

abbrev pub of_path : Opening → Bool
of_path o = is_path o.path

all_on : (xs ys : List Opening) → list_all of_path xs ≡ true → list_all of_path ys ≡ true → list_all of_path (xs ++ ys) ≡ true
all_on [] ys e k = k
all_on (x ∷ xs) ys e k = go (is_path x.path) e (λ h. all_on xs ys h k)
  where
    go : (b : Bool) → (b && list_all of_path xs) ≡ true → (list_all of_path xs ≡ true → list_all of_path (xs ++ ys) ≡ true) → (b && list_all of_path (xs ++ ys)) ≡ true
    go true h more = more h
    go false h more = h

pub are_paths : (d : List Deed) (client : List ℕ) (n : ℕ) → IsSound d → (paths : List (List ℕ)) → list_all of_path (flat_map (moved_in d client n) paths) ≡ true
are_paths d client n sound [] = refl
are_paths d client n sound (path ∷ paths) =
    all_on (moved_in d client n path) (flat_map (moved_in d client n) paths) (one_path d client path n sound) (are_paths d client n sound paths)

-- the model's deeds are those
pub moves_are : (d : List Deed) (caller : Caller) (n : ℕ) (paths : List (List ℕ)) → filter_map (moved_to n d caller) paths ≡ map model.Open (flat_map (moved_in d caller.client n) paths)
moves_are d caller n [] = refl
moves_are d caller n (path ∷ paths) = go (opened d caller.client path) (moves_are d caller n paths)
  where
    go : (found : Option Opening) → filter_map (moved_to n d caller) paths ≡ map model.Open (flat_map (moved_in d caller.client n) paths)
        → cons_option (option_map (λ (o : Opening). model.Open (in_other n o)) found) (filter_map (moved_to n d caller) paths)
        ≡ map model.Open (option_to_list (option_map (in_other n) found) ++ flat_map (moved_in d caller.client n) paths)
    go None more = more
    go (Some o) more = ap (λ (l : List Deed). model.Open (in_other n o) ∷ l) more

-- files that are opened may follow any depot
pub opens_follow : (e : List Deed) (openings : List DeedOpening) → list_all of_path (map opening_of openings) ≡ true
    → Follow e (map dones.Open openings) (map model.Open (map opening_of openings))
opens_follow e [] are = tt
opens_follow e (o ∷ openings) are = (
  refl,
  (and_parts (is_path o.path) (list_all of_path (map opening_of openings)) are).0,
  opens_follow (model.Open (opening_of o) ∷ e) openings (and_parts (is_path o.path) (list_all of_path (map opening_of openings)) are).1,
)

-- a file without a row isn't opened
pub unopened_is : (d : List Deed) (caller : Caller) (client path : List ℕ) → caller.client ≡ client → (row : Option WorkingRecord)
    → option_map Working row ≡ option_map (working_record d) (opened d client path) → not_open_in path row ≡ not_open d caller path
unopened_is d caller client path same row is = go row (opened d client path) is ∙ ap (λ (c : List ℕ). refuse_if (is_none (opened d c path)) (NotOpen (printed path))) (sym same)
  where
    go : (row : Option WorkingRecord) (found : Option Opening) → option_map Working row ≡ option_map (working_record d) found → not_open_in path row ≡ refuse_if (is_none found) (NotOpen (printed path))
    go None None e = refl
    go None (Some o) e = absurd cc
    go (Some r) None e = absurd cc
    go (Some r) (Some o) e = refl
