-- Steps that open files: add, edit, delete; and sync.
use Rattle.std.proofs.Common.{◌≡◌, ◌≤◌, ◌<◌, ◌+◌, ◌++◌, ℕ, suc, Bool, true, false, List, [], ◌∷◌, length, Option, Some, None, refl, sym, ap, subst, ◌∙◌, arith}
use Rattle.std.specs.Prelude.{◌&&◌, ◌==◌, max, not, nat_le, nat_lt, codes, find, IfSome, is_some, is_none, unwrap_or, option_map, option_and_then, ◌||◌, if◌then◌else◌}
use Rattle.std.specs.List.{list_all}
use Rattle.std.proofs.lemmas.Bool.Decides.{nat_tests}
use Rattle.std.proofs.lemmas.Bool.{and_parts}
use Rattle.depot_rows.specs.depot_path.Path.{is_path, printed}
use Rattle.depot_rows.specs.depot_path.declared.revision.RevSpec.{RevSpec}
use Rattle.depot_rows.specs.depot_path.declared.revision.RevSpec.TheVariants.{Number, Newest, Have, Zero, Change, Only, Moment, Named}
use Rattle.depot_rows.specs.depot_path.declared.revision.Wanted.{Wanted}
use Rattle.depot_rows.specs.depot_path.declared.revision.Wanted.TheVariants.{Head, One, Range}
use Rattle.depot_rows.specs.db_records.declared.key.Key.TheVariants as keys
use Rattle.depot_rows.specs.db_records.declared.record.Record.{Record}
use Rattle.depot_rows.specs.depot_path.Fit.{texts, filled}
use Rattle.depot_rows.specs.depot_path.declared.piece.Piece.{Piece}
use Rattle.depot_rows.specs.view_map.Carry.{made_of, same_texts, depot_file, is_exclusion}
use Rattle.depot_rows.specs.view_map.Specifiers.{answering}
use Rattle.depot_rows.specs.view_map.Mapping.{files_at, file_by, taken_by_some, hidden_by_some}
use Rattle.depot_rows.specs.view_map.declared.line.ViewLine.{ViewLine}
use Rattle.depot_rows.specs.depot_model.Arguments.{named, names, submitted, had, over, over_all, no_file, within_files, in_client_syntax}
use Rattle.depot_rows.specs.depot_model.Asking.{is_client, is_label, view, to_open, to_read}
use Rattle.depot_rows.specs.depot_model.Choice.{Choice, PassedOver, At, chosen, chosen_by, shown, at_or_above_one}
use Rattle.depot_rows.specs.depot_model.Deeds.{Deed, Open, Got, Owe, Opening, Owing, Source, Action, Add, Edit, Delete, Branch, Integrate, MoveAdd, MoveDelete}
use Rattle.depot_rows.specs.depot_model.Latest.{have, labelled}
use Rattle.depot_rows.specs.depot_model.Opened.{opened}
use Rattle.depot_rows.specs.depot_model.Records.{record_of, rev_record}
use Rattle.depot_rows.specs.depot_model.Revisions.{Revision, revision, revisions, head, last_passing, is_live_head, is_live_at}
use Rattle.depot_rows.specs.depot_model.Rules.{IsSound, IsType, path_or_none}
use Rattle.depot_rows.specs.depot_model.Step.{Step, nothing, does, refuses, after, refuse_if}
use Rattle.depot_rows.specs.depot_model.Steps.Opening.{held, opening_row, right_refusal, named_change_refusal, exclusive_refusal}
use Rattle.depot_rows.specs.depot_model.Steps.Adding as adding
use Rattle.depot_rows.specs.depot_model.Steps.Adding.{first_live}
use Rattle.depot_rows.specs.depot_model.Steps.Editing as editing
use Rattle.depot_rows.specs.depot_model.Steps.Syncing as syncing
use Rattle.depot_rows.specs.depot_model.WellFormed.{is_type_or_none, spells_path}
use Rattle.depot_rows.specs.depot_model.declared.command.FileArgument.{FileArgument}
use Rattle.depot_rows.specs.depot_model.declared.refusal.Refusal.TheVariants.{NotInView, AlreadyOpen, Exists}
use Rattle.depot_rows.specs.depot_model.declared.reply.Row.{Row}
use Rattle.depot_rows.specs.depot_model.declared.request.Caller.{Caller}
use Rattle.depot_rows.proofs.Spelled.{at_path-here}
use Rattle.sound_deeds.specs.Keeping.{is_move}
use Rattle.sound_deeds.specs.Loose.{IsLooseRow}
use Rattle.depot_facts.proofs.OpenFiles.{ArePaths, are_paths}
use Rattle.sound_deeds.proofs.Parts.{loose_of}
use Rattle.sound_deeds.proofs.Unmoved.{le_self}
use Rattle.sound_file_steps.proofs.Files.{only, named_change_ok}
use Rattle.sound_file_steps.proofs.Flat.{Meets, flat_sound}
use Rattle.depot_facts.proofs.PathsTold.{submitted_are, had_are}
use Rattle.sound_file_steps.proofs.Known.{IsKnown, opened_known, have_known, labelled_known}
use Rattle.depot_facts.proofs.Steps.{AllOf, all_filtered, unless_all, within_all, over_where, over_these, over_any}

-- ---- the files at a client path

all_joined : (P : List ℕ → Bool) (xs ys : List (List ℕ)) → list_all P xs ≡ true → list_all P ys ≡ true → list_all P (xs ++ ys) ≡ true
all_joined P [] ys e f = f
all_joined P (x ∷ xs) ys e f = (λ i. (and_parts (P x) (list_all P xs) e).0 i && list_all P (xs ++ ys)) ∙ all_joined P xs ys (and_parts (P x) (list_all P xs) e).1 f

made_path : (to : List Piece) (ts : List (List ℕ)) → IfSome (made_of to ts) (λ file. is_path file ≡ true)
made_path to ts = go (is_path (filled to ts)) refl (same_texts (texts to (filled to ts)) ts)
  where
    go : (b : Bool) → is_path (filled to ts) ≡ b → (c : Bool) → IfSome (if b then (if c then Some (filled to ts) else None) else None) (λ file. is_path file ≡ true)
    go true e true = e
    go true e false = tt
    go false e c = tt

carried_path : (line : ViewLine) (path : List ℕ) → IfSome (depot_file line path) (λ file. is_path file ≡ true)
carried_path line path = go (texts line.client path)
  where
    go : (o : Option (List (List ℕ))) → IfSome (option_and_then (λ ts. made_of line.depot (answering line.client line.depot ts)) o) (λ file. is_path file ≡ true)
    go None = tt
    go (Some ts) = made_path line.depot (answering line.client line.depot ts)

pub files_at_are : (lines : List ViewLine) (path : List ℕ) → list_all is_path (files_at lines path) ≡ true
files_at_are [] path = refl
files_at_are (line ∷ later) path =
    all_joined is_path (files_at later path) (file_by line later path (depot_file line path)) (files_at_are later path)
    (by_line (depot_file line path) (carried_path line path))
  where
    by_line : (o : Option (List ℕ)) → IfSome o (λ file. is_path file ≡ true) → list_all is_path (file_by line later path o) ≡ true
    by_line None is = refl
    by_line (Some file) is = test (is_exclusion line.sign || taken_by_some later file || hidden_by_some later path)
      where
        test : (b : Bool) → list_all is_path (if b then [] else file ∷ []) ≡ true
        test true = refl
        test false = only (is_path file) is

found_in : (P test : List ℕ → Bool) (xs : List (List ℕ)) (other : List ℕ) → list_all P xs ≡ true → P other ≡ true → P (unwrap_or (find test xs) other) ≡ true
found_in P test [] other e is = is
found_in P test (x ∷ xs) other e is = go (test x) (and_parts (P x) (list_all P xs) e).0 (found_in P test xs other (and_parts (P x) (list_all P xs) e).1 is)
  where
    go : (b : Bool) → P x ≡ true → P (unwrap_or (find test xs) other) ≡ true → P (unwrap_or (if b then Some x else find test xs) other) ≡ true
    go true h later = h
    go false h later = later

pub first_live_is : (d : List Deed) (files : List (List ℕ)) → list_all is_path files ≡ true → IfSome (first_live d files) (λ file. is_path file ≡ true)
first_live_is d [] e = tt
first_live_is d (file ∷ files) e = found_in is_path (is_live_head d) (file ∷ files) file e (and_parts (is_path file) (list_all is_path files) e).0

-- ---- types and numbers of revisions

passing_under : (test : Revision → Bool) (n : ℕ) (revs : List Revision) → 1 ≤ n → last_passing test n revs + 1 ≤ n + length revs
passing_under test n [] low = omega arith
passing_under test n (r ∷ revs) low = go (test r) (passing_under test (n + 1) revs (omega arith))
  where
    go : (b : Bool) → last_passing test (n + 1) revs + 1 ≤ (n + 1) + length revs
        → max (if b then n else 0) (last_passing test (n + 1) revs) + 1 ≤ n + suc (length revs)
    go true h = omega arith
    go false h = omega arith

module _ (d : List Deed) (sound : IsSound d) where
  -- the type of a revision
  pub rev_type : (path : List ℕ) (n : ℕ) → is_path path ≡ true → IfSome (revision d path n) (λ r. IsType (r.entry).file_type)
  rev_type path n is = go (revision d path n)
      (subst (λ (o : Option Record). IfSome o (IsLooseRow (record_of d))) (at_path-here path (λ x. option_map (rev_record n) (revision d x n)) is)
      ((loose_of d sound).each (keys.Rev (printed path) n)))
    where
      go : (o : Option Revision) → IfSome (option_map (rev_record n) o) (IsLooseRow (record_of d)) → IfSome o (λ r. IsType (r.entry).file_type)
      go None h = tt
      go (Some r) h = h.3

  passed_under : (test : Revision → Bool) (path : List ℕ) → last_passing test 1 (revisions d path) ≤ head d path
  passed_under test path = let h = passing_under test 1 (revisions d path) (omega arith) in omega (arith, h)

  -- a chosen revision is one of the file
  abbrev Under : List ℕ → Choice → Type 0
  Under path PassedOver = Unit {0}
  Under path (At n) = n ≤ head d path

  above_under : (path : List ℕ) (n : ℕ) → n ≤ head d path → Under path (at_or_above_one n)
  above_under path n le = go (n == 0)
    where
      go : (b : Bool) → Under path (if b then PassedOver else At n)
      go true = tt
      go false = le

  chosen_by_under : (caller : Caller) (path : List ℕ) → is_path path ≡ true → (rev : RevSpec) → Under path (chosen_by d caller path rev)
  chosen_by_under caller path is (Number n) = go (nat_le n (head d path)) refl
    where
      go : (b : Bool) → nat_le n (head d path) ≡ b → Under path (if b then At n else PassedOver)
      go true e = grind (arith, nat_tests)
      go false e = tt
  chosen_by_under caller path is Newest = omega arith
  chosen_by_under caller path is Have = (have_known d sound caller.client path is).within
  chosen_by_under caller path is Zero = omega arith
  chosen_by_under caller path is (Change n) = passed_under _ path
  chosen_by_under caller path is (Only n) = above_under path _ (passed_under _ path)
  chosen_by_under caller path is (Moment t) = passed_under _ path
  chosen_by_under caller path is (Named name) = go (is_label d name)
    where
      go : (b : Bool) → (if b then labelled d name path else have d name path) ≤ head d path
      go true = (labelled_known d sound name path is).within
      go false = (have_known d sound name path is).within

  pub chosen_under : (caller : Caller) (path : List ℕ) → is_path path ≡ true → (wanted : Wanted) → Under path (chosen d caller path wanted)
  chosen_under caller path is Head = omega arith
  chosen_under caller path is (One end) = chosen_by_under caller path is end
  chosen_under caller path is (Range first second) = chosen_by_under caller path is second

  -- ---- add

  module _ (caller : Caller) (saved : is_client d caller.client ≡ true) (change : Option ℕ) where
    add_meets : named_change_refusal d caller change ≡ None → (type path : List ℕ) → IsType type → is_path path ≡ true
        → AllOf (Meets d) (adding.add_file d caller change type path).deeds
    add_meets none type path typed is = unless_all (Meets d)
        (right_refusal to_open d caller path ∷ refuse_if (is_none (shown d caller Head path)) (NotInView (printed path))
        ∷ refuse_if (is_some (opened d caller.client path)) (AlreadyOpen path) ∷ refuse_if (is_live_head d path) (Exists path)
        ∷ exclusive_refusal d path caller.client type ∷ [])
        (does (Open (adding.opening d caller change type path) ∷ []) (opening_row (adding.opening d caller change type path) (shown d caller Head path)))
        (λ free. (
          record {
            has = only (is_path path) is;
            plain = refl;
            keeps = record { client = saved; base = le_self (head d path); file_type = typed; source = tt; moved = refl };
            ties = named_change_ok d caller change none;
          },
          tt,
        ))

    to_add_are : (a : FileArgument) → spells_path a ≡ true → list_all is_path (adding.files_to_add d caller a) ≡ true
    to_add_are a is = each (adding.file_to_add d caller a) (go (in_client_syntax caller.client (a.spec).pattern))
      where
        go : (b : Bool) → IfSome (if b then first_live d (files_at (view d caller.client) (adding.spelled a)) else Some (adding.spelled a)) (λ file. is_path file ≡ true)
        go true = first_live_is d (files_at (view d caller.client) (adding.spelled a)) (files_at_are (view d caller.client) (adding.spelled a))
        go false = is

        each : (o : Option (List ℕ)) → IfSome o (λ file. is_path file ≡ true) → list_all is_path (elim o [ None ↦ [] | Some file ↦ file ∷ [] ]) ≡ true
        each None h = refl
        each (Some file) h = only (is_path file) h

    type_or_text : (type : Option (List ℕ)) → is_type_or_none type ≡ true → IsType (unwrap_or type (codes "text"))
    type_or_text None e = refl
    type_or_text (Some t) e = e

    pub add_sound : (type : Option (List ℕ)) (paths : List FileArgument) → is_type_or_none type ≡ true → list_all spells_path paths ≡ true
        → IsSound (after d (adding.add d caller change type paths).deeds)
    add_sound type paths typed spelled = flat_sound d (adding.add d caller change type paths).deeds sound
        (unless_all (Meets d) (named_change_refusal d caller change ∷ []) (within_files step) (λ none. within_all (Meets d) step
        (over_where (Meets d) is_path spells_path (adding.files_to_add d caller) (λ _. adding.add_file d caller change (unwrap_or type (codes "text"))) to_add_are
        (λ a x is. add_meets none.0 (unwrap_or type (codes "text")) x (type_or_text type typed) is) missing (λ a. tt) [] paths spelled)))
      where
        missing : FileArgument → Step
        missing a = refuses (NotInView (printed (adding.spelled a)))

        step : Step
        step = over (adding.files_to_add d caller) missing (λ _. adding.add_file d caller change (unwrap_or type (codes "text"))) [] paths

    -- ---- edit, delete

    named_had_are : (a : FileArgument) → list_all is_path (named false d caller (had d caller.client) a) ≡ true
    named_had_are a = all_filtered is_path (names false d caller a.spec) (had d caller.client) (had_are d sound.paths caller.client)

    had_typed : (path : List ℕ) → is_path path ≡ true → IsType (editing.had_type d caller path)
    had_typed path is = go (revision d path (have d caller.client path)) (rev_type path (have d caller.client path) is)
      where
        go : (o : Option Revision) → IfSome o (λ r. IsType (r.entry).file_type) → IsType (elim o [ None ↦ codes "text" | Some r ↦ (r.entry).file_type ])
        go None h = refl
        go (Some r) h = h

    type_or_had : (type : Option (List ℕ)) → is_type_or_none type ≡ true → (path : List ℕ) → is_path path ≡ true → IsType (unwrap_or type (editing.had_type d caller path))
    type_or_had None e path is = had_typed path is
    type_or_had (Some t) e path is = e

    -- an opening whose source is cleared
    cleared_has : (path : List ℕ) (moved : Option (List ℕ)) (source : Option Source) → ArePaths path moved source
        → list_all is_path (path ∷ path_or_none moved ++ []) ≡ true
    cleared_has path None source h = only (is_path path) h.own
    cleared_has path (Some p) source h = (λ i. h.own i && (h.other i && true))

    cleared : (path : List ℕ) (o : Opening) → IsKnown d caller.client path o → (action : Action) → is_move action ≡ is_move o.action
        → Meets d (Open (record o { action = action; source = None }))
    cleared path o known action same_move = record {
      has = cleared_has o.path o.moved o.source (are_paths o.path o.moved o.source known.has);
      plain = refl;
      keeps = record {
        client = (known.keeps).client;
        base = (known.keeps).base;
        file_type = (known.keeps).file_type;
        source = tt;
        moved = (known.keeps).moved ∙ sym same_move;
      };
      ties = known.ties;
    }

    edited_meets : (path : List ℕ) (o : Opening) → IsKnown d caller.client path o → IfSome (editing.edited o) (λ x. Meets d (Open x))
    edited_meets path o known = go o.action refl (is_some o.source)
      where
        go : (a : Action) → o.action ≡ a → (b : Bool)
            → IfSome (elim a as (λ _. Option Opening) [
              | Branch ↦ Some (record o { action = Add; source = None })
              | Integrate ↦ Some (record o { action = Edit; source = None })
              | Edit ↦ if b then Some (record o { source = None }) else None
              | _ ↦ None
            ]) (λ x. Meets d (Open x))
        go Branch e b = cleared path o known Add (sym (ap is_move e))
        go Integrate e b = cleared path o known Edit (sym (ap is_move e))
        go Edit e true = cleared path o known o.action refl
        go Edit e false = tt
        go Add e b = tt
        go Delete e b = tt
        go MoveAdd e b = tt
        go MoveDelete e b = tt

    reopened_meets : (action : Action) (path : List ℕ) (o : Opening) → IsKnown d caller.client path o → IfSome (editing.reopened action o) (λ x. Meets d (Open x))
    reopened_meets Edit path o known = edited_meets path o known
    reopened_meets Add path o known = tt
    reopened_meets Delete path o known = tt
    reopened_meets Branch path o known = tt
    reopened_meets Integrate path o known = tt
    reopened_meets MoveAdd path o known = tt
    reopened_meets MoveDelete path o known = tt

    module _ (action : Action) (still : is_move action ≡ false) (type : Option (List ℕ)) (typed : is_type_or_none type ≡ true)
        (free : named_change_refusal d caller change ≡ None) where
      new_meets : (path : List ℕ) → is_path path ≡ true → (own : List ℕ) → IsType own → Meets d (Open (editing.opening d caller action change own path))
      new_meets path is own own_type = record {
        has = only (is_path path) is;
        plain = refl;
        keeps = record {
          client = saved;
          base = (have_known d sound caller.client path is).within;
          file_type = own_type;
          source = tt;
          moved = sym still;
        };
        ties = named_change_ok d caller change free;
      }

      next_meets : (path : List ℕ) → is_path path ≡ true
          → IfSome (editing.next_opening d caller action change (editing.new_type d caller type path) path) (λ o. Meets d (Open o))
      next_meets path is = go (opened d caller.client path) refl
        where
          go : (x : Option Opening) → opened d caller.client path ≡ x
              → IfSome (elim x as (λ _. Option Opening) [
                | None ↦ Some (editing.opening d caller action change (elim x [ Some o ↦ o.file_type | None ↦ unwrap_or type (editing.had_type d caller path) ]) path)
                | Some o ↦ editing.reopened action o
              ]) (λ o. Meets d (Open o))
          go None e = new_meets path is (unwrap_or type (editing.had_type d caller path)) (type_or_had type typed path is)
          go (Some o) e = reopened_meets action path o (opened_known d sound caller.client path o e)

      open_meets : (path : List ℕ) → is_path path ≡ true → AllOf (Meets d) (editing.open_file d caller action change type path).deeds
      open_meets path is = unless_all (Meets d)
          (right_refusal to_open d caller path ∷ refuse_if (is_none (shown d caller Head path)) (NotInView (printed path))
          ∷ exclusive_refusal d path caller.client (editing.new_type d caller type path) ∷ [])
          (elim (editing.next_opening d caller action change (editing.new_type d caller type path) path) [
            | None ↦ refuses (AlreadyOpen path)
            | Some o ↦ does (Open o ∷ []) (opening_row o (shown d caller Head path))
          ])
          (λ none. go (editing.next_opening d caller action change (editing.new_type d caller type path) path) (next_meets path is))
        where
          go : (x : Option Opening) → IfSome x (λ o. Meets d (Open o))
              → AllOf (Meets d) (elim x as (λ _. Step) [ None ↦ refuses (AlreadyOpen path) | Some o ↦ does (Open o ∷ []) (opening_row o (shown d caller Head path)) ]).deeds
          go None h = tt
          go (Some o) h = (h, tt)

    pub had_sound : (action : Action) → is_move action ≡ false → (type : Option (List ℕ)) → is_type_or_none type ≡ true → (files : List FileArgument)
        → IsSound (after d (editing.open_had action d caller change type files).deeds)
    had_sound action still type typed files = flat_sound d (editing.open_had action d caller change type files).deeds sound
        (unless_all (Meets d) (named_change_refusal d caller change ∷ []) (within_files step) (λ none. within_all (Meets d) step
        (over_these (Meets d) is_path (named false d caller (had d caller.client)) (λ _. editing.open_file d caller action change type) named_had_are
        (λ a x is. open_meets action still type typed none.0 x is) no_file (λ a. tt) [] files)))
      where
        step : Step
        step = over (named false d caller (had d caller.client)) no_file (λ _. editing.open_file d caller action change type) [] files

    pub edit_sound : (type : Option (List ℕ)) → is_type_or_none type ≡ true → (files : List FileArgument) → IsSound (after d (editing.edit d caller change type files).deeds)
    edit_sound type typed files = had_sound Edit refl type typed files

    pub delete_sound : (files : List FileArgument) → IsSound (after d (editing.delete d caller change files).deeds)
    delete_sound files = had_sound Delete refl None refl files

  -- ---- sync

  module _ (caller : Caller) (saved : is_client d caller.client ≡ true) (again : Bool) where
    synced : (path : List ℕ) (wanted : ℕ) → is_path path ≡ true → wanted ≤ head d path → Meets d (Got (held caller path) wanted)
    synced path wanted is le = record { has = only (is_path path) is; plain = refl; keeps = (λ low. saved, le); ties = tt }

    have_meets : (path : List ℕ) (wanted : ℕ) → is_path path ≡ true → wanted ≤ head d path → AllOf (Meets d) (syncing.sync_have again d caller path wanted).deeds
    have_meets path wanted is le = go (syncing.sync_word again (have d caller.client path) wanted) _
      where
        changed : (b : Bool) → AllOf (Meets d) (if b then [] else Got (held caller path) wanted ∷ [])
        changed true = tt
        changed false = (synced path wanted is le, tt)

        go : (word : Option (List ℕ)) (row : List ℕ → Row)
            → AllOf (Meets d) (elim word as (λ _. Step) [
              | None ↦ nothing
              | Some w ↦ does (syncing.changes_to (have d caller.client path) wanted (held caller path)) (row w)
            ]).deeds
        go None row = tt
        go (Some w) row = changed (have d caller.client path == wanted)

    owed_meets : (o : Opening) (path : List ℕ) (n : ℕ) → is_path path ≡ true → opened d caller.client path ≡ Some o → n ≤ head d path
        → AllOf (Meets d) (syncing.sync_opened d caller o path n).deeds
    owed_meets o path n is e le = go (nat_lt o.base n) refl (not (syncing.is_owed d caller path n)) _
      where
        owing : Owing
        owing = record { client = caller.client; path = path; from = path; first = o.base + 1; last = n }

        go : (b : Bool) → nat_lt o.base n ≡ b → (c : Bool) (row : Row)
            → AllOf (Meets d) (if b && c then does (Owe (record { client = caller.client; path = path; from = path; first = o.base + 1; last = n }) ∷ []) row else nothing).deeds
        go true f true row =
            let above : o.base < n = grind (arith, nat_tests) in (
              record {
                has = (λ i. is i && (is i && true));
                plain = refl;
                keeps = (saved, ap is_some e, omega arith, omega arith, le);
                ties = tt;
              },
              tt,
            )
        go true f false row = tt
        go false f c row = tt

    to_meets : (a : FileArgument) (path : List ℕ) → is_path path ≡ true → (choice : Choice) → Under path choice
        → AllOf (Meets d) (syncing.sync_to again d caller a path choice).deeds
    to_meets a path is PassedOver under = tt
    to_meets a path is (At n) under = go (opened d caller.client path) refl
      where
        wanted_under : (b : Bool) → is_live_at d path n ≡ b → (c : Bool) → (if c && b then n else 0) ≤ head d path
        wanted_under true e true = under
        wanted_under true e false = omega arith
        wanted_under false e true = omega arith
        wanted_under false e false = omega arith

        go : (x : Option Opening) → opened d caller.client path ≡ x
            → AllOf (Meets d) (elim x as (λ _. Step) [
              | Some o ↦ syncing.sync_opened d caller o path n
              | None ↦ syncing.sync_have again d caller path (syncing.wanted_rev d caller a path n)
            ]).deeds
        go None e = have_meets path (syncing.wanted_rev d caller a path n) is
            (wanted_under (is_live_at d path n) refl (is_some (shown d caller (a.spec).wanted path)))
        go (Some o) e = owed_meets o path n is e under

    sync_meets : (a : FileArgument) (path : List ℕ) → is_path path ≡ true → AllOf (Meets d) (syncing.sync_file again d caller a path).deeds
    sync_meets a path is = unless_all (Meets d) (right_refusal to_read d caller path ∷ []) (syncing.sync_to again d caller a path (chosen d caller path (a.spec).wanted))
        (λ none. to_meets a path is (chosen d caller path (a.spec).wanted) (chosen_under caller path is (a.spec).wanted))

    shown_alone : (shows : Bool) (step : Step) → AllOf (Meets d) step.deeds → AllOf (Meets d) (syncing.shows_alone shows step).deeds
    shown_alone true step h = tt
    shown_alone false step h = h

    named_submitted_are : (a : FileArgument) → list_all is_path (named false d caller (submitted d) a) ≡ true
    named_submitted_are a = all_filtered is_path (names false d caller a.spec) (submitted d) (submitted_are d sound.paths)

    pub sync_sound : (shows : Bool) (files : List FileArgument) → IsSound (after d (syncing.sync d caller again shows files).deeds)
    sync_sound shows files = flat_sound d (syncing.sync d caller again shows files).deeds sound
        (within_all (Meets d) (syncing.shows_alone shows step) (shown_alone shows step
        (over_any (Meets d) is_path (named false d caller (submitted d)) (syncing.sync_file again d caller) named_submitted_are
        (λ a x is. sync_meets a x is) no_file (λ a. tt) files)))
      where
        step : Step
        step = over_all (named false d caller (submitted d)) no_file (syncing.sync_file again d caller) files
