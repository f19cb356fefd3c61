-- Steps on opened files: lock, unlock, revert, reopen.
use Rattle.std.proofs.Common.{◌≡◌, ℕ, Bool, true, false, List, [], ◌∷◌, ◌++◌, Option, Some, None, inl, inr, refl, sym, subst, ◌∙◌}
use Rattle.std.specs.Prelude.{◌&&◌, ◌==◌, not, flat_map, IfSome, IsSomeAnd, option_and_then, unwrap_or, if◌then◌else◌}
use Rattle.std.specs.List.{list_all}
use Rattle.std.proofs.lemmas.Bool.{and_parts}
use Rattle.depot_rows.specs.depot_path.Bytes.{same}
use Rattle.depot_rows.specs.depot_path.Path.{is_path}
use Rattle.depot_rows.specs.depot_model.Arguments.{named, names, opened_by, over, is_in, within_files}
use Rattle.depot_rows.specs.depot_model.Asking.{to_open, to_write, may_at}
use Rattle.depot_rows.specs.depot_model.Deeds.{Deed, Free, Opening, Pending}
use Rattle.depot_rows.specs.depot_model.Numbers.{pending}
use Rattle.depot_rows.specs.depot_model.Opened.{opened, holder, partner, named_back, is_moved_with}
use Rattle.depot_rows.specs.depot_model.Latest.{when}
use Rattle.depot_rows.specs.depot_model.Rules.{IsSound, IsType}
use Rattle.depot_rows.specs.depot_model.Step.{Step, nothing, does, after, refuse_if, all_of}
use Rattle.depot_rows.specs.depot_model.Steps.Opening.{held, is_of, change_refusal, named_change_refusal, reopened_change_refusal, right_refusal}
use Rattle.depot_rows.specs.depot_model.Steps.Reverting.{selected, is_selected, not_open, lock, lock_file, lock_refusal, unlock, unlock_file, unlock_held, is_held_by, shut, other_end, both_ends, revert_file, revert_files, revert_named, revert_over, revert, moved, reopen_opening, reopen_file, reopen}
use Rattle.depot_rows.specs.depot_model.WellFormed.{is_type_or_none}
use Rattle.depot_rows.specs.depot_model.declared.command.FileArgument.{FileArgument}
use Rattle.depot_rows.specs.depot_model.declared.refusal.Refusal.{Refusal}
use Rattle.depot_rows.specs.depot_model.declared.refusal.Refusal.TheVariants.{NoSuchChange, NotYours}
use Rattle.depot_rows.specs.depot_model.declared.reply.Row.{Row}
use Rattle.depot_rows.specs.depot_model.declared.request.Caller.{Caller}
use Rattle.depot_rows.proofs.Keys.{same-is, number-is}
use Rattle.sound_deeds.specs.Keeping.{IsOpenChange}
use Rattle.sound_file_steps.proofs.Flat.{Meets, Shuts, flat_sound, shuts_sound}
use Rattle.depot_facts.proofs.PathsTold.{opened_are}
use Rattle.sound_file_steps.proofs.Known.{opened_known, IsKnown}
use Rattle.depot_facts.proofs.Steps.{AllOf, not_refused, all_filtered, joined, unless_all, within_all, all_of_all, over_these}

pub only : (b : Bool) → b ≡ true → (b && true) ≡ true
only true e = refl
only false e = e

-- the change that `-c` names is one in which the caller may open files
pub change_ok : (d : List Deed) (caller : Caller) (n : ℕ) → change_refusal d caller n ≡ None → IsOpenChange d caller.client n
change_ok d caller n none = inr (go (pending d n) none)
  where
    go : (p : Option Pending) → (elim p as (λ _. Option Refusal) [ None ↦ Some (NoSuchChange n) | Some p ↦ refuse_if (not (is_of caller p)) (NotYours n) ]) ≡ None
        → IsSomeAnd p (λ x. x.client ≡ caller.client)
    go None e = absurd cc
    go (Some p) e = test (is_of caller p) refl (not_refused (not (is_of caller p)) (NotYours n) e)
      where
        test : (b : Bool) → is_of caller p ≡ b → not b ≡ false → p.client ≡ caller.client
        test true f g = same-is p.client caller.client (and_parts (same p.user caller.user) (same p.client caller.client) f).1
        test false f g = absurd cc

pub named_change_ok : (d : List Deed) (caller : Caller) (change : Option ℕ) → named_change_refusal d caller change ≡ None
    → IsOpenChange d caller.client (unwrap_or change 0)
named_change_ok d caller None none = inl refl
named_change_ok d caller (Some n) none = change_ok d caller n none

module _ (d : List Deed) (caller : Caller) (sound : IsSound d) where
  selected_are : (change : Option ℕ) (a : FileArgument) → list_all is_path (selected d caller change a) ≡ true
  selected_are change a =
      all_filtered is_path (λ path. is_selected change (opened d caller.client path)) (named true d caller (opened_by d caller.client) a)
      (all_filtered is_path (names true d caller a.spec) (opened_by d caller.client) (opened_are d sound.paths caller.client))

  -- ---- lock and unlock

  lock_meets : (path : List ℕ) → is_path path ≡ true → AllOf (Meets d) (lock_file d caller path).deeds
  lock_meets path is = unless_all (Meets d) (right_refusal to_write d caller path ∷ lock_refusal caller path (holder d path) ∷ []) _
      (λ none. (record { has = only (is_path path) is; plain = refl; keeps = tt; ties = tt }, tt))

  pub lock_sound : (change : Option ℕ) (files : List FileArgument) → IsSound (after d (lock d caller change files).deeds)
  lock_sound change files = flat_sound d (lock d caller change files).deeds sound
      (within_all (Meets d) (over (selected d caller change) not_open (λ _. lock_file d caller) [] files)
      (over_these (Meets d) is_path (selected d caller change) (λ _. lock_file d caller) (selected_are change) (λ a x is. lock_meets x is) not_open (λ a. tt) [] files))

  unlock_meets : (path : List ℕ) → is_path path ≡ true → AllOf (Meets d) (unlock_file d caller path).deeds
  unlock_meets path is = unless_all (Meets d) (right_refusal to_write d caller path ∷ []) (unlock_held d caller path) (λ none. go _ (is_held_by caller (holder d path)))
    where
      go : (row : Row) (b : Bool) → AllOf (Meets d) (if b then does (Free (held caller path) ∷ []) row else nothing).deeds
      go row true = (record { has = only (is_path path) is; plain = refl; keeps = tt; ties = tt }, tt)
      go row false = tt

  pub unlock_sound : (change : Option ℕ) (files : List FileArgument) → IsSound (after d (unlock d caller change files).deeds)
  unlock_sound change files = flat_sound d (unlock d caller change files).deeds sound
      (within_all (Meets d) (over (selected d caller change) not_open (λ _. unlock_file d caller) [] files)
      (over_these (Meets d) is_path (selected d caller change) (λ _. unlock_file d caller) (selected_are change) (λ a x is. unlock_meets x is) not_open (λ a. tt) [] files))

  -- ---- revert

  partner_path : (o : Opening) → IfSome (partner d o) (λ p. is_path p.path ≡ true)
  partner_path o = go o.moved
    where
      go : (moved_with : Option (List ℕ)) → IfSome (option_and_then (named_back d o.client o.path) moved_with) (λ p. is_path p.path ≡ true)
      go None = tt
      go (Some other) = at (opened d o.client other) refl
        where
          at : (x : Option Opening) → opened d o.client other ≡ x
              → IfSome (elim x [ None ↦ None | Some p ↦ when (is_moved_with o.path p) p ]) (λ p. is_path p.path ≡ true)
          at None e = tt
          at (Some p) e = test (is_moved_with o.path p)
            where
              test : (b : Bool) → IfSome (when b p) (λ x. is_path x.path ≡ true)
              test true = (opened_known d sound o.client other p e).pathed
              test false = tt

  other_path : (path : List ℕ) → list_all is_path (other_end d caller path) ≡ true
  other_path path = go (opened d caller.client path)
    where
      named_path : (o : Option Opening) → IfSome o (λ p. is_path p.path ≡ true) → list_all is_path (elim o [ None ↦ [] | Some p ↦ p.path ∷ [] ]) ≡ true
      named_path None h = refl
      named_path (Some p) h = only (is_path p.path) h

      go : (o : Option Opening) → list_all is_path (elim (option_and_then (partner d) o) [ None ↦ [] | Some p ↦ p.path ∷ [] ]) ≡ true
      go None = refl
      go (Some o) = named_path (partner d o) (partner_path o)

  both_paths : (path : List ℕ) → is_path path ≡ true → list_all is_path (both_ends d caller path) ≡ true
  both_paths path is = go (may_at d caller path to_open)
    where
      go : (b : Bool) → (is_path path && list_all is_path (if b then other_end d caller path else [])) ≡ true
      go true = (λ i. is i && list_all is_path (other_end d caller path)) ∙ other_path path
      go false = only (is_path path) is

  revert_shuts : (path : List ℕ) → is_path path ≡ true → AllOf Shuts (revert_file d caller path).deeds
  revert_shuts path is = unless_all Shuts (right_refusal to_open d caller path ∷ []) (all_of (shut d caller) (both_ends d caller path))
      (λ none. all_of_all Shuts is_path (shut d caller) (both_ends d caller path) (both_paths path is) (λ x h. (record { held = held caller x; is = refl; has = h }, tt)))

  files_shut : (taken paths : List (List ℕ)) → list_all is_path paths ≡ true → AllOf Shuts (revert_files d caller taken paths).deeds
  files_shut taken [] e = tt
  files_shut taken (path ∷ paths) e =
      joined Shuts (if is_in taken path then nothing else revert_file d caller path).deeds (revert_files d caller (both_ends d caller path ++ taken) paths).deeds
      (go (is_in taken path)) (files_shut (both_ends d caller path ++ taken) paths (and_parts (is_path path) (list_all is_path paths) e).1)
    where
      go : (b : Bool) → AllOf Shuts (if b then nothing else revert_file d caller path).deeds
      go true = tt
      go false = revert_shuts path (and_parts (is_path path) (list_all is_path paths) e).0

  named_shut : (taken : List (List ℕ)) (a : FileArgument) (paths : List (List ℕ)) → list_all is_path paths ≡ true → AllOf Shuts (revert_named d caller taken a paths).deeds
  named_shut taken a [] e = tt
  named_shut taken a (path ∷ paths) e = files_shut taken (path ∷ paths) e

  over_shut : (change : Option ℕ) (taken : List (List ℕ)) (arguments : List FileArgument) → AllOf Shuts (revert_over d caller change taken arguments).deeds
  over_shut change taken [] = tt
  over_shut change taken (a ∷ arguments) =
      let files : List (List ℕ) = selected d caller change a in
      joined Shuts (revert_named d caller taken a files).deeds (revert_over d caller change (flat_map (both_ends d caller) files ++ taken) arguments).deeds
      (named_shut taken a files (selected_are change a)) (over_shut change (flat_map (both_ends d caller) files ++ taken) arguments)

  pub revert_sound : (change : Option ℕ) (files : List FileArgument) → IsSound (after d (revert d caller change files).deeds)
  revert_sound change files = shuts_sound d (revert d caller change files).deeds sound
      (within_all Shuts (revert_over d caller change [] files) (over_shut change [] files))

  -- ---- reopen

  reopened_ok : (change : Option ℕ) → reopened_change_refusal d caller change ≡ None → (o : Opening) → IsKnown d caller.client o.path o
      → IsOpenChange d o.client (unwrap_or change o.change)
  reopened_ok None none o known = known.ties
  reopened_ok (Some n) none o known = go (n == 0) refl none
    where
      go : (b : Bool) → (n == 0) ≡ b → (if b then None else change_refusal d caller n) ≡ None → IsOpenChange d o.client n
      go true e h = inl (number-is n 0 e)
      go false e h = subst (λ (c : List ℕ). IsOpenChange d c n) (sym known.client_is) (change_ok d caller n h)

  typed : (type : Option (List ℕ)) → is_type_or_none type ≡ true → (own : List ℕ) → IsType own → IsType (unwrap_or type own)
  typed None is own h = h
  typed (Some t) is own h = is

  module _ (change : Option ℕ) (type : Option (List ℕ)) (typed_ok : is_type_or_none type ≡ true) where
    opening_meets : reopened_change_refusal d caller change ≡ None → (path : List ℕ) (o : Opening) → opened d caller.client path ≡ Some o
        → AllOf (Meets d) (reopen_opening d caller (moved change type o)).deeds
    opening_meets none path o e = unless_all (Meets d) (right_refusal to_open d caller o.path ∷ []) _ (λ may. (
      record {
        has = known.has;
        plain = refl;
        keeps = record {
          client = (known.keeps).client;
          base = (known.keeps).base;
          file_type = typed type typed_ok o.file_type (known.keeps).file_type;
          source = (known.keeps).source;
          moved = (known.keeps).moved;
        };
        ties = reopened_ok change none o (record {
          client_is = known.client_is;
          path_is = refl;
          has = known.has;
          pathed = known.pathed;
          keeps = known.keeps;
          ties = known.ties;
        });
      },
      tt,
    ))
      where
        known : IsKnown d caller.client path o
        known = opened_known d sound caller.client path o e

    reopen_meets : reopened_change_refusal d caller change ≡ None → (path : List ℕ) → AllOf (Meets d) (reopen_file d caller change type path).deeds
    reopen_meets none path = go (opened d caller.client path) refl
      where
        go : (x : Option Opening) → opened d caller.client path ≡ x
            → AllOf (Meets d) (elim x as (λ _. Step) [ None ↦ nothing | Some o ↦ reopen_opening d caller (moved change type o) ]).deeds
        go None e = tt
        go (Some o) e = opening_meets none path o e

    pub reopen_sound : (files : List FileArgument) → IsSound (after d (reopen d caller change type files).deeds)
    reopen_sound files = flat_sound d (reopen d caller change type files).deeds sound
        (unless_all (Meets d) (reopened_change_refusal d caller change ∷ []) (within_files (over (selected d caller None) not_open (λ _. reopen_file d caller change type) [] files))
        (λ none. within_all (Meets d) (over (selected d caller None) not_open (λ _. reopen_file d caller change type) [] files)
        (over_these (Meets d) is_path (selected d caller None) (λ _. reopen_file d caller change type) (selected_are None)
        (λ a x is. reopen_meets none.0 x) not_open (λ a. tt) [] files)))
