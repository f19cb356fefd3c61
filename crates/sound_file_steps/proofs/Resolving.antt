-- The step that resolves files.
use Rattle.std.proofs.Common.{◌≡◌, ◌≤◌, ℕ, Bool, true, false, List, [], ◌∷◌, Option, Some, None, refl, sym, ap, subst, ◌∙◌, arith}
use Rattle.std.specs.Prelude.{◌&&◌, map, filter, filter_map, IfSome, is_none, option_map, if◌then◌else◌}
use Rattle.std.specs.List.{list_all, cons_option}
use Rattle.std.proofs.lemmas.Bool.{and_parts}
use Rattle.depot_rows.specs.depot_path.Bytes.{same}
use Rattle.depot_rows.specs.depot_path.Path.{is_path, printed}
use Rattle.depot_rows.specs.db_records.declared.key.Key.TheVariants as keys
use Rattle.depot_rows.specs.db_records.declared.record.Record.{Record}
use Rattle.depot_rows.specs.depot_model.Arguments.{named, names, opened_by, over_all, paths_of}
use Rattle.depot_rows.specs.depot_model.Asking.{is_client, to_open}
use Rattle.depot_rows.specs.depot_model.Deeds.{Deed, Spec, Guard, Group, Count, Pend, Drop, Open, Shut, Hold, Free, Got, Tag, Owe, Paid, Land, Opening, Owing, Source}
use Rattle.depot_rows.specs.depot_model.Latest.{is_held}
use Rattle.depot_rows.specs.depot_model.Opened.{opened, owed, paid_by, Resolve}
use Rattle.depot_rows.specs.depot_model.Records.{record_of, resolve_record, at_path}
use Rattle.depot_rows.specs.depot_model.Revisions.{head, is_live_at}
use Rattle.depot_rows.specs.depot_model.Rules.{IsSound, has_paths}
use Rattle.depot_rows.specs.depot_model.Step.{Step, nothing, after, both}
use Rattle.depot_rows.specs.depot_model.Steps.Opening.{right_refusal}
use Rattle.depot_rows.specs.depot_model.Steps.Resolving.{held_of, source_at, own_deeds, other_deeds, resolve_one, resolve_next, resolve_opened, owings, resolve_file, resolve}
use Rattle.depot_rows.specs.depot_model.Steps.Reverting.{not_open}
use Rattle.depot_rows.specs.depot_model.Steps.Submitting.{resolves_of, owed_from, is_unpaid}
use Rattle.depot_rows.specs.depot_model.declared.command.FileArgument.{FileArgument}
use Rattle.depot_rows.specs.depot_model.declared.command.Taking.{Taking}
use Rattle.depot_rows.specs.depot_model.declared.command.Taking.TheVariants.{Theirs, Yours}
use Rattle.depot_rows.specs.depot_model.declared.request.Caller.{Caller}
use Rattle.depot_rows.proofs.Keys.{same-is}
use Rattle.depot_rows.proofs.Spelled.{at_path-here}
use Rattle.sound_deeds.specs.Keeping.{IsTaken}
use Rattle.sound_deeds.specs.Loose.{IsLooseRow}
use Rattle.depot_facts.proofs.OpenFiles.{ArePaths, are_paths}
use Rattle.sound_deeds.proofs.Parts.{loose_of}
use Rattle.depot_facts.proofs.Resolves.{owed_is, IsOwed}
use Rattle.sound_file_steps.proofs.Files.{only}
use Rattle.depot_facts.proofs.PathsTold.{opened_are}
use Rattle.sound_file_steps.proofs.Known.{IsKnown, opened_known, rev_known, client_known}
use Rattle.sound_file_steps.proofs.Moving.{opening_has}
use Rattle.sound_file_steps.proofs.Steady.{Stands, Same, same_self, same_back, same_then, same_after, steady_sound, all_stand}
use Rattle.depot_facts.proofs.Steps.{AllOf, all_filtered, joined, unless_all, within_all, over_any}

-- ---- a resolve that is owed

owed_has : (d : List Deed) → list_all has_paths d ≡ true → (c p f : List ℕ) → IfSome (owed d c p f) (λ r. has_paths (Owe r.owing) ≡ true)
owed_has [] has c p f = tt
owed_has (Owe o ∷ d) has c p f = go (same o.client c && same o.path p && same o.from f) (owed_has d (and_parts (has_paths (Owe o)) (list_all has_paths d) has).1 c p f)
  where
    go : (b : Bool) → IfSome (owed d c p f) (λ r. has_paths (Owe r.owing) ≡ true)
        → IfSome (if b then Some (record { owing = o; how = None }) else owed d c p f) (λ r. has_paths (Owe r.owing) ≡ true)
    go true h = (and_parts (has_paths (Owe o)) (list_all has_paths d) has).0
    go false h = h
owed_has (Paid held from how ∷ d) has c p f =
    go (is_held c p held && same from f) (owed d c p f) (owed_has d (and_parts (has_paths (Paid held from how)) (list_all has_paths d) has).1 c p f)
  where
    go : (b : Bool) (o : Option Resolve) → IfSome o (λ r. has_paths (Owe r.owing) ≡ true)
        → IfSome (if b then option_map (paid_by how) o else o) (λ r. has_paths (Owe r.owing) ≡ true)
    go true None h = tt
    go true (Some r) h = h
    go false o h = h
owed_has (Shut held ∷ d) has c p f = go (is_held c p held) (owed_has d (and_parts (has_paths (Shut held)) (list_all has_paths d) has).1 c p f)
  where
    go : (b : Bool) → IfSome (owed d c p f) (λ r. has_paths (Owe r.owing) ≡ true)
        → IfSome (if b then None else owed d c p f) (λ r. has_paths (Owe r.owing) ≡ true)
    go true h = tt
    go false h = h
owed_has (Spec kind name form ∷ d) has c p f = owed_has d has c p f
owed_has (Guard lines ∷ d) has c p f = owed_has d has c p f
owed_has (Group name users ∷ d) has c p f = owed_has d has c p f
owed_has (Count name value ∷ d) has c p f = owed_has d has c p f
owed_has (Pend x ∷ d) has c p f = owed_has d has c p f
owed_has (Drop n ∷ d) has c p f = owed_has d has c p f
owed_has (Open o ∷ d) has c p f = owed_has d (and_parts (has_paths (Open o)) (list_all has_paths d) has).1 c p f
owed_has (Hold held ∷ d) has c p f = owed_has d (and_parts (has_paths (Hold held)) (list_all has_paths d) has).1 c p f
owed_has (Free held ∷ d) has c p f = owed_has d (and_parts (has_paths (Free held)) (list_all has_paths d) has).1 c p f
owed_has (Got held rev ∷ d) has c p f = owed_has d (and_parts (has_paths (Got held rev)) (list_all has_paths d) has).1 c p f
owed_has (Tag label path rev ∷ d) has c p f = owed_has d (and_parts (has_paths (Tag label path rev)) (list_all has_paths d) has).1 c p f
owed_has (Land l ∷ d) has c p f = owed_has d (and_parts (has_paths (Land l)) (list_all has_paths d) has).1 c p f

pub record IsDue (d : List Deed) (client path : List ℕ) (r : Owing) : Type 0 where
  pub client_is : r.client ≡ client
  pub path_is : r.path ≡ path
  pub pathed : is_path r.path ≡ true
  pub from_pathed : is_path r.from ≡ true
  pub saved : is_client d r.client ≡ true
  pub low : 1 ≤ r.last
  pub high : r.last ≤ head d r.from

pub due : (d : List Deed) → IsSound d → (c p f : List ℕ) → IfSome (owed d c p f) (λ (r : Resolve). IsDue d c p r.owing)
due d sound c p f = go (owed d c p f) refl (owed_is d c p f) (owed_has d sound.paths c p f)
  where
    go : (o : Option Resolve) → owed d c p f ≡ o → IfSome o (IsOwed c p f) → IfSome o (λ r. has_paths (Owe r.owing) ≡ true)
        → IfSome o (λ (r : Resolve). IsDue d c p r.owing)
    go None e of has = tt
    go (Some r) e of has =
        let pathed : is_path (r.owing).path ≡ true = (and_parts (is_path (r.owing).path) _ has).0 in
        let from_pathed : is_path (r.owing).from ≡ true = (and_parts (is_path (r.owing).from) _ (and_parts (is_path (r.owing).path) _ has).1).0 in
        let here : owed d c (r.owing).path (r.owing).from ≡ Some r = (λ i. owed d c (of.1 i) (of.2 i)) ∙ e in
        let row_is : record_of d (keys.Resolve c (printed (r.owing).path) (printed (r.owing).from)) ≡ Some (resolve_record r) =
        at_path-here (r.owing).path (λ x. at_path (printed (r.owing).from) (λ y. option_map resolve_record (owed d c x y))) pathed
        ∙ at_path-here (r.owing).from (λ y. option_map resolve_record (owed d c (r.owing).path y)) from_pathed ∙ ap (option_map resolve_record) here in
        let row : IsLooseRow (record_of d) (resolve_record r) =
        subst (λ (x : Option Record). IfSome x (IsLooseRow (record_of d))) row_is ((loose_of d sound).each (keys.Resolve c (printed (r.owing).path) (printed (r.owing).from))) in
        let revs = row.2 in
        let within = rev_known d (r.owing).from (r.owing).last from_pathed revs.2 in
        record {
          client_is = of.0;
          path_is = of.1;
          pathed = pathed;
          from_pathed = from_pathed;
          saved = client_known d (r.owing).client row.4;
          low = within.low;
          high = within.high;
        }

abbrev AllT : {A : Type 0} → (A → Type 0) → List A → Type 0
AllT P [] = Unit {0}
AllT P (x ∷ xs) = P x × AllT P xs

module _ (d : List Deed) (sound : IsSound d) (c p : List ℕ) where
  abbrev Due : Resolve → Type 0
  Due r = IsDue d c p r.owing

  all_due : (fs : List (List ℕ)) → AllT Due (filter_map (owed d c p) fs)
  all_due [] = tt
  all_due (f ∷ fs) = go (owed d c p f) (due d sound c p f) (all_due fs)
    where
      go : (o : Option Resolve) → IfSome o Due → AllT Due (filter_map (owed d c p) fs) → AllT Due (cons_option o (filter_map (owed d c p) fs))
      go None h rest = rest
      go (Some r) h rest = (h, rest)

  unpaid_due : (rs : List Resolve) → AllT Due rs → AllT (IsDue d c p) (map (λ (r : Resolve). r.owing) (filter is_unpaid rs))
  unpaid_due [] all = tt
  unpaid_due (r ∷ rs) all = go (is_unpaid r) (unpaid_due rs all.1)
    where
      go : (b : Bool) → AllT (IsDue d c p) (map (λ (x : Resolve). x.owing) (filter is_unpaid rs))
          → AllT (IsDue d c p) (map (λ (x : Resolve). x.owing) (if b then r ∷ filter is_unpaid rs else filter is_unpaid rs))
      go true rest = (all.0, rest)
      go false rest = rest

module _ (d : List Deed) (sound : IsSound d) (caller : Caller) (taking : Taking) where
  owings_due : (path : List ℕ) → AllT (IsDue d caller.client path) (owings d caller path)
  owings_due path = go (opened d caller.client path) refl
    where
      go : (x : Option Opening) → opened d caller.client path ≡ x
          → AllT (IsDue d caller.client path) (elim x as (λ _. List Owing) [ None ↦ [] | Some o ↦ map (λ (r : Resolve). r.owing) (filter is_unpaid (resolves_of d o)) ])
      go None e = tt
      go (Some o) e =
          let known : IsKnown d caller.client path o = opened_known d sound caller.client path o e in
          unpaid_due d sound caller.client path (resolves_of d o)
          (subst (λ (c : List ℕ). AllT (λ (r : Resolve). IsDue d c path r.owing) (resolves_of d o)) known.client_is
          (subst (λ (p : List ℕ). AllT (λ (r : Resolve). IsDue d o.client p r.owing) (resolves_of d o)) known.path_is
          (all_due d sound o.client o.path (paths_of (owed_from o.client o.path) d))))

  module _ (e : List Deed) (e_sound : IsSound e) (same_depot : Same d e) (path : List ℕ) where
    at_e : (r : Owing) → IsDue d caller.client path r → IsDue e caller.client path r
    at_e r is = record {
      client_is = is.client_is;
      path_is = is.path_is;
      pathed = is.pathed;
      from_pathed = is.from_pathed;
      saved = sym (same_depot.clients r.client) ∙ is.saved;
      low = is.low;
      high = subst (λ (m : ℕ). r.last ≤ m) (same_depot.heads r.from) is.high;
    }

    -- the opening with another base and source
    based : (o : Opening) → IsKnown e caller.client path o → (base : ℕ) → base ≤ head e o.path → (source : Option Source) → IfSome source (λ s. is_path s.path ≡ true)
        → IfSome source (IsTaken e) → Stands e (Open (record o { base = base; source = source }))
    based o known base le source source_is taken =
        let paths : ArePaths o.path o.moved o.source = are_paths o.path o.moved o.source known.has in
        record {
          has = opening_has o.path o.moved source known.pathed paths.other source_is;
          steady = refl;
          keeps = record { client = (known.keeps).client; base = le; file_type = (known.keeps).file_type; source = taken; moved = (known.keeps).moved };
          ties = known.ties;
        }

    got_stands : (r : Owing) → IsDue e caller.client path r → (n : ℕ) → n ≤ head e r.path → Stands e (Got (held_of r) n)
    got_stands r is n le = record { has = only (is_path r.path) is.pathed; steady = refl; keeps = (λ low. is.saved, le); ties = tt }

    module _ (o : Opening) (known : IsKnown e caller.client path o) (r : Owing) (is : IsDue e caller.client path r) where
      abbrev by_live : Taking → Bool → List Deed
      by_live Theirs b = if b
          then Got (held_of r) r.last ∷ Open (record o { base = r.last; source = Some (source_at r) }) ∷ []
          else Got (held_of r) 0 ∷ Shut (held_of r) ∷ []
      by_live Yours b = Got (held_of r) r.last ∷ Open (record o { base = r.last; source = None }) ∷ []

      live_stands : r.from ≡ r.path → (t : Taking) (b : Bool) → AllOf (Stands e) (by_live t b)
      live_stands own t b = go t b
        where
          under : r.last ≤ head e r.path
          under = subst (λ (x : List ℕ). r.last ≤ head e x) own is.high

          base_under : r.last ≤ head e o.path
          base_under = subst (λ (x : List ℕ). r.last ≤ head e x) (is.path_is ∙ sym known.path_is) under

          go : (x : Taking) (c : Bool) → AllOf (Stands e) (by_live x c)
          go Theirs true = (got_stands r is r.last under, (based o known r.last base_under (Some (source_at r)) is.from_pathed (is.low, is.high), tt))
          go Theirs false = (got_stands r is 0 (omega arith), (record { has = only (is_path r.path) is.pathed; steady = refl; keeps = tt; ties = tt }, tt))
          go Yours c = (got_stands r is r.last under, (based o known r.last base_under None tt tt, tt))

      own_stands : r.from ≡ r.path → (t : Taking) → AllOf (Stands e) (own_deeds e t o r)
      own_stands own Theirs = live_stands own Theirs (is_live_at e r.path r.last)
      own_stands own Yours = live_stands own Yours true

      other_stands : (t : Taking) → AllOf (Stands e) (other_deeds t o r)
      other_stands Theirs = (based o known o.base (known.keeps).base (Some (source_at r)) is.from_pathed (is.low, is.high), tt)
      other_stands Yours = tt

      one_stands : AllOf (Stands e) (resolve_one e taking o r).deeds
      one_stands = (
        record { has = λ i. is.pathed i && (is.from_pathed i && true); steady = refl; keeps = tt; ties = tt },
        go (same r.from r.path) refl,
      )
        where
          go : (b : Bool) → same r.from r.path ≡ b → AllOf (Stands e) (if b then own_deeds e taking o r else other_deeds taking o r)
          go true h = own_stands (same-is r.from r.path h) taking
          go false h = other_stands taking

    opened_stands : (r : Owing) → IsDue d caller.client path r → AllOf (Stands e) (resolve_opened taking e caller path r).deeds
    opened_stands r is = go (opened e caller.client path) refl
      where
        go : (x : Option Opening) → opened e caller.client path ≡ x
            → AllOf (Stands e) (elim x as (λ _. Step) [ None ↦ nothing | Some o ↦ resolve_one e taking o r ]).deeds
        go None h = tt
        go (Some o) h = one_stands o (opened_known e e_sound caller.client path o h) r (at_e r is)

  next_stands : (path : List ℕ) (e : List Deed) → IsSound e → Same d e → (rs : List Owing) → AllT (IsDue d caller.client path) rs
      → AllOf (Stands e) (resolve_next (λ f. resolve_opened taking f caller path) e caller path rs).deeds
  next_stands path e e_sound same_depot [] all = tt
  next_stands path e e_sound same_depot (r ∷ rs) all = go (is_none (opened e caller.client path)) (λ f s h. next_stands path f s h rs all.1)
    where
      act : List Deed → Owing → Step
      act f x = resolve_opened taking f caller path x

      go : (b : Bool) → ((f : List Deed) → IsSound f → Same d f → AllOf (Stands f) (resolve_next (λ f. resolve_opened taking f caller path) f caller path rs).deeds)
          → AllOf (Stands e) (if b then nothing
          else both (resolve_opened taking e caller path r)
          (resolve_next (λ f. resolve_opened taking f caller path) (after e (resolve_opened taking e caller path r).deeds) caller path rs)).deeds
      go true later = tt
      go false later =
          let mine : List Deed = (resolve_opened taking e caller path r).deeds in
          let first : AllOf (Stands e) mine = opened_stands e e_sound same_depot path r all.0 in
          let next : Same e (after e mine) = same_after e mine first in
          let rest : List Deed = (resolve_next (λ f. resolve_opened taking f caller path) (after e mine) caller path rs).deeds in
          joined (Stands e) mine rest first
          (all_stand (after e mine) e (same_back e (after e mine) next) rest
          (later (after e mine) (steady_sound e mine e_sound first) (same_then d e (after e mine) same_depot next)))

  file_stands : (path : List ℕ) → AllOf (Stands d) (resolve_file taking d caller path).deeds
  file_stands path = unless_all (Stands d) (right_refusal to_open d caller path ∷ [])
      (resolve_next (λ e. resolve_opened taking e caller path) d caller path (owings d caller path))
      (λ none. next_stands path d sound (same_self d) (owings d caller path) (owings_due path))

  pub resolve_sound : (files : List FileArgument) → IsSound (after d (resolve d caller taking files).deeds)
  resolve_sound files = steady_sound d (resolve d caller taking files).deeds sound
      (within_all (Stands d) step
      (over_any (Stands d) is_path (named false d caller (opened_by d caller.client)) (λ _. resolve_file taking d caller)
      (λ a. all_filtered is_path (names false d caller a.spec) (opened_by d caller.client) (opened_are d sound.paths caller.client))
      (λ a x is. file_stands x) not_open (λ a. tt) files))
    where
      step : Step
      step = over_all (named false d caller (opened_by d caller.client)) not_open (λ _. resolve_file taking d caller) files
