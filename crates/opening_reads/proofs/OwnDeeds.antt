-- What a client has opened within a command, and that other clients keep theirs.
use Rattle.std.proofs.Common.{◌≡◌, ℕ, Bool, true, false, cond, List, [], ◌∷◌, ◌++◌, Option, Some, None, refl, sym, ap, subst, ◌∙◌, length, take, drop, get_or, ◌-◌, ◌≤◌, ◌<◌, arith}
use Rattle.std.specs.Prelude.{◌&&◌, ◌||◌, filter, find, if◌then◌else◌, is_some, not, option_map}
use Rattle.std.specs.BTreeMap.{Updates, get}
use Rattle.std.specs.List.{list_all}
use Rattle.std.specs.Option.{option_flatten, option_map_or, option_or}
use Rattle.std.specs.Ordering.{is_lt, nat_cmp}
use Rattle.std.specs.Cmp.Lexicographic.{slice_cmp}
use Rattle.std.proofs.lemmas.Bool.{false≢true, and_parts}
use Rattle.std.proofs.lemmas.Option.{same_Some}
use Rattle.depot_rows.specs.depot_path.Bytes.{same}
use Rattle.depot_rows.specs.depot_path.Order.{path_cmp}
use Rattle.depot_rows.specs.depot_path.OrderLaws.{paths_ties}
use Rattle.depot_rows.specs.depot_model.declared.refusal.Refusal.TheVariants.{ExclusiveOpen}
use Rattle.depot_rows.specs.depot_model.Deeds.{Deed, Spec, Guard, Group, Count, Pend, Drop, Open, Shut, Hold, Free, Got, Tag, Owe, Paid, Land, Opening, Held, Owing, How}
use Rattle.depot_rows.specs.depot_model.Latest.{keys_of, latest, when}
use Rattle.depot_rows.specs.depot_model.Opened.{opened, opening_said}
use Rattle.depot_rows.specs.depot_model.Sorted.{inserted}
use Rattle.depot_rows.specs.depot_model.Step.{after}
use Rattle.depot_rows.specs.depot_model.Steps.Opening.{barred_by, bars, exclusive_refusal, is_exclusive, opener_of}
use Rattle.depot_rows.specs.Deed.{IsDeed, opening_of}
use Rattle.depot_rows.specs.Effects.{Follow}
use Rattle.depot_rows.specs.declared.deed.Deed.{Deed as Done}
use Rattle.depot_rows.specs.declared.deed.Deed.TheVariants as dones
use Rattle.depot_rows.specs.declared.deed.Opening.{Opening as DoneOpening}
use Rattle.depot_rows.proofs.Keys.{same-is}
use Rattle.opening_reads.specs.OwnOpenings.{BecomesBy, Came, Changed, IsOwn, is_of, opened_after}
use Rattle.opening_reads.specs.declared.own_openings.OwnOpenings.{OwnOpenings}
use Rattle.opening_reads.proofs.Onwards.{all_but_first}

-- ---- deeds on the files of a client

pub came_on : (client : List ℕ) (d e : List Deed) (deed : Deed) → is_of client deed ≡ true → Came client d e → Came client d (deed ∷ e)
came_on client d e deed is came = record {
  deeds = deed ∷ came.deeds;
  those = ap (λ (x : List Deed). deed ∷ x) came.those;
  own = (λ i. is i && list_all (is_of client) came.deeds) ∙ came.own;
}

-- what is so of each such deed
pub of_each : (client : List ℕ) (P : Deed → Type 0) → ((o : Opening) → P (Open o)) → ((held : Held) → P (Shut held)) → ((held : Held) (rev : ℕ) → P (Got held rev))
    → ((o : Owing) → P (Owe o)) → ((held : Held) (from : List ℕ) (how : How) → P (Paid held from how)) → (deed : Deed) → is_of client deed ≡ true → P deed
of_each client P opens shuts gets owes pays (Open o) is = opens o
of_each client P opens shuts gets owes pays (Shut held) is = shuts held
of_each client P opens shuts gets owes pays (Got held rev) is = gets held rev
of_each client P opens shuts gets owes pays (Owe o) is = owes o
of_each client P opens shuts gets owes pays (Paid held from how) is = pays held from how
of_each client P opens shuts gets owes pays (Spec kind name form) is = absurd (false≢true is)
of_each client P opens shuts gets owes pays (Guard lines) is = absurd (false≢true is)
of_each client P opens shuts gets owes pays (Group name users) is = absurd (false≢true is)
of_each client P opens shuts gets owes pays (Count name value) is = absurd (false≢true is)
of_each client P opens shuts gets owes pays (Pend p) is = absurd (false≢true is)
of_each client P opens shuts gets owes pays (Drop n) is = absurd (false≢true is)
of_each client P opens shuts gets owes pays (Hold held) is = absurd (false≢true is)
of_each client P opens shuts gets owes pays (Free held) is = absurd (false≢true is)
of_each client P opens shuts gets owes pays (Tag label path rev) is = absurd (false≢true is)
of_each client P opens shuts gets owes pays (Land l) is = absurd (false≢true is)

-- what no such deed changes stays
module _ {A : Type 0} (client : List ℕ) (says : List Deed → A)
    (stays : (deed : Deed) (e : List Deed) → is_of client deed ≡ true → says (deed ∷ e) ≡ says e) where
  kept_under : (d deeds : List Deed) → list_all (is_of client) deeds ≡ true → says (deeds ++ d) ≡ says d
  kept_under d [] own = refl
  kept_under d (deed ∷ deeds) own =
      stays deed (deeds ++ d) (and_parts (is_of client deed) (list_all (is_of client) deeds) own).0
      ∙ kept_under d deeds (and_parts (is_of client deed) (list_all (is_of client) deeds) own).1

  pub kept : (d e : List Deed) → Came client d e → says e ≡ says d
  kept d e came = ap says came.those ∙ kept_under d came.deeds came.own

-- ---- who has a file opened, after one deed

module _ (client : List ℕ) (e : List Deed) where
  opened_here : (o : Opening) (path : List ℕ) → same o.client client ≡ true → opened (Open o ∷ e) client path ≡ (if same o.path path then Some o else opened e client path)
  opened_here o path is = go (same o.client client) (same o.path path) is
    where
      go : (a b : Bool) → a ≡ true → option_flatten (option_or (when (a && b) (Some o)) (latest (opening_said client path) e)) ≡ (if b then Some o else opened e client path)
      go true true k = refl
      go true false k = refl
      go false b k = absurd (false≢true k)

  shut_here : (held : Held) (path : List ℕ) → same held.client client ≡ true
      → opened (Shut held ∷ e) client path ≡ (if same held.path path then None else opened e client path)
  shut_here held path is = go (same held.client client) (same held.path path) is
    where
      go : (a b : Bool) → a ≡ true → option_flatten (option_or (when (a && b) None) (latest (opening_said client path) e)) ≡ (if b then None else opened e client path)
      go true true k = refl
      go true false k = refl
      go false b k = absurd (false≢true k)

  apart : (owner other : List ℕ) → same owner client ≡ true → same other client ≡ false → same owner other ≡ false
  apart owner other is not_own = go (same owner other) refl
    where
      go : (b : Bool) → same owner other ≡ b → b ≡ false
      go false k = refl
      go true k = absurd (false≢true (sym not_own ∙ ap (λ (x : List ℕ). same x client) (sym (same-is owner other k)) ∙ is))

  opened_there : (o : Opening) (other path : List ℕ) → same o.client client ≡ true → same other client ≡ false → opened (Open o ∷ e) other path ≡ opened e other path
  opened_there o other path is not_own =
      ap (λ (a : Bool). option_flatten (option_or (when (a && same o.path path) (Some o)) (latest (opening_said other path) e))) (apart o.client other is not_own)

  shut_there : (held : Held) (other path : List ℕ) → same held.client client ≡ true → same other client ≡ false → opened (Shut held ∷ e) other path ≡ opened e other path
  shut_there held other path is not_own =
      ap (λ (a : Bool). option_flatten (option_or (when (a && same held.path path) None) (latest (opening_said other path) e))) (apart held.client other is not_own)

-- ---- what stands in place of the openings before

abbrev after_of : Option Opening → Option (Option DoneOpening) → Option Opening
after_of before changed = elim changed as (λ _. Option Opening) [ None ↦ before | Some opening ↦ option_map opening_of opening ]

put_at : (old new : Changed) (at : List ℕ) (w : Option DoneOpening) → Updates path_cmp old new at (Some w) → (path : List ℕ) (before : Option Opening)
    → opened_after new path before ≡ (if same at path then option_map opening_of w else opened_after old path before)
put_at old new at w up path before =
    ap (after_of before) (up.0 path ∙ ap (λ (b : Bool). cond b (Some w) (get path_cmp old path)) (sym (paths_ties at path))) ∙ go (same at path)
  where
    go : (b : Bool) → after_of before (cond b (Some w) (get path_cmp old path)) ≡ (if b then option_map opening_of w else opened_after old path before)
    go true = refl
    go false = refl

module _ (client : List ℕ) (d e : List Deed) (old new : OwnOpenings) (was : IsOwn old client d e) where
  opens : (o : DoneOpening) → is_of client (Open (opening_of o)) ≡ true → Updates path_cmp old.changed new.changed o.path (Some (Some o))
      → IsOwn new client d (Open (opening_of o) ∷ e)
  opens o is up = record {
    came = came_on client d e (Open (opening_of o)) is was.came;
    told = λ path. opened_here client e (opening_of o) path is
        ∙ ap (λ (x : Option Opening). if same o.path path then Some (opening_of o) else x) (was.told path)
        ∙ sym (put_at old.changed new.changed o.path (Some o) up path (opened d client path));
  }

  shuts : (held : Held) → is_of client (Shut held) ≡ true → Updates path_cmp old.changed new.changed held.path (Some None) → IsOwn new client d (Shut held ∷ e)
  shuts held is up = record {
    came = came_on client d e (Shut held) is was.came;
    told = λ path. shut_here client e held path is
        ∙ ap (λ (x : Option Opening). if same held.path path then None else x) (was.told path)
        ∙ sym (put_at old.changed new.changed held.path None up path (opened d client path));
  }

  stays_so : (deed : Deed) → is_of client deed ≡ true → ((path : List ℕ) → opened (deed ∷ e) client path ≡ opened e client path) → new.changed ≡ old.changed
      → IsOwn new client d (deed ∷ e)
  stays_so deed is still one = record {
    came = came_on client d e deed is was.came;
    told = λ path. still path ∙ was.told path ∙ ap (λ (x : Changed). opened_after x path (opened d client path)) (sym one);
  }

  abbrev Noted : Deed → Type 0
  Noted deed = is_of client deed ≡ true → IsOwn new client d (deed ∷ e)

  none_of : (deed : Deed) → is_of client deed ≡ false → Noted deed
  none_of deed other is = absurd (false≢true (sym other ∙ is))

  pub own_deed : (done : Done) (deed : Deed) → IsDeed e done deed → BecomesBy done old.changed new.changed → is_of client deed ≡ true → IsOwn new client d (deed ∷ e)
  own_deed (dones.Open o) deed one becomes = subst Noted (same_Some _ _ one) (λ is. opens o is becomes)
  own_deed (dones.Shut held) deed one becomes = subst Noted (same_Some _ _ one) (λ is. shuts _ is becomes)
  own_deed (dones.Got held rev) deed one becomes = subst Noted (same_Some _ _ one) (λ is. stays_so _ is (λ path. refl) becomes)
  own_deed (dones.Owe o) deed one becomes = subst Noted (same_Some _ _ one) (λ is. stays_so _ is (λ path. refl) becomes)
  own_deed (dones.Paid held from how) deed one becomes = subst Noted (same_Some _ _ one) (λ is. stays_so _ is (λ path. refl) becomes)
  own_deed (dones.Spec kind name form) deed one becomes = subst Noted (same_Some _ _ one) (none_of _ refl)
  own_deed (dones.Guard lines) deed one becomes = subst Noted (same_Some _ _ one) (none_of _ refl)
  own_deed (dones.Group name users) deed one becomes = subst Noted (same_Some _ _ one) (none_of _ refl)
  own_deed (dones.Count name value) deed one becomes = subst Noted (same_Some _ _ one) (none_of _ refl)
  own_deed (dones.Pend p) deed one becomes = subst Noted (same_Some _ _ one) (none_of _ refl)
  own_deed (dones.Drop n) deed one becomes = subst Noted (same_Some _ _ one) (none_of _ refl)
  own_deed (dones.Hold held) deed one becomes = subst Noted (same_Some _ _ one) (none_of _ refl)
  own_deed (dones.Free held) deed one becomes = subst Noted (same_Some _ _ one) (none_of _ refl)
  own_deed (dones.Tag label path rev) deed one becomes = subst Noted (same_Some _ _ one) (none_of _ refl)
  own_deed (dones.Land l) deed one becomes = subst Noted one.1 (none_of _ refl)

-- ---- deeds one after another

-- of some deeds those that are left are still to be noted
pub record IsNoted (client : List ℕ) (d end : List Deed) (left : List Done) (own : OwnOpenings) : Type 0 where
  pub now : List Deed
  pub deeds : List Deed
  pub follow : Follow now left deeds
  pub theirs : list_all (is_of client) deeds ≡ true
  pub own_now : IsOwn own client d now
  pub whole : after now deeds ≡ end

pub noted_on : (client : List ℕ) (d end : List Deed) (left : List Done) (deed : Done) (old new : OwnOpenings) → 1 ≤ length left → deed ≡ get_or left 0 deed
    → BecomesBy deed old.changed new.changed → IsNoted client d end left old → IsNoted client d end (take (length left - 1) (drop 1 left)) new
noted_on client d end [] deed old new some first becomes was = absurd (omega arith)
noted_on client d end (x ∷ left) deed old new some first becomes was =
    subst (λ (l : List Done). IsNoted client d end l new) (sym (all_but_first x left)) (go was.deeds was.follow was.theirs was.whole)
  where
    go : (deeds : List Deed) → Follow was.now (x ∷ left) deeds → list_all (is_of client) deeds ≡ true → after was.now deeds ≡ end → IsNoted client d end left new
    go [] follow theirs whole = absurd follow
    go (y ∷ deeds) follow theirs whole = record {
      now = y ∷ was.now;
      deeds = deeds;
      follow = follow.2;
      theirs = (and_parts (is_of client y) (list_all (is_of client) deeds) theirs).1;
      own_now = own_deed client d was.now old new was.own_now x y follow.0 (subst (λ (z : Done). BecomesBy z old.changed new.changed) first becomes)
          (and_parts (is_of client y) (list_all (is_of client) deeds) theirs).0;
      whole = whole;
    }

pub noted_all : (client : List ℕ) (d end : List Deed) (left : List Done) (own : OwnOpenings) → length left < 1 → IsNoted client d end left own → IsOwn own client d end
noted_all client d end (x ∷ left) own few was = absurd (omega arith)
noted_all client d end [] own few was = go was.deeds was.follow was.whole
  where
    go : (deeds : List Deed) → Follow was.now [] deeds → after was.now deeds ≡ end → IsOwn own client d end
    go [] follow whole = subst (λ (x : List Deed). IsOwn own client d x) whole was.own_now
    go (y ∷ deeds) follow whole = absurd follow

-- ---- what the client has opened

module _ (own : OwnOpenings) (client : List ℕ) (d e : List Deed) (was : IsOwn own client d e) (path : List ℕ) where
  pub opened_then : (w : Option DoneOpening) → get path_cmp own.changed path ≡ Some w → option_map opening_of w ≡ opened e client path
  opened_then w found = sym (was.told path ∙ ap (after_of (opened d client path)) found)

  pub opened_before : get path_cmp own.changed path ≡ None → opened d client path ≡ opened e client path
  opened_before found = sym (was.told path ∙ ap (after_of (opened d client path)) found)

pub still_some : (w : Option DoneOpening) → is_some w ≡ is_some (option_map opening_of w)
still_some None = refl
still_some (Some o) = refl

-- ---- what other clients keep from being opened

find_among : (has p : List ℕ → Bool) (cs : List (List ℕ)) → find p (filter has cs) ≡ find (λ c. has c && p c) cs
find_among has p [] = refl
find_among has p (c ∷ cs) = go (has c) (find_among has p cs)
  where
    go : (b : Bool) → find p (filter has cs) ≡ find (λ x. has x && p x) cs
        → find p (if b then c ∷ filter has cs else filter has cs) ≡ cond (b && p c) (Some c) (find (λ x. has x && p x) cs)
    go true more = ap (λ (x : Option (List ℕ)). cond (p c) (Some c) x) more
    go false more = more

-- a name that doesn't count is of no account
find_beside : (p : List ℕ → Bool) (c : List ℕ) → p c ≡ false → (cs : List (List ℕ)) → find p (inserted c cs) ≡ find p cs
find_beside p c un [] = ap (λ (b : Bool). cond b (Some c) None) un
find_beside p c un (x ∷ cs) = go (same c x) (is_lt (slice_cmp nat_cmp c x)) (find_beside p c un cs)
  where
    go : (s t : Bool) → find p (inserted c cs) ≡ find p cs → find p (if s then x ∷ cs else (if t then c ∷ x ∷ cs else x ∷ inserted c cs)) ≡ find p (x ∷ cs)
    go true t more = refl
    go false true more = ap (λ (b : Bool). cond b (Some c) (find p (x ∷ cs))) un
    go false false more = ap (λ (y : Option (List ℕ)). cond (p x) (Some x) y) more

and_false : (b : Bool) → (b && false) ≡ false
and_false true = refl
and_false false = refl

module _ (client path type : List ℕ) where
  abbrev has_it : List Deed → List ℕ → Bool
  has_it e c = is_some (opened e c path)

  abbrev exclusive_in : Option Opening → Bool
  exclusive_in o = elim o as (λ _. Bool) [ None ↦ false | Some x ↦ is_exclusive x.file_type ]

  abbrev counts_by : List ℕ → Option Opening → Bool
  counts_by c o = is_some o && (not (same c client) && (is_exclusive type || exclusive_in o))

  abbrev counts : List Deed → List ℕ → Bool
  counts e c = has_it e c && bars e path client type c

  own_counts_not : (e : List Deed) (c : List ℕ) → same c client ≡ true → counts e c ≡ false
  own_counts_not e c is =
      ap (λ (s : Bool). has_it e c && (not s && (is_exclusive type || exclusive_in (opened e c path)))) is ∙ and_false (has_it e c)

  counts_alike : (f e : List Deed) (c : List ℕ) → (same c client ≡ false → opened f c path ≡ opened e c path) → counts f c ≡ counts e c
  counts_alike f e c alike = go (same c client) refl
    where
      go : (b : Bool) → same c client ≡ b → counts f c ≡ counts e c
      go true k = own_counts_not f c k ∙ sym (own_counts_not e c k)
      go false k = ap (counts_by c) (alike k)

  abbrev names : List Deed → List (List ℕ)
  names e = keys_of (opener_of path) e

  first_alike : (f e : List Deed) → ((c : List ℕ) → same c client ≡ false → opened f c path ≡ opened e c path) → find (counts e) (names f) ≡ find (counts e) (names e)
      → barred_by f path client type ≡ barred_by e path client type
  first_alike f e alike named =
      find_among (has_it f) (bars f path client type) (names f)
      ∙ ap (λ (p : List ℕ → Bool). find p (names f)) (λ i c. counts_alike f e c (alike c) i)
      ∙ named
      ∙ sym (find_among (has_it e) (bars e path client type) (names e))

  opened_still : (o : Opening) (e : List Deed) → same o.client client ≡ true → barred_by (Open o ∷ e) path client type ≡ barred_by e path client type
  opened_still o e is = first_alike (Open o ∷ e) e (λ c k. opened_there client e o c path is k) (go (same o.path path))
    where
      go : (b : Bool) → find (counts e) (option_map_or inserted (when b o.client) (λ keys. keys) (names e)) ≡ find (counts e) (names e)
      go true = find_beside (counts e) o.client (own_counts_not e o.client is) (names e)
      go false = refl

  barred_still : (deed : Deed) (e : List Deed) → is_of client deed ≡ true → barred_by (deed ∷ e) path client type ≡ barred_by e path client type
  barred_still (Open o) e is = opened_still o e is
  barred_still (Shut held) e is = first_alike (Shut held ∷ e) e (λ c k. shut_there client e held c path is k) refl
  barred_still (Got held rev) e is = refl
  barred_still (Owe o) e is = refl
  barred_still (Paid held from how) e is = refl
  barred_still (Spec kind name form) e is = absurd (false≢true is)
  barred_still (Guard lines) e is = absurd (false≢true is)
  barred_still (Group name users) e is = absurd (false≢true is)
  barred_still (Count name value) e is = absurd (false≢true is)
  barred_still (Pend p) e is = absurd (false≢true is)
  barred_still (Drop n) e is = absurd (false≢true is)
  barred_still (Hold held) e is = absurd (false≢true is)
  barred_still (Free held) e is = absurd (false≢true is)
  barred_still (Tag label p rev) e is = absurd (false≢true is)
  barred_still (Land l) e is = absurd (false≢true is)

  -- a refusal on account of other clients is that of the depot before
  pub exclusive_still : (d e : List Deed) → Came client d e → exclusive_refusal e path client type ≡ exclusive_refusal d path client type
  exclusive_still d e came = ap (option_map (ExclusiveOpen path)) (kept client (λ x. barred_by x path client type) barred_still d e came)
