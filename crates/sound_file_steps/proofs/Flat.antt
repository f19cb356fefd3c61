-- Deeds on files that all find what they have to in the depot before the first of them.
use Rattle.std.proofs.Common.{◌≡◌, ◌≤◌, ℕ, Bool, true, false, List, [], ◌∷◌, Option, Some, None, inl, inr, refl, sym, ap, subst, ◌∙◌}
use Rattle.std.specs.Prelude.{◌&&◌, IsTrue, IfSome, IsSome, IsSomeAnd}
use Rattle.std.specs.Option.{option_or, option_flatten}
use Rattle.depot_rows.specs.depot_path.Bytes.{same}
use Rattle.depot_rows.specs.depot_model.Asking.{is_client, is_label}
use Rattle.depot_rows.specs.depot_model.Deeds.{Deed, Open, Shut, Hold, Free, Got, Tag, Owe, Paid, Spec, Guard, Group, Count, Pend, Drop, Land, Opening, Source, Pending, Held}
use Rattle.depot_rows.specs.depot_model.Latest.{latest, when}
use Rattle.depot_rows.specs.depot_model.Opened.{opened, opening_said}
use Rattle.depot_rows.specs.depot_model.Numbers.{pending}
use Rattle.depot_rows.specs.depot_model.Revisions.{head}
use Rattle.depot_rows.specs.depot_path.Path.{is_path}
use Rattle.depot_rows.specs.depot_model.Rules.{IsSound, has_paths}
use Rattle.depot_rows.specs.depot_model.Step.{after}
use Rattle.sound_deeds.specs.Keeping.{Keeps, Ties, AllKeep, AllTie, IsTaken}
use Rattle.sound_deeds.proofs.Whole.{all_sound, one_sound}
use Rattle.depot_facts.proofs.Steps.{AllOf}

-- deeds on files after which as many files are opened as before
abbrev pub is_plain : Deed → Bool
is_plain (Open o) = true
is_plain (Hold held) = true
is_plain (Free held) = true
is_plain (Got held rev) = true
is_plain (Tag label path rev) = true
is_plain (Owe o) = true
is_plain (Paid held from how) = true
is_plain _ = false

pub record Meets (d : List Deed) (deed : Deed) : Type 0 where
  pub has : IsTrue (has_paths deed)
  pub plain : IsTrue (is_plain deed)
  pub keeps : Keeps d deed
  pub ties : Ties d deed

-- a file that is opened stays so
still_opened : (o : Opening) (d : List Deed) (c p : List ℕ) → IsSome (opened d c p) → IsSome (opened (Open o ∷ d) c p)
still_opened o d c p h = go (same o.client c && same o.path p)
  where
    go : (b : Bool) → IsSome (option_flatten (option_or (when b (Some o)) (latest (opening_said c p) d)))
    go true = refl
    go false = h

-- two depots of which the second has as many files opened, and the rest alike
record Alike (d e : List Deed) : Type 0 where
  clients : (c : List ℕ) → is_client d c ≡ is_client e c
  labels : (l : List ℕ) → is_label d l ≡ is_label e l
  heads : (p : List ℕ) → head d p ≡ head e p
  openings : (c p : List ℕ) → IsSome (opened d c p) → IsSome (opened e c p)
  changes : (n : ℕ) → pending d n ≡ pending e n

alike : (d : List Deed) (other : Deed) → is_plain other ≡ true → Alike d (other ∷ d)
alike d (Open o) e = record { clients = λ c. refl; labels = λ l. refl; heads = λ p. refl; openings = still_opened o d; changes = λ n. refl }
alike d (Hold held) e = record { clients = λ c. refl; labels = λ l. refl; heads = λ p. refl; openings = λ c p h. h; changes = λ n. refl }
alike d (Free held) e = record { clients = λ c. refl; labels = λ l. refl; heads = λ p. refl; openings = λ c p h. h; changes = λ n. refl }
alike d (Got held rev) e = record { clients = λ c. refl; labels = λ l. refl; heads = λ p. refl; openings = λ c p h. h; changes = λ n. refl }
alike d (Tag label path rev) e = record { clients = λ c. refl; labels = λ l. refl; heads = λ p. refl; openings = λ c p h. h; changes = λ n. refl }
alike d (Owe o) e = record { clients = λ c. refl; labels = λ l. refl; heads = λ p. refl; openings = λ c p h. h; changes = λ n. refl }
alike d (Paid held from how) e = record { clients = λ c. refl; labels = λ l. refl; heads = λ p. refl; openings = λ c p h. h; changes = λ n. refl }
alike d (Spec kind name form) e = absurd cc
alike d (Guard lines) e = absurd cc
alike d (Group name users) e = absurd cc
alike d (Count name value) e = absurd cc
alike d (Pend p) e = absurd cc
alike d (Drop n) e = absurd cc
alike d (Shut held) e = absurd cc
alike d (Land l) e = absurd cc

module _ (d e : List Deed) (same_depot : Alike d e) where
  under : (p : List ℕ) (n : ℕ) → n ≤ head d p → n ≤ head e p
  under p n h = subst (λ (m : ℕ). n ≤ m) (same_depot.heads p) h

  taken : (source : Option Source) → IfSome source (IsTaken d) → IfSome source (IsTaken e)
  taken None h = tt
  taken (Some s) h = (h.0, under s.path s.rev h.1)

  found : (deed : Deed) → is_plain deed ≡ true → Keeps d deed → Keeps e deed
  found (Open o) f k = record {
    client = sym (same_depot.clients o.client) ∙ k.client;
    base = under o.path o.base k.base;
    file_type = k.file_type;
    source = taken o.source k.source;
    moved = k.moved;
  }
  found (Hold held) f k = tt
  found (Free held) f k = tt
  found (Got held rev) f k = (λ low. sym (same_depot.clients held.client) ∙ k.0 low, under held.path rev k.1)
  found (Tag label path rev) f k = (λ low. sym (same_depot.labels label) ∙ k.0 low, under path rev k.1)
  found (Owe o) f k = (sym (same_depot.clients o.client) ∙ k.0, same_depot.openings o.client o.path k.1, k.2, k.3, under o.from o.last k.4)
  found (Paid held from how) f k = tt
  found (Spec kind name form) f k = absurd cc
  found (Guard lines) f k = absurd cc
  found (Group name users) f k = absurd cc
  found (Count name value) f k = absurd cc
  found (Pend p) f k = absurd cc
  found (Drop n) f k = absurd cc
  found (Shut held) f k = absurd cc
  found (Land l) f k = absurd cc

  tied : (deed : Deed) → is_plain deed ≡ true → Ties d deed → Ties e deed
  tied (Open o) f (inl none) = inl none
  tied (Open o) f (inr some) = inr (subst (λ (p : Option Pending). IsSomeAnd p (λ x. x.client ≡ o.client)) (same_depot.changes o.change) some)
  tied (Hold held) f k = tt
  tied (Free held) f k = tt
  tied (Got held rev) f k = tt
  tied (Tag label path rev) f k = tt
  tied (Owe o) f k = tt
  tied (Paid held from how) f k = tt
  tied (Shut held) f k = tt
  tied (Spec kind name form) f k = absurd cc
  tied (Guard lines) f k = absurd cc
  tied (Group name users) f k = absurd cc
  tied (Count name value) f k = absurd cc
  tied (Pend p) f k = absurd cc
  tied (Drop n) f k = absurd cc
  tied (Land l) f k = absurd cc

  met : (deed : Deed) → Meets d deed → Meets e deed
  met deed m = record { has = m.has; plain = m.plain; keeps = found deed m.plain m.keeps; ties = tied deed m.plain m.ties }

  all_met : (deeds : List Deed) → AllOf (Meets d) deeds → AllOf (Meets e) deeds
  all_met [] m = tt
  all_met (deed ∷ deeds) m = (met deed m.0, all_met deeds m.1)

flat_keeps : (deeds : List Deed) (d : List Deed) → AllOf (Meets d) deeds → AllKeep d deeds
flat_keeps [] d m = tt
flat_keeps (deed ∷ deeds) d m =
    ((m.0).has, (m.0).keeps, flat_keeps deeds (deed ∷ d) (all_met d (deed ∷ d) (alike d deed (m.0).plain) deeds m.1))

flat_ties : (deeds : List Deed) (d : List Deed) → AllOf (Meets d) deeds → AllTie d deeds
flat_ties [] d m = tt
flat_ties (deed ∷ deeds) d m = ((m.0).ties, flat_ties deeds (deed ∷ d) (all_met d (deed ∷ d) (alike d deed (m.0).plain) deeds m.1))

pub flat_sound : (d deeds : List Deed) → IsSound d → AllOf (Meets d) deeds → IsSound (after d deeds)
flat_sound d deeds sound m = all_sound d deeds sound (flat_keeps deeds d m) (flat_ties deeds d m)

-- ---- files that are shut

pub record Shuts (deed : Deed) : Type 0 where
  pub held : Held
  pub is : deed ≡ Shut held
  pub has : IsTrue (is_path held.path)

pub shuts_sound : (d deeds : List Deed) → IsSound d → AllOf Shuts deeds → IsSound (after d deeds)
shuts_sound d [] sound m = sound
shuts_sound d (deed ∷ deeds) sound m =
    let P : Deed → Type 0 = λ x. IsSound (x ∷ d) in
    shuts_sound (deed ∷ d) deeds
    (subst P (sym (m.0).is) (one_sound d (Shut (m.0).held) sound (ap (λ (b : Bool). b && true) (m.0).has) tt tt)) m.1
