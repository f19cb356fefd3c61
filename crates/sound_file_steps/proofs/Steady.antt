-- Deeds that find what they have to whichever files are opened, each in the depot before the first of them.
use Rattle.std.proofs.Common.{◌≡◌, ◌≤◌, ℕ, Bool, true, false, List, [], ◌∷◌, Option, Some, None, inl, inr, refl, sym, subst, ◌∙◌}
use Rattle.std.specs.Prelude.{IsTrue, IfSome, IsSomeAnd}
use Rattle.depot_rows.specs.depot_model.Asking.{is_client, is_label}
use Rattle.depot_rows.specs.depot_model.Deeds.{Deed, Open, Shut, Hold, Free, Got, Tag, Owe, Paid, Spec, Guard, Group, Count, Pend, Drop, Land, Source, Pending}
use Rattle.depot_rows.specs.depot_model.Numbers.{pending}
use Rattle.depot_rows.specs.depot_model.Revisions.{head}
use Rattle.depot_rows.specs.depot_model.Rules.{IsSound, has_paths}
use Rattle.depot_rows.specs.depot_model.Step.{after}
use Rattle.sound_deeds.specs.Keeping.{Keeps, Ties, AllKeep, AllTie, IsTaken}
use Rattle.sound_deeds.proofs.Whole.{all_sound}
use Rattle.depot_facts.proofs.Steps.{AllOf}

abbrev pub is_steady : Deed → Bool
is_steady (Open o) = true
is_steady (Shut held) = true
is_steady (Hold held) = true
is_steady (Free held) = true
is_steady (Got held rev) = true
is_steady (Tag label path rev) = true
is_steady (Paid held from how) = true
is_steady _ = false

pub record Stands (d : List Deed) (deed : Deed) : Type 0 where
  pub has : IsTrue (has_paths deed)
  pub steady : IsTrue (is_steady deed)
  pub keeps : Keeps d deed
  pub ties : Ties d deed

-- two depots alike but for opened files
pub record Same (d e : List Deed) : Type 0 where
  pub clients : (c : List ℕ) → is_client d c ≡ is_client e c
  pub labels : (l : List ℕ) → is_label d l ≡ is_label e l
  pub heads : (p : List ℕ) → head d p ≡ head e p
  pub changes : (n : ℕ) → pending d n ≡ pending e n

pub same_self : (d : List Deed) → Same d d
same_self d = record { clients = λ c. refl; labels = λ l. refl; heads = λ p. refl; changes = λ n. refl }

pub same_back : (d e : List Deed) → Same d e → Same e d
same_back d e s = record { clients = λ c. sym (s.clients c); labels = λ l. sym (s.labels l); heads = λ p. sym (s.heads p); changes = λ n. sym (s.changes n) }

pub same_then : (d e f : List Deed) → Same d e → Same e f → Same d f
same_then d e f s t = record {
  clients = λ c. s.clients c ∙ t.clients c;
  labels = λ l. s.labels l ∙ t.labels l;
  heads = λ p. s.heads p ∙ t.heads p;
  changes = λ n. s.changes n ∙ t.changes n;
}

-- the deeds on files change none of it
pub file_deed : (d : List Deed) (other : Deed) → is_steady other ≡ true → Same d (other ∷ d)
file_deed d (Open o) e = record { clients = λ c. refl; labels = λ l. refl; heads = λ p. refl; changes = λ n. refl }
file_deed d (Shut held) e = record { clients = λ c. refl; labels = λ l. refl; heads = λ p. refl; changes = λ n. refl }
file_deed d (Hold held) e = record { clients = λ c. refl; labels = λ l. refl; heads = λ p. refl; changes = λ n. refl }
file_deed d (Free held) e = record { clients = λ c. refl; labels = λ l. refl; heads = λ p. refl; changes = λ n. refl }
file_deed d (Got held rev) e = record { clients = λ c. refl; labels = λ l. refl; heads = λ p. refl; changes = λ n. refl }
file_deed d (Tag label path rev) e = record { clients = λ c. refl; labels = λ l. refl; heads = λ p. refl; changes = λ n. refl }
file_deed d (Paid held from how) e = record { clients = λ c. refl; labels = λ l. refl; heads = λ p. refl; changes = λ n. refl }
file_deed d (Owe o) e = absurd cc
file_deed d (Spec kind name form) e = absurd cc
file_deed d (Guard lines) e = absurd cc
file_deed d (Group name users) e = absurd cc
file_deed d (Count name value) e = absurd cc
file_deed d (Pend p) e = absurd cc
file_deed d (Drop n) e = absurd cc
file_deed d (Land l) e = absurd cc

module _ (d e : List Deed) (same_depot : Same d e) where
  under : (p : List ℕ) (n : ℕ) → n ≤ head d p → n ≤ head e p
  under p n h = subst (λ (m : ℕ). n ≤ m) (same_depot.heads p) h

  taken : (source : Option Source) → IfSome source (IsTaken d) → IfSome source (IsTaken e)
  taken None h = tt
  taken (Some s) h = (h.0, under s.path s.rev h.1)

  found : (deed : Deed) → is_steady deed ≡ true → Keeps d deed → Keeps e deed
  found (Open o) f k = record {
    client = sym (same_depot.clients o.client) ∙ k.client;
    base = under o.path o.base k.base;
    file_type = k.file_type;
    source = taken o.source k.source;
    moved = k.moved;
  }
  found (Shut held) f k = tt
  found (Hold held) f k = tt
  found (Free held) f k = tt
  found (Got held rev) f k = (λ low. sym (same_depot.clients held.client) ∙ k.0 low, under held.path rev k.1)
  found (Tag label path rev) f k = (λ low. sym (same_depot.labels label) ∙ k.0 low, under path rev k.1)
  found (Paid held from how) f k = tt
  found (Owe o) f k = absurd cc
  found (Spec kind name form) f k = absurd cc
  found (Guard lines) f k = absurd cc
  found (Group name users) f k = absurd cc
  found (Count name value) f k = absurd cc
  found (Pend p) f k = absurd cc
  found (Drop n) f k = absurd cc
  found (Land l) f k = absurd cc

  tied : (deed : Deed) → is_steady deed ≡ true → Ties d deed → Ties e deed
  tied (Open o) f (inl none) = inl none
  tied (Open o) f (inr some) = inr (subst (λ (p : Option Pending). IsSomeAnd p (λ x. x.client ≡ o.client)) (same_depot.changes o.change) some)
  tied (Shut held) f k = tt
  tied (Hold held) f k = tt
  tied (Free held) f k = tt
  tied (Got held rev) f k = tt
  tied (Tag label path rev) f k = tt
  tied (Paid held from how) f k = tt
  tied (Owe o) f k = absurd cc
  tied (Spec kind name form) f k = absurd cc
  tied (Guard lines) f k = absurd cc
  tied (Group name users) f k = absurd cc
  tied (Count name value) f k = absurd cc
  tied (Pend p) f k = absurd cc
  tied (Drop n) f k = absurd cc
  tied (Land l) f k = absurd cc

  pub stands_too : (deed : Deed) → Stands d deed → Stands e deed
  stands_too deed m = record { has = m.has; steady = m.steady; keeps = found deed m.steady m.keeps; ties = tied deed m.steady m.ties }

  pub all_stand : (deeds : List Deed) → AllOf (Stands d) deeds → AllOf (Stands e) deeds
  all_stand [] m = tt
  all_stand (deed ∷ deeds) m = (stands_too deed m.0, all_stand deeds m.1)

stand_keep : (deeds : List Deed) (d : List Deed) → AllOf (Stands d) deeds → AllKeep d deeds
stand_keep [] d m = tt
stand_keep (deed ∷ deeds) d m =
    ((m.0).has, (m.0).keeps, stand_keep deeds (deed ∷ d) (all_stand d (deed ∷ d) (file_deed d deed (m.0).steady) deeds m.1))

stand_tie : (deeds : List Deed) (d : List Deed) → AllOf (Stands d) deeds → AllTie d deeds
stand_tie [] d m = tt
stand_tie (deed ∷ deeds) d m = ((m.0).ties, stand_tie deeds (deed ∷ d) (all_stand d (deed ∷ d) (file_deed d deed (m.0).steady) deeds m.1))

pub steady_sound : (d deeds : List Deed) → IsSound d → AllOf (Stands d) deeds → IsSound (after d deeds)
steady_sound d deeds sound m = all_sound d deeds sound (stand_keep deeds d m) (stand_tie deeds d m)

-- the depot after them is alike
pub same_after : (d deeds : List Deed) → AllOf (Stands d) deeds → Same d (after d deeds)
same_after d [] m = same_self d
same_after d (deed ∷ deeds) m =
    let step = file_deed d deed (m.0).steady in
    same_then d (deed ∷ d) (after (deed ∷ d) deeds) step (same_after (deed ∷ d) deeds (all_stand d (deed ∷ d) step deeds m.1))
