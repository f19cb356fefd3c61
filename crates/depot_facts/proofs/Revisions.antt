-- Revisions that are there: their rows, their numbers, and the changes that made them.
use Rattle.std.proofs.Common.{◌≡◌, ◌⊎◌, ◌<◌, ◌≤◌, ℕ, zero, suc, Bool, true, false, List, [], ◌∷◌, Option, Some, None, Result, Ok, Err, inl, inr, refl, ap, subst, ◌∙◌, arith}
use Rattle.std.specs.Prelude.{IsSome, is_some, if◌then◌else◌, option_map}
use Rattle.depot_rows.specs.depot_path.Bytes.{same}
use Rattle.depot_rows.specs.depot_path.Path.{path_of, printed, is_path}
use Rattle.depot_rows.specs.depot_path.declared.fault.PathFault.{PathFault}
use Rattle.depot_rows.proofs.depot_path.Paths.{prints_path}
use Rattle.depot_rows.specs.db_records.declared.key.Key.TheVariants as keys
use Rattle.depot_rows.specs.db_records.declared.record.Record.{Record}
use Rattle.depot_rows.specs.depot_model.Deeds.{Deed, Land, Entry}
use Rattle.depot_rows.specs.depot_model.Numbers.{landings}
use Rattle.depot_rows.specs.depot_model.Records.{record_of, rev_record}
use Rattle.depot_rows.specs.depot_model.Revisions.{Revision, revisions, revision, head, entries_at}
use Rattle.depot_rows.specs.depot_model.Rules.{HasRev}
use Rattle.depot_rows.proofs.Entries.{In, of_path}
use Rattle.depot_rows.proofs.Keys.{same-is}
use Rattle.depot_facts.proofs.Listed.{in_append, in_map, get_in, get_below, below_get}
use Rattle.depot_facts.proofs.PathTexts.{at_read}

pub record Shown (d : List Deed) (text : List ℕ) (n : ℕ) : Type 0 where
  pub path : List ℕ
  pub read : path_of text ≡ Ok path
  pub text_is : printed path ≡ text
  pub rev : Revision
  pub got : revision d path n ≡ Some rev
  pub row : record_of d (keys.Rev text n) ≡ Some (rev_record n rev)

pub shown : (d : List Deed) (text : List ℕ) (n : ℕ) → HasRev (record_of d) text n → Shown d text n
shown d text n h = go (path_of text) refl h
  where
    said : List ℕ → Option Record
    said x = option_map (rev_record n) (revision d x n)

    known : (x : List ℕ) → path_of text ≡ Ok x → printed x ≡ text → (o : Option Revision) → revision d x n ≡ o → IsSome (option_map (rev_record n) o) → Shown d text n
    known x read is None e h = absurd cc
    known x read is (Some r) e h = record {
      path = x;
      read = read;
      text_is = is;
      rev = r;
      got = e;
      row = at_read text x (λ y. option_map (rev_record n) (revision d y n)) read is ∙ ap (option_map (rev_record n)) e;
    }

    spelled : (x : List ℕ) → path_of text ≡ Ok x → (b : Bool) → same (printed x) text ≡ b
        → IsSome (if b then option_map (rev_record n) (revision d x n) else None) → Shown d text n
    spelled x read true e h = known x read (same-is (printed x) text e) (revision d x n) refl h
    spelled x read false e h = absurd cc

    go : (r : Result (List ℕ) PathFault) → path_of text ≡ r
        → IsSome (elim r as (λ _. Option Record) [ Err fault ↦ None | Ok y ↦ if same (printed y) text then option_map (rev_record n) (revision d y n) else None ])
        → Shown d text n
    go (Err fault) e h = absurd cc
    go (Ok x) e h = spelled x e (same (printed x) text) refl h

-- its number is that of a revision of the path
pub numbered : (d : List Deed) (x : List ℕ) (n : ℕ) (r : Revision) → revision d x n ≡ Some r → (1 ≤ n) × (n ≤ head d x)
numbered d x zero r e = absurd cc
numbered d x (suc k) r e = let low = below_get (revisions d x) k r e in (omega arith, omega (arith, low))

pub old_number : (d : List Deed) (x : List ℕ) (n : ℕ) → is_path x ≡ true → HasRev (record_of d) (printed x) n → (1 ≤ n) × (n ≤ head d x)
old_number d x n is h =
    let s = shown d (printed x) n h in
    let read : path_of (printed x) ≡ Ok s.path = s.read in
    let other : path_of (printed x) ≡ Ok x = prints_path x is in
    let one : s.path ≡ x = cc in
    subst (λ (y : List ℕ). (1 ≤ n) × (n ≤ head d y)) one (numbered d s.path n s.rev s.got)

-- each revision up to the head is there
pub there_below : (d : List Deed) (x : List ℕ) (k : ℕ) → is_path x ≡ true → k < head d x → HasRev (record_of d) (printed x) (suc k)
there_below d x k is low =
    let r = get_below (revisions d x) k low in
    ap is_some (at_read (printed x) x (λ y. option_map (rev_record (suc k)) (revision d y (suc k))) (prints_path x is) refl
    ∙ ap (option_map (rev_record (suc k))) r.1)

pub in_revision : (d : List Deed) (path : List ℕ) (n : ℕ) (r : Revision) → revision d path n ≡ Some r → In (revisions d path) r
in_revision d path zero r e = absurd cc
in_revision d path (suc n) r e = get_in (revisions d path) n r e

-- the change that made a revision landed
pub landed_of : (d : List Deed) (x : List ℕ) (r : Revision) → In (revisions d x) r → In (landings d) r.landing
landed_of [] x r h = absurd h
landed_of (Land l ∷ d) x r h = go (in_append (revisions d x) (entries_at x l) r h) (λ k. landed_of d x r k)
  where
    go : In (revisions d x) r ⊎ In (entries_at x l) r → (In (revisions d x) r → In (landings d) r.landing) → In (landings (Land l ∷ d)) r.landing
    go (inl k) later = inr (later k)
    go (inr k) later =
        let e = in_map (λ (e : Entry). let made : Revision = record { landing = l; entry = e } in made) (of_path x l.entries) r k in
        inl (ap (λ (q : Revision). q.landing) e.1.1)
landed_of (deed ∷ d) x r h = landed_of d x r h

pub made_by : (d : List Deed) (x : List ℕ) (n : ℕ) (r : Revision) → revision d x n ≡ Some r → In (landings d) r.landing
made_by d x n r e = landed_of d x r (in_revision d x n r e)
