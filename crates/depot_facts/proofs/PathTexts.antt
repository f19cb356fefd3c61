-- Paths and the texts that spell them, and what rows say of the path that a text spells.
use Rattle.std.proofs.Common.{◌≡◌, ℕ, Bool, true, false, List, [], ◌∷◌, Option, Some, None, Result, Ok, Err, refl, sym, ap, ◌∙◌}
use Rattle.std.specs.Prelude.{◌&&◌, IfSome, if◌then◌else◌}
use Rattle.std.specs.List.{list_all}
use Rattle.depot_rows.specs.depot_path.Bytes.{same}
use Rattle.depot_rows.specs.depot_path.Path.{path_of, path_fault, printed, unescaped, unless, is_path}
use Rattle.depot_rows.specs.depot_path.declared.fault.PathFault.{PathFault}
use Rattle.depot_rows.proofs.depot_path.Paths.{prints_path, reads_path}
use Rattle.depot_rows.specs.db_records.declared.record.Record.{Record}
use Rattle.depot_rows.specs.depot_model.Records.{at_path}
use Rattle.depot_rows.specs.depot_model.Rules.{IsPath, is_printed_path}
use Rattle.depot_rows.specs.depot_model.Shelves.{paths_in}
use Rattle.depot_rows.proofs.Keys.{same-is, same-self}

-- ---- what is said of the path that a text spells

pub at_read : (text x : List ℕ) (said : List ℕ → Option Record) → path_of text ≡ Ok x → printed x ≡ text → at_path text said ≡ said x
at_read text x said read is = go (path_of text) read
  where
    go : (r : Result (List ℕ) PathFault) → r ≡ Ok x
        → (elim r as (λ _. Option Record) [ Err fault ↦ None | Ok y ↦ if same (printed y) text then said y else None ]) ≡ said x
    go (Err fault) e = absurd cc
    go (Ok y) e =
        let one : y ≡ x = cc in
        ap (λ (b : Bool). if b then said y else None) (ap (λ (t : List ℕ). same t text) (ap printed one ∙ is) ∙ same-self text) ∙ ap said one

-- what holds of whatever is told of the path of a text
pub at_each : (P : Record → Type 0) (text : List ℕ) (said : List ℕ → Option Record) → ((x : List ℕ) → printed x ≡ text → IfSome (said x) P)
    → IfSome (at_path text said) P
at_each P text said each = go (path_of text)
  where
    go : (read : Result (List ℕ) PathFault)
        → IfSome (elim read as (λ _. Option Record) [ Err fault ↦ None | Ok x ↦ if same (printed x) text then said x else None ]) P
    go (Err fault) = tt
    go (Ok x) = test (same (printed x) text) refl
      where
        test : (b : Bool) → same (printed x) text ≡ b → IfSome (if b then said x else None) P
        test true e = each x (same-is (printed x) text e)
        test false e = tt

-- ---- the path of a text

pub printed_path : (x : List ℕ) → is_path x ≡ true → is_printed_path (printed x) ≡ true
printed_path x is = go (path_of (printed x)) (prints_path x is)
  where
    go : (r : Result (List ℕ) PathFault) → r ≡ Ok x
        → (elim r as (λ _. Bool) [ Err fault ↦ false | Ok y ↦ same (printed y) (printed x) ]) ≡ true
    go (Err fault) e = absurd cc
    go (Ok y) e = let one : y ≡ x = cc in ap (λ (t : List ℕ). same t (printed x)) (ap printed one) ∙ same-self (printed x)

pub one_path : (p q : List ℕ) → is_path p ≡ true → is_path q ≡ true → printed p ≡ printed q → p ≡ q
one_path p q is other e =
    let a : path_of (printed p) ≡ Ok p = prints_path p is in
    let b : path_of (printed q) ≡ Ok q = prints_path q other in
    let c : path_of (printed p) ≡ path_of (printed q) = ap path_of e in
    cc

-- a text that is a path's is that of one
pub path_in_text : (text : List ℕ) → IsPath text → (path : List ℕ) × (path_of text ≡ Ok path) × (printed path ≡ text)
path_in_text text is = go (path_of text) refl is
  where
    go : (r : Result (List ℕ) PathFault) → path_of text ≡ r → (elim r as (λ _. Bool) [ Err fault ↦ false | Ok path ↦ same (printed path) text ]) ≡ true
        → (path : List ℕ) × (path_of text ≡ Ok path) × (printed path ≡ text)
    go (Err fault) e h = absurd cc
    go (Ok path) e h = (path, e, same-is (printed path) text h)

pub read_path : (text path : List ℕ) → path_of text ≡ Ok path → is_path path ≡ true
read_path text path e = go (path_fault text) refl e
  where
    go : (o : Option PathFault) → path_fault text ≡ o → unless o (unescaped 0 text) ≡ Ok path → is_path path ≡ true
    go None f h = let one : unescaped 0 text ≡ path = cc in ap is_path (sym one) ∙ reads_path text f
    go (Some fault) f h = absurd cc

pub paths_in_are : (text : List ℕ) → list_all is_path (paths_in text) ≡ true
paths_in_are text = go (path_of text) refl
  where
    go : (r : Result (List ℕ) PathFault) → path_of text ≡ r → list_all is_path (elim r as (λ _. List (List ℕ)) [ Err fault ↦ [] | Ok path ↦ path ∷ [] ]) ≡ true
    go (Err fault) e = refl
    go (Ok path) e = (λ i. read_path text path e i && true)
