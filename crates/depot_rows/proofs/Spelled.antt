-- What is said of the path that a text spells.
use Rattle.std.proofs.Common.{◌≡◌, ℕ, Bool, true, false, List, Option, None, refl, Result, Ok, Err}
use Rattle.std.specs.Prelude.{if◌then◌else◌}
use Rattle.depot_model.specs.depot_path.Bytes.{same}
use Rattle.depot_model.specs.depot_path.Path.{path_of, printed, is_path}
use Rattle.depot_model.specs.depot_path.declared.fault.PathFault.{PathFault}
use Rattle.depot_model.proofs.depot_path.Paths.{prints_path}
use Rattle.depot_model.specs.db_records.declared.record.Record.{Record}
use Rattle.depot_model.specs.Records.{at_path}
use Rattle.depot_rows.proofs.Keys.{same-is, same-self}

-- the text of a path spells it
pub at_path-here : (path : List ℕ) (said : List ℕ → Option Record) → is_path path ≡ true → at_path (printed path) said ≡ said path
at_path-here path said is = go (path_of (printed path)) (prints_path path is)
  where
    go : (read : Result (List ℕ) PathFault) → read ≡ Ok path
        → (elim read as (λ _. Option Record) [ Err fault ↦ None | Ok x ↦ if same (printed x) (printed path) then said x else None ]) ≡ said path
    go (Err fault) e = absurd cc
    go (Ok x) e = let one : x ≡ path = cc in rw (one, same-self (printed path)) refl

-- two things said of a text are one where they are of its path
pub at_path-alike : (text : List ℕ) (said other : List ℕ → Option Record) → ((x : List ℕ) → printed x ≡ text → said x ≡ other x)
    → at_path text said ≡ at_path text other
at_path-alike text said other alike = go (path_of text)
  where
    go : (read : Result (List ℕ) PathFault)
        → (elim read as (λ _. Option Record) [ Err fault ↦ None | Ok x ↦ if same (printed x) text then said x else None ])
        ≡ (elim read as (λ _. Option Record) [ Err fault ↦ None | Ok x ↦ if same (printed x) text then other x else None ])
    go (Err fault) = refl
    go (Ok x) = test (same (printed x) text) refl
      where
        test : (b : Bool) → same (printed x) text ≡ b → (if b then said x else None) ≡ (if b then other x else None)
        test true e = alike x (same-is (printed x) text e)
        test false e = refl

-- nothing is said
pub at_path-nothing : (text : List ℕ) → at_path text (λ x. None) ≡ None
at_path-nothing text = go (path_of text)
  where
    go : (read : Result (List ℕ) PathFault)
        → (elim read as (λ _. Option Record) [ Err fault ↦ None | Ok x ↦ if same (printed x) text then None else None ]) ≡ None
    go (Err fault) = refl
    go (Ok x) = test (same (printed x) text)
      where
        test : (b : Bool) → (if b then (let o : Option Record = None in o) else None) ≡ None
        test true = refl
        test false = refl
