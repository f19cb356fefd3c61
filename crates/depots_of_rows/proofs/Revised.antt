-- The row of a revision, and what an entry is to say so that it becomes it.
use Rattle.std.proofs.Common.{◌≡◌, ◌≤◌, ℕ, Bool, true, false, List, [], Option, Some, None, refl, sym, ap, subst, ◌∙◌, arith}
use Rattle.std.specs.Prelude.{◌&&◌, not, codes, bytes_eq, if◌then◌else◌, option_map, is_some, is_none, IsSome, IsSomeAnd}
use Rattle.std.specs.Option.{option_map_or}
use Rattle.depot_rows.specs.db_records.Record.{key_of}
use Rattle.depot_rows.specs.db_records.declared.key.Key.TheVariants as keys
use Rattle.depot_rows.specs.db_records.declared.record.Record.{Record}
use Rattle.depot_rows.specs.db_records.declared.record.Record.TheVariants as records
use Rattle.depot_rows.specs.db_records.declared.rows.RevRecord.{RevRecord}
use Rattle.depot_rows.specs.depot_model.Records.{unplaced}
use Rattle.depot_rows.specs.depot_model.Revisions.{is_live_action}
use Rattle.depot_rows.specs.depot_model.Rules.{Rows, IsRow, IsSubmitted, IsMadeIn, HasNone, HasRev, is_delete_word, change_of}
use Rattle.depot_rows.specs.declared.deed.Action.{Action}
use Rattle.depot_rows.specs.declared.deed.Action.TheVariants.{Add, Edit, Delete, Branch, Integrate, MoveAdd, MoveDelete}
use Rattle.depot_rows.specs.declared.deed.Stored.{Stored}
use Rattle.depot_rows.specs.Deed.{action_of, IsStored}
use Rattle.depots_of_rows.specs.Telling.{Contents}
use Rattle.depots_of_rows.proofs.Given.{Given, row_keeps}
use Rattle.depots_of_rows.proofs.Words.{word_of_action}

pub some_is : {A : Type 0} (o : Option A) → IsSome o → (x : A) × (o ≡ Some x)
some_is None h = absurd cc
some_is (Some x) h = (x, refl)

module _ (rows : Rows) (contents : Contents) (g : Given rows contents) where
  pub record RevAt (text : List ℕ) (n : ℕ) : Type 0 where
    pub row : RevRecord
    pub is : rows (keys.Rev text n) ≡ Some (records.Rev row)
    pub path : row.path ≡ text
    pub rev : row.rev ≡ n
    pub rule : IsRow rows (records.Rev row)

  pub rev_at : (text : List ℕ) (n : ℕ) (r : Record) → rows (keys.Rev text n) ≡ Some r → RevAt text n
  rev_at text n r e = go r e (g.keyed (keys.Rev text n) r e)
    where
      go : (r : Record) → rows (keys.Rev text n) ≡ Some r → key_of r ≡ keys.Rev text n → RevAt text n
      go (records.Rev x) e k = record { row = x; is = e; path = cc; rev = cc; rule = row_keeps rows g.keep (keys.Rev text n) (records.Rev x) e }
      go (records.Counter x) e k = absurd cc
      go (records.Group x) e k = absurd cc
      go (records.Protect x) e k = absurd cc
      go (records.Domain x) e k = absurd cc
      go (records.Have x) e k = absurd cc
      go (records.Label x) e k = absurd cc
      go (records.Integed x) e k = absurd cc
      go (records.Resolve x) e k = absurd cc
      go (records.Working x) e k = absurd cc
      go (records.Change x) e k = absurd cc

  pub rev_there : (text : List ℕ) (n : ℕ) → HasRev rows text n → RevAt text n
  rev_there text n h = let r = some_is (rows (keys.Rev text n)) h in rev_at text n r.0 r.1

  -- its number is from 1 on, and its change is submitted
  pub from_one : (text : List ℕ) (n : ℕ) → HasRev rows text n → 1 ≤ n
  from_one text n h =
      let a = rev_there text n h in
      let low = a.rule.1 in
      let number = a.rev in
      omega (arith, low, number)

  pub submitted_by : (text : List ℕ) (n : ℕ) → HasRev rows text n → IsSomeAnd (rows (keys.Change (change_of (rows (keys.Rev text n))))) IsSubmitted
  submitted_by text n h =
      let a = rev_there text n h in
      subst (λ (c : ℕ). IsSomeAnd (rows (keys.Change c)) IsSubmitted) (sym (ap change_of a.is)) a.rule.6

  -- a revision that was made in a change
  pub made_there : (text : List ℕ) (n c : ℕ) → IsSomeAnd (rows (keys.Rev text n)) (IsMadeIn c) → HasRev rows text n × (change_of (rows (keys.Rev text n)) ≡ c)
  made_there text n c h = go (rows (keys.Rev text n)) h
    where
      go : (o : Option Record) → IsSomeAnd o (IsMadeIn c) → IsSome o × (change_of o ≡ c)
      go None h = absurd h
      go (Some (records.Rev x)) h = (refl, h)
      go (Some (records.Counter x)) h = absurd h
      go (Some (records.Group x)) h = absurd h
      go (Some (records.Protect x)) h = absurd h
      go (Some (records.Domain x)) h = absurd h
      go (Some (records.Have x)) h = absurd h
      go (Some (records.Label x)) h = absurd h
      go (Some (records.Integed x)) h = absurd h
      go (Some (records.Resolve x)) h = absurd h
      go (Some (records.Working x)) h = absurd h
      go (Some (records.Change x)) h = absurd h

  -- ---- the content

  pub record Holds (text : List ℕ) (n : ℕ) (x : RevRecord) (action : Action) : Type 0 where
    pub stored : Option Stored
    pub content : Option (List ℕ)
    pub is_stored : IsStored stored content
    pub digest_is : option_map_or (λ (s : Stored). s.digest) stored [] ≡ x.digest
    pub length_is : option_map_or (λ (s : Stored). s.spot.length) stored 0 ≡ x.length
    pub place_is : option_map_or (λ (s : Stored). s.spot.at) stored 0 ≡ 0
    pub live_is : (if is_live_action (action_of action) then is_some content else is_none content) ≡ true
    pub these : (c : List ℕ) → content ≡ Some c → c ≡ contents text n

  abbrev is_live_word : List ℕ → Bool
  is_live_word word = not (bytes_eq word (codes "delete")) && not (bytes_eq word (codes "move/delete"))

  module _ (text : List ℕ) (n : ℕ) (a : RevAt text n) where
    live_holds : (action : Action) → is_live_action (action_of action) ≡ true → is_live_word a.row.action ≡ true → Holds text n a.row action
    live_holds action acts live =
        let told = g.tell text n a.row a.is live in
        record {
          stored = Some (record { digest = a.row.digest; spot = record { at = 0; length = a.row.length } });
          content = Some (contents text n);
          is_stored = told;
          digest_is = refl;
          length_is = refl;
          place_is = refl;
          live_is = ap (λ (b : Bool). if b then true else false) acts;
          these = λ c e. let one : contents text n ≡ c = cc in sym one;
        }

    dead_holds : (action : Action) → is_live_action (action_of action) ≡ false → HasNone a.row → Holds text n a.row action
    dead_holds action acts none = record {
      stored = None;
      content = None;
      is_stored = tt;
      digest_is = sym none.0;
      length_is = sym none.1;
      place_is = refl;
      live_is = ap (λ (b : Bool). if b then false else true) acts;
      these = λ c e. absurd cc;
    }

    pub holds : (action : Action) → word_of_action action ≡ a.row.action → Holds text n a.row action
    holds Add e = live_holds Add refl (ap is_live_word (sym e))
    holds Edit e = live_holds Edit refl (ap is_live_word (sym e))
    holds Delete e = dead_holds Delete refl (a.rule.4 (ap is_delete_word (sym e)))
    holds Branch e = live_holds Branch refl (ap is_live_word (sym e))
    holds Integrate e = live_holds Integrate refl (ap is_live_word (sym e))
    holds MoveAdd e = live_holds MoveAdd refl (ap is_live_word (sym e))
    holds MoveDelete e = dead_holds MoveDelete refl (a.rule.4 (ap is_delete_word (sym e)))

    -- the row has no place
    pub flat_is : rows (keys.Rev text n) ≡ Some (records.Rev (record a.row { at = 0 }))
    flat_is = sym (g.flat (keys.Rev text n)) ∙ ap (option_map unplaced) a.is
