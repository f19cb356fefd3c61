-- Rows of opened files and of resolves: two deeds put one.
use Rattle.std.proofs.Common.{◌≡◌, ◌≢◌, ◌⊎◌, ◌≤◌, ℕ, zero, suc, Bool, true, false, List, ◌∷◌, Option, Some, None, inl, inr, refl, sym, ap, ◌∙◌, arith}
use Rattle.std.specs.Prelude.{if◌then◌else◌, option_map}
use Rattle.std.proofs.lemmas.Bool.{true≢false}
use Rattle.depot_rows.specs.depot_path.Bytes.{same}
use Rattle.depot_rows.specs.depot_path.Path.{printed, is_path}
use Rattle.depot_rows.specs.db_records.declared.key.Key.{Key}
use Rattle.depot_rows.specs.db_records.declared.key.Key.TheVariants as keys
use Rattle.depot_rows.specs.db_records.declared.record.Record.{Record}
use Rattle.depot_rows.specs.db_records.declared.record.Record.TheVariants as records
use Rattle.depot_rows.specs.depot_model.Deeds.{Deed, Open, Hold, Owe, Paid}
use Rattle.depot_rows.specs.depot_model.Records.{record_of, is_at}
use Rattle.depot_rows.specs.depot_model.Rules.{Rows, has_paths, lock_of}
use Rattle.depot_rows.specs.declared.deed.Opening.{Opening}
use Rattle.depot_rows.specs.declared.deed.Owing.{Owing}
use Rattle.depot_rows.specs.declared.deed.Held.{Held}
use Rattle.depot_rows.specs.declared.deed.How.{How}
use Rattle.depot_rows.specs.Deed.{opening_of, held_of, owing_of, how_of}
use Rattle.depot_rows.specs.Effects.{put_at, working_row, owed_row, owed_key, with_lock, with_how, locked}
use Rattle.depot_rows.proofs.Keys.{same-is, same-self, at-is, at-self, put-is}
use Rattle.depot_rows.proofs.Openings.{open_met, hold_met}
use Rattle.depot_rows.proofs.Resolves.{owe_met, pay_met}
use Rattle.depots_of_rows.specs.Telling.{Contents}
use Rattle.depots_of_rows.proofs.Given.{Given, put_only, row_keeps}
use Rattle.depots_of_rows.proofs.Side.{Side, Built, side_owe, side_paid, side_open, side_hold, one_path, two_paths}
use Rattle.depots_of_rows.proofs.Simple.{Further}
use Rattle.depots_of_rows.proofs.Words.{word_of_how}

pub put_here : (key : Key) (there : Option Record) (before : Rows) → put_at key there before key ≡ there
put_here key there before = go (is_at key key) (at-self key key refl)
  where
    go : (x : Bool) → x ≡ true → (if x then there else before key) ≡ there
    go true e = refl
    go false e = absurd cc

pub put_other : (key : Key) (there : Option Record) (before : Rows) (q : Key) → key ≢ q → put_at key there before q ≡ before q
put_other key there before q apart = go (is_at key q) refl
  where
    go : (x : Bool) → is_at key q ≡ x → (if x then there else before q) ≡ before q
    go true e = absurd (apart (at-is key q e))
    go false e = refl

put_twice : (key : Key) (first second : Option Record) (before : Rows) (q : Key) → put_at key second (put_at key first before) q ≡ put_at key second before q
put_twice key first second before q = go (is_at key q)
  where
    go : (x : Bool) → (if x then second else (if x then first else before q)) ≡ (if x then second else before q)
    go true = refl
    go false = refl

module _ (rows : Rows) (contents : Contents) (g : Given rows contents) (test : Key → Bool) (d : List Deed) (b : Built rows contents test d) where
  further : (key : Key) (e : List Deed) → ((q : Key) → record_of e q ≡ put_at key (rows key) (record_of d) q) → Side contents e → Further rows contents test key
  further key e met side = (e, record { rows_are = λ q. met q ∙ put_only rows test key (record_of d) q (b.rows_are q); side = side })

  -- ---- resolves

  pub owe_one : (o : Owing) → is_path o.path ≡ true → is_path o.from ≡ true → rows (owed_key o) ≡ Some (owed_row o) → Further rows contents test (owed_key o)
  owe_one o is from there =
      further (owed_key o) (Owe (owing_of o) ∷ d)
      (λ q. owe_met o d is from q ∙ ap (λ (r : Option Record). put_at (owed_key o) r (record_of d) q) (sym there))
      (side_owe contents d b.side (owing_of o) (two_paths o.path o.from is from))

  pub pay_one : (o : Owing) (how : How) → is_path o.path ≡ true → is_path o.from ≡ true → rows (owed_key o) ≡ Some (with_how (word_of_how how) (owed_row o))
      → Further rows contents test (owed_key o)
  pay_one o how is from there =
      let held : Held = record { client = o.client; path = o.path } in
      let owe : List Deed = Owe (owing_of o) ∷ d in
      let key : Key = owed_key o in
      let owed : Rows = put_at key (Some (owed_row o)) (record_of d) in
      let same_rows : (q : Key) → record_of owe q ≡ owed q = owe_met o d is from in
      further key (Paid (held_of held) o.from (how_of how) ∷ owe)
      (λ q.
      pay_met held o.from how owe is from q
      ∙ (λ i. put_at key (option_map (with_how (word_of_how how)) (same_rows key i)) (λ x. same_rows x i) q)
      ∙ ap (λ (r : Option Record). put_at key (option_map (with_how (word_of_how how)) r) owed q) (put_here key (Some (owed_row o)) (record_of d))
      ∙ put_twice key (Some (owed_row o)) (Some (with_how (word_of_how how) (owed_row o))) (record_of d) q
      ∙ ap (λ (r : Option Record). put_at key r (record_of d) q) (sym there))
      (side_paid contents owe (side_owe contents d b.side (owing_of o) (two_paths o.path o.from is from)) (held_of held) o.from (how_of how)
      (two_paths o.path o.from is from))

  -- ---- opened files

  module _ (o : Opening) (is : is_path o.path ≡ true) (has : has_paths (Open (opening_of o)) ≡ true) where
    abbrev key : Key
    key = keys.Working (printed o.path) o.client

    abbrev opened : List Deed
    opened = Open (opening_of o) ∷ d

    abbrev held : Held
    held = record { client = o.client; path = o.path }

    -- the lock that the client has before
    abbrev lock_before : ℕ
    lock_before = lock_of (record_of d key)

    side_opened : Side contents opened
    side_opened = side_open contents d b.side (opening_of o) has

    opened_rows : (q : Key) → record_of opened q ≡ put_at key (Some (working_row lock_before o)) (record_of d) q
    opened_rows = open_met o d is

    lock_known : (lock : ℕ) → rows key ≡ Some (working_row lock o) → (lock_before ≡ lock) ⊎ (lock_before ≡ 0)
    lock_known lock there = go (test key) (ap lock_of (b.rows_are key))
      where
        go : (x : Bool) → lock_before ≡ lock_of (if x then rows key else None) → (lock_before ≡ lock) ⊎ (lock_before ≡ 0)
        go true e = inl (e ∙ ap lock_of there)
        go false e = inr e

    pub open_one : rows key ≡ Some (working_row 0 o) → Further rows contents test key
    open_one there = further key opened (λ q. opened_rows q ∙ ap (λ (r : Option Record). put_at key r (record_of d) q) (none (lock_known 0 there))) side_opened
      where
        unlocked : lock_before ≡ 0 → Some (working_row lock_before o) ≡ rows key
        unlocked e = ap (λ (n : ℕ). Some (working_row n o)) e ∙ sym there

        none : (lock_before ≡ 0) ⊎ (lock_before ≡ 0) → Some (working_row lock_before o) ≡ rows key
        none (inl e) = unlocked e
        none (inr e) = unlocked e

    -- no other client has the lock
    free_of : (client : List ℕ) → rows key ≡ Some (working_row 1 o) → same o.client client ≡ false
        → lock_of (rows (keys.Working (printed o.path) client)) ≡ 0
    free_of client there apart = low (lock_of other) refl (at_most other refl)
      where
        other : Option Record
        other = rows (keys.Working (printed o.path) client)

        at_most : (r : Option Record) → other ≡ r → lock_of r ≤ 1
        at_most None e = omega arith
        at_most (Some (records.Working r)) e = (row_keeps rows g.keep (keys.Working (printed o.path) client) (records.Working r) e).5
        at_most (Some (records.Counter r)) e = omega arith
        at_most (Some (records.Group r)) e = omega arith
        at_most (Some (records.Protect r)) e = omega arith
        at_most (Some (records.Domain r)) e = omega arith
        at_most (Some (records.Have r)) e = omega arith
        at_most (Some (records.Label r)) e = omega arith
        at_most (Some (records.Integed r)) e = omega arith
        at_most (Some (records.Resolve r)) e = omega arith
        at_most (Some (records.Change r)) e = omega arith
        at_most (Some (records.Rev r)) e = omega arith

        low : (n : ℕ) → lock_of other ≡ n → n ≤ 1 → n ≡ 0
        low zero e h = refl
        low (suc zero) e h = absurd (true≢false (
            let one : o.client ≡ client = g.keep.one_lock (printed o.path) o.client client (ap lock_of there) e in
            sym (ap (same o.client) (sym one) ∙ same-self o.client) ∙ apart))
        low (suc (suc n)) e h = absurd (omega (arith, h))

    unlocked_stays : (r : Option Record) → lock_of r ≡ 0 → option_map (with_lock 0) r ≡ r
    unlocked_stays None e = refl
    unlocked_stays (Some (records.Working r)) e = ap (λ (n : ℕ). Some (records.Working (record r { lock = n }))) (sym e)
    unlocked_stays (Some (records.Counter r)) e = refl
    unlocked_stays (Some (records.Group r)) e = refl
    unlocked_stays (Some (records.Protect r)) e = refl
    unlocked_stays (Some (records.Domain r)) e = refl
    unlocked_stays (Some (records.Have r)) e = refl
    unlocked_stays (Some (records.Label r)) e = refl
    unlocked_stays (Some (records.Integed r)) e = refl
    unlocked_stays (Some (records.Resolve r)) e = refl
    unlocked_stays (Some (records.Change r)) e = refl
    unlocked_stays (Some (records.Rev r)) e = refl

    module _ (there : rows key ≡ Some (working_row 1 o)) where
      lock_here : locked held (record_of opened) key ≡ rows key
      lock_here = go (same (printed o.path) (printed o.path)) (same-self (printed o.path)) (same o.client o.client) (same-self o.client)
          (opened_rows key ∙ put_here key (Some (working_row lock_before o)) (record_of d))
        where
          go : (x : Bool) → x ≡ true → (y : Bool) → y ≡ true → record_of opened key ≡ Some (working_row lock_before o)
              → (if x then option_map (with_lock (if y then 1 else 0)) (record_of opened key) else record_of opened key) ≡ rows key
          go false e y f h = absurd cc
          go true e false f h = absurd cc
          go true e true f h = ap (option_map (with_lock 1)) h ∙ sym there

      stays : (q : Key) → key ≢ q → record_of opened q ≡ record_of d q
      stays q apart = opened_rows q ∙ put_other key (Some (working_row lock_before o)) (record_of d) q apart

      lock_other : (q : Key) → key ≢ q → locked held (record_of opened) q ≡ record_of d q
      lock_other (keys.Working text client) apart = go (same (printed o.path) text) refl (same o.client client) refl
        where
          q : Key
          q = keys.Working text client

          open_lock : (x : Bool) → lock_of (rows q) ≡ 0 → lock_of (if x then rows q else None) ≡ 0
          open_lock true h = h
          open_lock false h = refl

          go : (x : Bool) → same (printed o.path) text ≡ x → (y : Bool) → same o.client client ≡ y
              → (if x then option_map (with_lock (if y then 1 else 0)) (record_of opened q) else record_of opened q) ≡ record_of d q
          go false e y f = stays q apart
          go true e true f = absurd (apart (
              let one : printed o.path ≡ text = same-is (printed o.path) text e in
              let two : o.client ≡ client = same-is o.client client f in
              λ i. keys.Working (one i) (two i)))
          go true e false f =
              let one : printed o.path ≡ text = same-is (printed o.path) text e in
              let free : lock_of (rows q) ≡ 0 = ap (λ (t : List ℕ). lock_of (rows (keys.Working t client))) (sym one) ∙ free_of client there f in
              ap (option_map (with_lock 0)) (stays q apart)
              ∙ unlocked_stays (record_of d q) (ap lock_of (b.rows_are q) ∙ open_lock (test q) free)
      lock_other q apart = stays q apart

      pub hold_one : Further rows contents test key
      hold_one =
          further key (Hold (held_of held) ∷ opened)
          (λ q. hold_met held opened is q
          ∙ put-is key (rows key) (record_of d) (locked held (record_of opened)) q (λ one. ap (locked held (record_of opened)) (sym one) ∙ lock_here) (lock_other q))
          (side_hold contents opened side_opened (held_of held) (one_path o.path is))
