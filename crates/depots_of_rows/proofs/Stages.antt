-- The depot of all changes with what they made: a stage a number.
use Rattle.std.proofs.Common.{◌≡◌, ◌≢◌, ◌≤◌, ◌<◌, ◌⊎◌, ℕ, zero, suc, Bool, true, false, List, [], ◌∷◌, Option, Some, None, inl, inr, refl, sym, ap, subst, ◌∙◌, arith}
use Rattle.std.specs.Prelude.{◌==◌, codes, if◌then◌else◌, option_map, option_and_then, nat_lt, is_none, is_some, IsSome, IsSomeAnd, Contains}
use Rattle.std.specs.Option.{option_or, option_flatten}
use Rattle.std.proofs.Math.Nat.{max-eq_left}
use Rattle.std.proofs.lemmas.Bool.{and_from}
use Rattle.depot_rows.specs.depot_path.Bytes.{same}
use Rattle.depot_rows.specs.depot_path.Path.{printed}
use Rattle.depot_rows.specs.db_records.declared.key.Key.{Key}
use Rattle.depot_rows.specs.db_records.declared.key.Key.TheVariants as keys
use Rattle.depot_rows.specs.db_records.declared.record.Record.{Record}
use Rattle.depot_rows.specs.db_records.declared.record.Record.TheVariants as records
use Rattle.depot_rows.specs.depot_model.Deeds as model
use Rattle.depot_rows.specs.depot_model.Latest.{when, count_of}
use Rattle.depot_rows.specs.depot_model.Numbers.{top, landings, landing}
use Rattle.depot_rows.specs.depot_model.Records.{record_of, at_path, kind_of, is_at, pending_record}
use Rattle.depot_rows.specs.depot_model.Revisions.{Revision, revision}
use Rattle.depot_rows.specs.depot_model.Rules.{Rows, IsSubmitted, change_of, top_in, stay_landed}
use Rattle.depot_rows.specs.depot_model.Steps.Counters.{above_zero}
use Rattle.depot_rows.specs.declared.deed.Deed.TheVariants.{Pend}
use Rattle.depot_rows.specs.declared.deed.Pending.{Pending}
use Rattle.depot_rows.specs.Deed.{pending_of}
use Rattle.depot_rows.specs.Effects.{put_at, counter_row, is_submitted}
use Rattle.depot_rows.proofs.ChangeCounter.{change_key, change_of as change_row_of, pend_met, not_landed}
use Rattle.depot_rows.proofs.Entries.{In}
use Rattle.depot_rows.proofs.Following.{stays_apart}
use Rattle.depot_rows.proofs.Keys.{same-is, same-self, at-is, at-self}
use Rattle.depot_rows.proofs.Spelled.{at_path-nothing}
use Rattle.depot_facts.proofs.Listed.{contains_in}
use Rattle.depots_of_rows.specs.Telling.{Contents}
use Rattle.depots_of_rows.proofs.Given.{Given, only}
use Rattle.depots_of_rows.proofs.Side.{Side, Built}
use Rattle.depots_of_rows.proofs.Opened.{put_other}
use Rattle.depots_of_rows.proofs.Revised.{submitted_by}
use Rattle.depots_of_rows.proofs.History.{before, Stage, ChangeAt, change_at, counter_is, top_stays, next_same, less, is_less, never_less, no_rev, no_pair, paired_by}
use Rattle.depots_of_rows.proofs.Landed.{land_next}

nothing_below : (o : Option Record) (n : ℕ) → (if nat_lt n 0 then o else None) ≡ None
nothing_below o n = go (nat_lt n 0) refl
  where
    go : (x : Bool) → nat_lt n 0 ≡ x → (if x then o else None) ≡ None
    go true e = absurd (never n e)
      where
        never : (i : ℕ) → nat_lt i 0 ≡ true → ⊥
        never i h = let low = less i 0 h in omega (arith, low)
    go false e = refl

all_below : (o : Option Record) (n c : ℕ) → (IsSome o → n < c) → (if nat_lt n c then o else None) ≡ o
all_below None n c low = go (nat_lt n c)
  where
    go : (x : Bool) → (if x then (let o : Option Record = None in o) else None) ≡ None
    go true = refl
    go false = refl
all_below (Some r) n c low = ap (λ (x : Bool). if x then Some r else None) (is_less n c (low refl))

-- the keys of changes and of what they made, and of their counter
abbrev pub history : Key → Bool
history (keys.Counter name) = same name (codes "change")
history (keys.Change n) = true
history (keys.Rev text n) = true
history (keys.Integed to from a b x y how change) = true
history _ = false

module _ (rows : Rows) (contents : Contents) (g : Given rows contents) where
  abbrev most : ℕ
  most = top_in rows

  -- ---- the bottom: the greatest number was pending once

  abbrev first : model.Pending
  first = record { change = most; user = []; client = []; moment = 0; text = [] }

  abbrev bottom : List model.Deed
  bottom = model.Drop most ∷ model.Pend first ∷ []

  bottom_top : top bottom ≡ most
  bottom_top = max-eq_left (omega arith)

  bottom_rows : (q : Key) → record_of bottom q ≡ only (before rows 0) rows q
  bottom_rows (keys.Counter name) = go (same name (codes "change")) refl
    where
      go : (x : Bool) → same name (codes "change") ≡ x → record_of bottom (keys.Counter name) ≡ (if x then rows (keys.Counter name) else None)
      go true h =
          let one : name ≡ codes "change" = same-is name (codes "change") h in
          ap (λ (t : List ℕ). record_of bottom (keys.Counter t)) one ∙ counter_is rows contents g bottom bottom_top ∙ ap (λ (t : List ℕ). rows (keys.Counter t)) (sym one)
      go false h = ap (λ (x : Bool). option_map (counter_row name) (if x then above_zero (top bottom) else count_of bottom name)) h
  bottom_rows (keys.Change n) = go (most == n) ∙ sym (nothing_below (rows (keys.Change n)) n)
    where
      go : (x : Bool) → change_row_of (option_flatten (option_or (when x None) (option_or (when x (Some first)) None))) None ≡ None
      go true = refl
      go false = refl
  bottom_rows (keys.Group a b) = refl
  bottom_rows (keys.Protect zero) = refl
  bottom_rows (keys.Protect (suc n)) = refl
  bottom_rows (keys.Domain a b) = go (kind_of a)
    where
      go : (o : Option model.SpecKind) → option_and_then (λ _. let r : Option Record = None in r) o ≡ None
      go None = refl
      go (Some kind) = refl
  bottom_rows (keys.Have a b) = at_path-nothing b
  bottom_rows (keys.Label a b) = at_path-nothing b
  bottom_rows (keys.Integed a b i j k l how change) = sym (nothing_below (rows (keys.Integed a b i j k l how change)) change)
  bottom_rows (keys.Resolve a b f) = ap (λ (o : Option Record). at_path b (λ _. o)) (at_path-nothing f) ∙ at_path-nothing b
  bottom_rows (keys.Working a b) = at_path-nothing a
  bottom_rows (keys.Rev a zero) = at_path-nothing a ∙ sym (nothing_below (rows (keys.Rev a zero)) (change_of (rows (keys.Rev a zero))))
  bottom_rows (keys.Rev a (suc n)) = at_path-nothing a ∙ sym (nothing_below (rows (keys.Rev a (suc n))) (change_of (rows (keys.Rev a (suc n)))))

  bottom_side : Side contents bottom
  bottom_side = record {
    agree = λ l m h k e. absurd (contains_in [] l h);
    apart = λ n h k. absurd cc;
    stay = refl;
    lines = refl;
    forms = λ kind name. tt;
    paths = refl;
    whole = refl;
    these = these;
  }
    where
      these : (path : List ℕ) (n : ℕ) (r : Revision) (content : List ℕ) → revision bottom path n ≡ Some r → r.entry.content ≡ Some content → content ≡ contents (printed path) n
      these path zero r content e h = absurd cc
      these path (suc n) r content e h = absurd cc

  begun : Stage rows contents 0 bottom
  begun = record {
    built = record { rows_are = bottom_rows; side = bottom_side };
    top_is = bottom_top;
    below = λ m h. absurd (contains_in [] m h);
  }

  -- ---- a number that no submitted change has

  module _ (c : ℕ) (low : c ≤ most) (d : List model.Deed) (s : Stage rows contents c d) (unsubmitted : IsSomeAnd (rows (keys.Change c)) IsSubmitted → ⊥) where
    -- nothing but a change differs
    abbrev IsChange : Key → Type 0
    IsChange (keys.Change n) = Unit {0}
    IsChange _ = ⊥

    unmoved : (q : Key) → (IsChange q → ⊥) → only (before rows c) rows q ≡ only (before rows (suc c)) rows q
    unmoved (keys.Change n) other = absurd (other tt)
    unmoved (keys.Rev text n) other = next_same (rows (keys.Rev text n)) (change_of (rows (keys.Rev text n))) c (no_rev rows contents g c unsubmitted text n)
    unmoved (keys.Integed to from a b x y how change) other =
        next_same (rows (keys.Integed to from a b x y how change)) change c (no_pair rows contents g c unsubmitted to from a b x y how change)
    unmoved (keys.Counter name) other = refl
    unmoved (keys.Group a b) other = refl
    unmoved (keys.Protect n) other = refl
    unmoved (keys.Domain a b) other = refl
    unmoved (keys.Have a b) other = refl
    unmoved (keys.Label a b) other = refl
    unmoved (keys.Resolve a b f) other = refl
    unmoved (keys.Working a b) other = refl

    below_more : (m : model.Landing) → Contains (landings d) m → m.change < suc c
    below_more m h = let under = s.below m h in omega (arith, under)

    none_next : rows (keys.Change c) ≡ None → Stage rows contents (suc c) d
    none_next none = record { built = record { rows_are = λ q. s.built.rows_are q ∙ same_rows q; side = s.built.side }; top_is = s.top_is; below = below_more }
      where
        same_rows : (q : Key) → only (before rows c) rows q ≡ only (before rows (suc c)) rows q
        same_rows (keys.Change n) = next_same (rows (keys.Change n)) n c (λ e. ap (λ (m : ℕ). rows (keys.Change m)) e ∙ none)
        same_rows (keys.Rev text n) = unmoved (keys.Rev text n) (λ h. h)
        same_rows (keys.Integed to from a b x y how change) = unmoved (keys.Integed to from a b x y how change) (λ h. h)
        same_rows (keys.Counter name) = refl
        same_rows (keys.Group a b) = refl
        same_rows (keys.Protect n) = refl
        same_rows (keys.Domain a b) = refl
        same_rows (keys.Have a b) = refl
        same_rows (keys.Label a b) = refl
        same_rows (keys.Resolve a b f) = refl
        same_rows (keys.Working a b) = refl

    module _ (x : ChangeAt rows contents g c) (is_pending : x.row.status ≡ codes "pending") where
      abbrev pending : Pending
      pending = record { change = c; user = x.row.user; client = x.row.client; moment = x.row.moment; text = x.row.text }

      abbrev key : Key
      key = keys.Change c

      abbrev row : Option Record
      row = Some (pending_record (pending_of pending))

      abbrev pend : List model.Deed
      pend = model.Pend (pending_of pending) ∷ d

      row_is : rows key ≡ row
      row_is = x.is ∙ (λ i. Some (records.Change (record {
        change = x.number i;
        status = is_pending i;
        user = x.row.user;
        client = x.row.client;
        moment = x.row.moment;
        text = x.row.text;
      })))

      row_after : (q : Key) → change_key ≢ q → record_of pend q ≡ put_at key row (record_of d) q
      row_after q apart = pend_met (pending_of pending) d q ∙ put_other change_key _ (put_at key row (record_of d)) q apart

      elsewhere : (q : Key) → change_key ≢ q → (IsChange q → ⊥) → key ≢ q → record_of pend q ≡ only (before rows (suc c)) rows q
      elsewhere q counter other apart = row_after q counter ∙ put_other key row (record_of d) q apart ∙ s.built.rows_are q ∙ unmoved q other

      change_after : (n : ℕ) → record_of pend (keys.Change n) ≡ only (before rows (suc c)) rows (keys.Change n)
      change_after n = row_after q (λ e. absurd cc) ∙ go (is_at key q) refl
        where
          q : Key
          q = keys.Change n

          go : (y : Bool) → is_at key q ≡ y → (if y then row else record_of d q) ≡ only (before rows (suc c)) rows q
          go true e =
              let one : key ≡ q = at-is key q e in
              let number : c ≡ n = cc in
              sym row_is ∙ ap rows one ∙ sym (ap (λ (y : Bool). if y then rows q else None) (is_less n (suc c) (omega (arith, number))))
          go false e = s.built.rows_are q ∙ next_same (rows q) n c (λ one. absurd (
              let two : true ≡ false = sym (at-self key q (ap keys.Change (sym one))) ∙ e in
              cc))

      counter_after : (name : List ℕ) → record_of pend (keys.Counter name) ≡ only (before rows (suc c)) rows (keys.Counter name)
      counter_after name = go (same name (codes "change")) refl
        where
          go : (y : Bool) → same name (codes "change") ≡ y → record_of pend (keys.Counter name) ≡ (if y then rows (keys.Counter name) else None)
          go true h =
              let one : name ≡ codes "change" = same-is name (codes "change") h in
              ap (λ (t : List ℕ). record_of pend (keys.Counter t)) one
              ∙ counter_is rows contents g pend (top_stays rows contents g d c s.top_is low)
              ∙ ap (λ (t : List ℕ). rows (keys.Counter t)) (sym one)
          go false h =
              row_after (keys.Counter name) (λ e.
              let one : codes "change" ≡ name = cc in
              let two : true ≡ false = sym (same-self (codes "change")) ∙ ap (λ (t : List ℕ). same t (codes "change")) one ∙ h in
              cc)
              ∙ put_other key row (record_of d) (keys.Counter name) (λ e. absurd cc) ∙ s.built.rows_are (keys.Counter name)
              ∙ ap (λ (y : Bool). if y then rows (keys.Counter name) else None) h

      rows_after : (q : Key) → record_of pend q ≡ only (before rows (suc c)) rows q
      rows_after (keys.Counter name) = counter_after name
      rows_after (keys.Change n) = change_after n
      rows_after (keys.Rev text n) = elsewhere (keys.Rev text n) (λ e. absurd cc) (λ h. h) (λ e. absurd cc)
      rows_after (keys.Integed to from a b i j how change) = elsewhere (keys.Integed to from a b i j how change) (λ e. absurd cc) (λ h. h) (λ e. absurd cc)
      rows_after (keys.Group a b) = elsewhere (keys.Group a b) (λ e. absurd cc) (λ h. h) (λ e. absurd cc)
      rows_after (keys.Protect n) = elsewhere (keys.Protect n) (λ e. absurd cc) (λ h. h) (λ e. absurd cc)
      rows_after (keys.Domain a b) = elsewhere (keys.Domain a b) (λ e. absurd cc) (λ h. h) (λ e. absurd cc)
      rows_after (keys.Have a b) = elsewhere (keys.Have a b) (λ e. absurd cc) (λ h. h) (λ e. absurd cc)
      rows_after (keys.Label a b) = elsewhere (keys.Label a b) (λ e. absurd cc) (λ h. h) (λ e. absurd cc)
      rows_after (keys.Resolve a b f) = elsewhere (keys.Resolve a b f) (λ e. absurd cc) (λ h. h) (λ e. absurd cc)
      rows_after (keys.Working a b) = elsewhere (keys.Working a b) (λ e. absurd cc) (λ h. h) (λ e. absurd cc)

      -- the number wasn't submitted
      free : is_submitted (record_of d key) ≡ false
      free = ap is_submitted (s.built.rows_are key ∙ ap (λ (y : Bool). if y then rows key else None) (never_less c c refl))

      side_after : Side contents pend
      side_after =
          let side = s.built.side in
          record {
            agree = side.agree;
            apart = stays_apart d (Pend pending) (model.Pend (pending_of pending)) side.apart refl free;
            stay = and_from (is_none (landing d c)) (stay_landed d) (ap is_none (not_landed d c side.apart free)) side.stay;
            lines = side.lines;
            forms = side.forms;
            paths = side.paths;
            whole = side.whole;
            these = side.these;
          }

      pend_next : Stage rows contents (suc c) pend
      pend_next = record { built = record { rows_are = rows_after; side = side_after }; top_is = top_stays rows contents g d c s.top_is low; below = below_more }

  -- ---- all numbers

  module _ (ks : List Key) (listed : (q : Key) → IsSome (rows q) → In ks q) where
    abbrev Staged : ℕ → Type 0
    Staged c = (d : List model.Deed) × Stage rows contents c d

    next : (c : ℕ) → c ≤ most → Staged c → Staged (suc c)
    next c low staged = go (rows (keys.Change c)) refl
      where
        by_status : (x : ChangeAt rows contents g c) → (x.row.status ≡ codes "pending") ⊎ (x.row.status ≡ codes "submitted") → Staged (suc c)
        by_status x (inl e) = (_, pend_next c low staged.0 staged.1 unsubmitted x e)
          where
            unsubmitted : IsSomeAnd (rows (keys.Change c)) IsSubmitted → ⊥
            unsubmitted h =
                let is : x.row.status ≡ codes "submitted" = subst (λ (o : Option Record). IsSomeAnd o IsSubmitted) x.is h in
                let two : true ≡ false = ap (λ (w : List ℕ). same w (codes "pending")) (sym e ∙ is) in
                cc
        by_status x (inr e) = (_, land_next rows contents g ks listed c low staged.0 staged.1 x e)

        go : (o : Option Record) → rows (keys.Change c) ≡ o → Staged (suc c)
        go None e = (staged.0, none_next c low staged.0 staged.1 (λ h. subst (λ (o : Option Record). IsSomeAnd o IsSubmitted) e h) e)
        go (Some r) e = let x = change_at rows contents g c r e in by_status x x.status

    stage : (c : ℕ) → c ≤ suc most → Staged c
    stage zero low = (bottom, begun)
    stage (suc c) low = next c (omega (arith, low)) (stage c (omega (arith, low)))

    change_low : (c : ℕ) → IsSomeAnd (rows (keys.Change c)) IsSubmitted → c < suc most
    change_low c h = go (rows (keys.Change c)) refl h
      where
        go : (o : Option Record) → rows (keys.Change c) ≡ o → IsSomeAnd o IsSubmitted → c < suc most
        go None e h = absurd h
        go (Some r) e h = let under = g.keep.top_is c (ap is_some e) in omega (arith, under)

    pub all_changes : (d : List model.Deed) × Built rows contents history d
    all_changes = (last.0, record { rows_are = λ q. last.1.built.rows_are q ∙ all_rows q; side = last.1.built.side })
      where
        last : Staged (suc most)
        last = stage (suc most) (omega arith)

        all_rows : (q : Key) → only (before rows (suc most)) rows q ≡ only history rows q
        all_rows (keys.Change n) = all_below (rows (keys.Change n)) n (suc most) (λ h. let under = g.keep.top_is n h in omega (arith, under))
        all_rows (keys.Rev text n) = all_below (rows (keys.Rev text n)) (change_of (rows (keys.Rev text n))) (suc most)
            (λ h. change_low (change_of (rows (keys.Rev text n))) (submitted_by rows contents g text n h))
        all_rows (keys.Integed to from a b x y how change) = all_below (rows (keys.Integed to from a b x y how change)) change (suc most)
            (λ h. change_low change (paired_by rows contents g to from a b x y how change h))
        all_rows (keys.Counter name) = refl
        all_rows (keys.Group a b) = refl
        all_rows (keys.Protect n) = refl
        all_rows (keys.Domain a b) = refl
        all_rows (keys.Have a b) = refl
        all_rows (keys.Label a b) = refl
        all_rows (keys.Resolve a b f) = refl
        all_rows (keys.Working a b) = refl
