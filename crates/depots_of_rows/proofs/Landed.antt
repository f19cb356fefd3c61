-- A submitted change lands: its row, its revisions and both rows of each credit are there.
use Rattle.std.proofs.Common.{◌≡◌, ◌≢◌, ◌≤◌, ◌<◌, ◌+◌, ◌⊎◌, ℕ, zero, suc, Bool, true, false, List, [], ◌∷◌, map, Option, Some, None, inl, inr, refl, sym, ap, subst, ◌∙◌, arith}
use Rattle.std.specs.Prelude.{◌==◌, ◌&&◌, codes, if◌then◌else◌, option_map, find, slice_get, nat_lt, is_some, IsSome, Contains}
use Rattle.std.specs.List.{list_all}
use Rattle.std.proofs.lemmas.Bool.{and_from, and_parts}
use Rattle.depot_rows.specs.depot_path.Bytes.{same}
use Rattle.depot_rows.specs.depot_path.Path.{printed}
use Rattle.depot_rows.specs.db_records.Record.{key_of}
use Rattle.depot_rows.specs.db_records.declared.key.Key.{Key}
use Rattle.depot_rows.specs.db_records.declared.key.Key.TheVariants as keys
use Rattle.depot_rows.specs.db_records.declared.record.Record.{Record}
use Rattle.depot_rows.specs.db_records.declared.record.Record.TheVariants as records
use Rattle.depot_rows.specs.db_records.declared.rows.IntegedRecord.{IntegedRecord}
use Rattle.depot_rows.specs.depot_model.Deeds as model
use Rattle.depot_rows.specs.depot_model.Numbers.{landings}
use Rattle.depot_rows.specs.depot_model.Records.{record_of, unplaced, is_at, into_word, pair_of, landed_record}
use Rattle.depot_rows.specs.depot_model.Revisions.{Revision, revisions, head, entries_at}
use Rattle.depot_rows.specs.depot_model.Rows.{how_word}
use Rattle.depot_rows.specs.depot_model.Rules.{Rows, IsPaired, IsCredit, IsCredited, HasRev, change_of, top_in, has_paths, have_their_contents, LandAlike, are_distinct}
use Rattle.depot_rows.specs.declared.deed.Deed.TheVariants.{Land}
use Rattle.depot_rows.specs.declared.deed.Entry.{Entry}
use Rattle.depot_rows.specs.declared.deed.How.{How}
use Rattle.depot_rows.specs.declared.deed.How.TheVariants.{CopyFrom, BranchFrom, DeleteFrom, Ignored, MovedFrom}
use Rattle.depot_rows.specs.declared.deed.Landing.{Landing}
use Rattle.depot_rows.specs.Deed.{how_of, credit_of, IsLanding, AreEntries}
use Rattle.depot_rows.specs.Effects.{landed, added, or_before, rev_row, change_row, pairs_of, entry_pairs, pair_at, is_revision, AreOfPaths}
use Rattle.depot_rows.proofs.ChangeCounter.{change_key}
use Rattle.depot_rows.proofs.Entries.{In, of_path, at_most_once, paths-same}
use Rattle.depot_rows.proofs.Flat.{flat_row}
use Rattle.depot_rows.proofs.Following.{stays_apart}
use Rattle.depot_rows.proofs.Keys.{same-is, same-self, number-is, number-self, at-is, at-self}
use Rattle.depot_rows.proofs.Submitted.{land_met}
use Rattle.depot_facts.proofs.Listed.{contains_in, in_contains, in_flat, flat_in, in_filter, in_map, found_in, finds, get_in, get_either, IsBehind, map_in}
use Rattle.depots_of_rows.specs.Telling.{Contents, HasTheseContents}
use Rattle.depots_of_rows.proofs.Given.{Given, only, row_keeps}
use Rattle.depots_of_rows.proofs.Side.{Side}
use Rattle.depots_of_rows.proofs.Opened.{put_other}
use Rattle.depots_of_rows.proofs.Revised.{made_there}
use Rattle.depots_of_rows.proofs.Credits.{integed_at, integed_is, one_key, other_key, Takes}
use Rattle.depots_of_rows.proofs.Entered.{EntryAt, Entries, all_entries, entries_of, models_of, model_of, are_entries, next_rev, all_paths, entries_have_paths, entries_are_whole}
use Rattle.depots_of_rows.proofs.History.{before, Stage, ChangeAt, counter_is, top_stays, next_same, is_less}

get_map : {A B : Type 0} (f : A → B) (xs : List A) (k : ℕ) → slice_get xs k ≡ None → slice_get (map f xs) k ≡ None
get_map f [] k e = refl
get_map f (x ∷ xs) zero e = absurd cc
get_map f (x ∷ xs) (suc k) e = get_map f xs k e

code_how : (how : model.How) → (x : How) × (how_of x ≡ how)
code_how model.CopyFrom = (CopyFrom, refl)
code_how model.BranchFrom = (BranchFrom, refl)
code_how model.DeleteFrom = (DeleteFrom, refl)
code_how model.Ignored = (Ignored, refl)
code_how model.MovedFrom = (MovedFrom, refl)

-- what is found takes the place of what is there below a number
joined : (o found : Option Record) (i c : ℕ) → option_map unplaced o ≡ o → ((r : Record) → found ≡ Some r → (o ≡ Some r) × (i ≡ c)) → (found ≡ None → i ≡ c → o ≡ None)
    → option_map unplaced (or_before found (if nat_lt i c then o else None)) ≡ (if nat_lt i (suc c) then o else None)
joined o None i c flat is none = unmoved (nat_lt i c) ∙ next_same o i c (none refl)
  where
    unmoved : (x : Bool) → option_map unplaced (if x then o else None) ≡ (if x then o else None)
    unmoved true = flat
    unmoved false = refl
joined o (Some r) i c flat is none =
    let h = is r refl in
    ap (option_map unplaced) (sym h.0) ∙ flat
    ∙ sym (ap (λ (x : Bool). if x then o else None) (is_less i (suc c) (let e : i ≡ c = h.1 in omega (arith, e))))

module _ (rows : Rows) (contents : Contents) (g : Given rows contents) (ks : List Key) (listed : (q : Key) → IsSome (rows q) → In ks q)
    (c : ℕ) (low : c ≤ top_in rows) (d : List model.Deed) (s : Stage rows contents c d) (x : ChangeAt rows contents g c) (is_submitted : x.row.status ≡ codes "submitted") where
  abbrev es : Entries rows contents g ks listed c ks
  es = all_entries rows contents g ks listed c

  abbrev At : Type 0
  At = EntryAt rows contents g ks listed c

  abbrev landing : Landing
  landing = record {
    change = c;
    user = x.row.user;
    client = x.row.client;
    moment = x.row.moment;
    text = x.row.text;
    entries = entries_of rows contents g ks listed c es.list;
  }

  abbrev landing_is : model.Landing
  landing_is = record {
    change = c;
    user = x.row.user;
    client = x.row.client;
    moment = x.row.moment;
    text = x.row.text;
    entries = models_of rows contents g ks listed c es.list;
  }

  abbrev after : List model.Deed
  after = model.Land landing_is ∷ d

  earlier : (text : List ℕ) (n : ℕ) → record_of d (keys.Rev text n) ≡ (if nat_lt (change_of (rows (keys.Rev text n))) c then rows (keys.Rev text n) else None)
  earlier text n = s.built.rows_are (keys.Rev text n)

  entries_are : AreEntries d landing.entries landing_is.entries
  entries_are = are_entries rows contents g ks listed c d earlier es.list

  is_landing : IsLanding d landing landing_is
  is_landing = record { change = refl; user = refl; client = refl; moment = refl; text = refl; entries = entries_are }

  of_paths : AreOfPaths landing.entries
  of_paths = (all_paths rows contents g ks listed c es.list, es.distinct)

  row_after : (q : Key) → change_key ≢ q → record_of after q ≡ option_map unplaced (or_before (added landing q) (record_of d q))
  row_after q apart = sym (land_met d landing landing_is is_landing of_paths q) ∙ ap (option_map unplaced) (put_other change_key _ (landed landing (record_of d)) q apart)

  -- ---- revisions

  rev_after : (text : List ℕ) (n : ℕ) → record_of after (keys.Rev text n) ≡ only (before rows (suc c)) rows (keys.Rev text n)
  rev_after text n =
      row_after q (λ e. absurd cc)
      ∙ ap (λ (o : Option Record). option_map unplaced (or_before (added landing q) o)) (earlier text n)
      ∙ joined (rows q) (added landing q) (change_of (rows q)) c (g.flat q) (λ r e. found_is (find (is_revision text n) landing.entries) refl r e)
      (λ e. none_is (find (is_revision text n) landing.entries) refl e)
    where
      q : Key
      q = keys.Rev text n

      found_is : (f : Option Entry) → find (is_revision text n) landing.entries ≡ f → (r : Record) → option_map (rev_row c) f ≡ Some r → (rows q ≡ Some r) × (change_of (rows q) ≡ c)
      found_is None h r e = absurd cc
      found_is (Some y) h r e =
          let among = found_in (is_revision text n) landing.entries y h in
          let at = in_map (λ (z : At). z.entry) es.list y among.0 in
          let passes : (same (printed y.path) text && (y.rev == n)) ≡ true = among.1 in
          let spelled : printed y.path ≡ text = same-is (printed y.path) text (and_parts _ _ passes).0 in
          let number : y.rev ≡ n = number-is y.rev n (and_parts (same (printed y.path) text) _ passes).1 in
          let row : rows (keys.Rev (printed y.path) y.rev) ≡ Some (rev_row c y) =
          subst (λ (z : Entry). rows (keys.Rev (printed z.path) z.rev) ≡ Some (rev_row c z)) at.1.1 (at.0.row_is) in
          let here : rows q ≡ Some (rev_row c y) = (λ i. rows (keys.Rev (sym spelled i) (sym number i))) ∙ row in
          let made : change_of (rows q) ≡ c = ap change_of here in
          (here ∙ e, made)

      none_is : (f : Option Entry) → find (is_revision text n) landing.entries ≡ f → option_map (rev_row c) f ≡ None → change_of (rows q) ≡ c → rows q ≡ None
      none_is (Some y) h e made = absurd cc
      none_is None h e made = go (rows q) refl
        where
          go : (o : Option Record) → rows q ≡ o → o ≡ None
          go None k = refl
          go (Some r) k = absurd (
              let has : HasRev rows text n = ap is_some k in
              let at = es.all text n (listed q has) has made in
              let passes : (same (printed (at.at.entry.path)) text && (at.at.entry.rev == n)) ≡ true =
              and_from (same (printed (at.at.entry.path)) text) (at.at.entry.rev == n)
              (ap (λ (t : List ℕ). same t text) at.text_is ∙ same-self text)
              (ap (λ (m : ℕ). m == n) at.rev_is ∙ number-self n) in
              let y = finds (is_revision text n) landing.entries at.at.entry (map_in (λ (z : At). z.entry) es.list at.at at.among) passes in
              let two : None ≡ Some y.0 = sym h ∙ y.1 in
              cc)

  -- ---- integration records

  -- every row of the change's pairs is there
  pair_is : (r : IntegedRecord) → In (pairs_of landing) r → (rows (key_of (records.Integed r)) ≡ Some (records.Integed r)) × (r.change ≡ c)
  pair_is r h =
      let e = in_flat (entry_pairs c) landing.entries r h in
      let at = in_map (λ (z : At). z.entry) es.list e.0 e.1.0 in
      let within : In (entry_pairs c (at.0.entry)) r = subst (λ (y : Entry). In (entry_pairs c y) r) (sym at.1.1) e.1.1 in
      of_entry at.0 within
    where
      made_so : (path : List ℕ) (n : ℕ) (k : model.Credit) → In (pair_of c path n k) r → r.change ≡ c
      made_so path n k (inl e) = sym (ap (λ (y : IntegedRecord). y.change) e)
      made_so path n k (inr (inl e)) = sym (ap (λ (y : IntegedRecord). y.change) e)
      made_so path n k (inr (inr h)) = absurd h

      of_entry : (z : At) → In (entry_pairs c z.entry) r → (rows (key_of (records.Integed r)) ≡ Some (records.Integed r)) × (r.change ≡ c)
      of_entry z h =
          let k = in_flat (pair_of c z.entry.path z.entry.rev) (map credit_of z.entry.credits) r h in
          let y = in_map credit_of z.entry.credits k.0 k.1.0 in
          let here : In (pair_of c z.entry.path z.entry.rev (credit_of y.0)) r =
          subst (λ (w : model.Credit). In (pair_of c z.entry.path z.entry.rev w) r) (sym y.1.1) k.1.1 in
          ((z.good y.0 y.1.0).pair r here, made_so z.entry.path z.entry.rev (credit_of y.0) here)

  -- a pair has a row with the key
  abbrev Member : Key → Type 0
  Member q = (r : IntegedRecord) × (In (pairs_of landing) r × (q ≡ key_of (records.Integed r)))

  -- a credit of an entry gives both rows
  module _ (z : At) (among : In es.list z) (from : List ℕ) (a b : ℕ) (how : How) where
    abbrev first_key : Key
    first_key = one_key rows contents g c (z.entry.path) (z.entry.rev) from a b how

    abbrev second_key : Key
    second_key = other_key rows contents g c (z.entry.path) (z.entry.rev) from a b how

    both_members : IsSome (rows first_key) → IsSome (rows second_key) → Member first_key × Member second_key
    both_members one other = (
      (pair.0, (within pair.0 (inl refl), λ i. keys.Integed (printed (z.entry.path)) (sym t.from_is i) (sym t.first_is i) (sym t.last_is i) z.entry.rev z.entry.rev (how_word (how_of (sym t.how_is i))) c)),
      (pair.1, (within pair.1 (inr (inl refl)), λ i. keys.Integed (sym t.from_is i) (printed (z.entry.path)) z.entry.rev z.entry.rev (sym t.first_is i) (sym t.last_is i) (into_word (how_of (sym t.how_is i))) c)),
    )
      where
        t : Takes rows contents g c (z.entry.path) (z.entry.rev) (z.credits.credits) from a b how
        t = z.credits.all from a b how one other

        k : model.Credit
        k = credit_of t.credit

        pair : IntegedRecord × IntegedRecord
        pair = (
          record { to_file = printed (z.entry.path); from_file = printed k.from; start_from = k.first; end_from = k.last; start_to = z.entry.rev; end_to = z.entry.rev; how = how_word k.how; change = c },
          record { to_file = printed k.from; from_file = printed (z.entry.path); start_from = z.entry.rev; end_from = z.entry.rev; start_to = k.first; end_to = k.last; how = into_word k.how; change = c },
        )

        credited : In (map credit_of z.entry.credits) k
        credited = map_in credit_of z.entry.credits t.credit (subst (λ xs. In xs t.credit) (sym z.credits_are) t.there)

        within : (r : IntegedRecord) → In (pair_of c (z.entry.path) (z.entry.rev) k) r → In (pairs_of landing) r
        within r h = flat_in (entry_pairs c) landing.entries z.entry r (map_in (λ (y : At). y.entry) es.list z among)
            (flat_in (pair_of c (z.entry.path) (z.entry.rev)) (map credit_of z.entry.credits) k r credited h)

  module _ (to from : List ℕ) (a b i j : ℕ) (how : List ℕ) where
    abbrev at_key : Key
    at_key = keys.Integed to from a b i j how c

    -- a row of a pair of the change is among them
    member : IsSome (rows at_key) → Member at_key
    member has = go (row_keeps rows g.keep at_key (records.Integed (integed_at to from a b i j how c)) (integed_is rows contents g to from a b i j how c has)).4
      where
        by_credit : (h : model.How) → IsCredit rows (integed_at to from a b i j how c) h → Member at_key
        by_credit h credit =
            let made = made_there rows contents g to j c credit.2 in
            let z = es.all to j (listed (keys.Rev to j) made.0) made.0 made.1 in
            let k = code_how h in
            let one : first_key z.at z.among from a b k.0 ≡ at_key =
            λ p. keys.Integed (z.text_is p) from a b ((z.rev_is ∙ sym credit.1) p) (z.rev_is p) ((ap how_word k.1 ∙ sym credit.0) p) c in
            let two : second_key z.at z.among from a b k.0 ≡ keys.Integed from to i j a b (into_word h) c =
            λ p. keys.Integed from (z.text_is p) ((z.rev_is ∙ sym credit.1) p) (z.rev_is p) a b (into_word (k.1 p)) c in
            subst Member one (both_members z.at z.among from a b k.0 (ap (λ (q : Key). is_some (rows q)) one ∙ has) (ap (λ (q : Key). is_some (rows q)) two ∙ credit.3)).0

        by_credited : (h : model.How) → IsCredited rows (integed_at to from a b i j how c) h → Member at_key
        by_credited h credit =
            let made = made_there rows contents g from b c credit.2 in
            let z = es.all from b (listed (keys.Rev from b) made.0) made.0 made.1 in
            let k = code_how h in
            let one : first_key z.at z.among to i j k.0 ≡ keys.Integed from to i j a b (how_word h) c =
            λ p. keys.Integed (z.text_is p) to i j ((z.rev_is ∙ sym credit.1) p) (z.rev_is p) (how_word (k.1 p)) c in
            let two : second_key z.at z.among to i j k.0 ≡ at_key =
            λ p. keys.Integed to (z.text_is p) ((z.rev_is ∙ sym credit.1) p) (z.rev_is p) i j ((ap into_word k.1 ∙ sym credit.0) p) c in
            subst Member two (both_members z.at z.among to i j k.0 (ap (λ (q : Key). is_some (rows q)) one ∙ credit.3) (ap (λ (q : Key). is_some (rows q)) two ∙ has)).1

        go : IsPaired rows (integed_at to from a b i j how c) → Member at_key
        go (h, inl credit) = by_credit h credit
        go (h, inr credit) = by_credited h credit

  pair_after : (to from : List ℕ) (a b i j : ℕ) (how : List ℕ) (change : ℕ)
      → record_of after (keys.Integed to from a b i j how change) ≡ only (before rows (suc c)) rows (keys.Integed to from a b i j how change)
  pair_after to from a b i j how change =
      row_after q (λ e. absurd cc)
      ∙ ap (λ (o : Option Record). option_map unplaced (or_before (added landing q) o)) (s.built.rows_are q)
      ∙ joined (rows q) (added landing q) change c (g.flat q) (λ r e. found_is (pair_at q landing) refl r e) (λ e. none_is (pair_at q landing) refl e)
    where
      q : Key
      q = keys.Integed to from a b i j how change

      test : IntegedRecord → Bool
      test r = is_at q (key_of (records.Integed r))

      found_is : (f : Option IntegedRecord) → find test (pairs_of landing) ≡ f → (r : Record) → option_map (λ y. records.Integed y) f ≡ Some r
          → (rows q ≡ Some r) × (change ≡ c)
      found_is None h r e = absurd cc
      found_is (Some y) h r e =
          let among = found_in test (pairs_of landing) y h in
          let here : q ≡ key_of (records.Integed y) = at-is q (key_of (records.Integed y)) among.1 in
          let is = pair_is y among.0 in
          let number : change ≡ y.change = cc in
          (ap rows here ∙ is.0 ∙ e, number ∙ is.1)

      none_is : (f : Option IntegedRecord) → find test (pairs_of landing) ≡ f → option_map (λ y. records.Integed y) f ≡ None → change ≡ c → rows q ≡ None
      none_is (Some y) h e one = absurd cc
      none_is None h e one = go (rows q) refl
        where
          go : (o : Option Record) → rows q ≡ o → o ≡ None
          go None k = refl
          go (Some r) k = absurd (
              let same_key : keys.Integed to from a b i j how c ≡ q = ap (keys.Integed to from a b i j how) (sym one) in
              let there : Member q = subst Member same_key (member to from a b i j how (ap (λ (y : Key). is_some (rows y)) same_key ∙ ap is_some k)) in
              let y = finds test (pairs_of landing) there.0 there.1.0 (at-self q (key_of (records.Integed there.0)) there.1.1) in
              let two : None ≡ Some y.0 = sym h ∙ y.1 in
              cc)

  -- ---- the change

  change_is : rows (keys.Change c) ≡ Some (change_row landing)
  change_is = x.is ∙ (λ i. Some (records.Change (record {
    change = x.number i;
    status = is_submitted i;
    user = x.row.user;
    client = x.row.client;
    moment = x.row.moment;
    text = x.row.text;
  })))

  change_after : (n : ℕ) → record_of after (keys.Change n) ≡ only (before rows (suc c)) rows (keys.Change n)
  change_after n =
      row_after q (λ e. absurd cc)
      ∙ ap (λ (o : Option Record). option_map unplaced (or_before (added landing q) o)) (s.built.rows_are q)
      ∙ joined (rows q) (added landing q) n c (g.flat q) (λ r e. found_is (c == n) refl r e) (λ e. none_is (c == n) refl e)
    where
      q : Key
      q = keys.Change n

      found_is : (y : Bool) → (c == n) ≡ y → (r : Record) → (if y then Some (change_row landing) else None) ≡ Some r → (rows q ≡ Some r) × (n ≡ c)
      found_is true h r e = let one : c ≡ n = number-is c n h in (ap (λ (m : ℕ). rows (keys.Change m)) (sym one) ∙ change_is ∙ e, sym one)
      found_is false h r e = absurd cc

      none_is : (y : Bool) → (c == n) ≡ y → (let o : Option Record = if y then Some (change_row landing) else None in o) ≡ None → n ≡ c → rows q ≡ None
      none_is true h e one = absurd cc
      none_is false h e one = absurd (let two : true ≡ false = sym (number-self c) ∙ ap (λ (m : ℕ). c == m) (sym one) ∙ h in cc)

  -- ---- all rows

  counter_after : (name : List ℕ) → record_of after (keys.Counter name) ≡ only (before rows (suc c)) rows (keys.Counter name)
  counter_after name = go (same name (codes "change")) refl
    where
      go : (y : Bool) → same name (codes "change") ≡ y → record_of after (keys.Counter name) ≡ (if y then rows (keys.Counter name) else None)
      go true h =
          let one : name ≡ codes "change" = same-is name (codes "change") h in
          ap (λ (t : List ℕ). record_of after (keys.Counter t)) one
          ∙ counter_is rows contents g after (top_stays rows contents g d c s.top_is low)
          ∙ ap (λ (t : List ℕ). rows (keys.Counter t)) (sym one)
      go false h =
          row_after (keys.Counter name) (λ e.
          let one : codes "change" ≡ name = cc in
          let two : true ≡ false = sym (same-self (codes "change")) ∙ ap (λ (t : List ℕ). same t (codes "change")) one ∙ h in
          cc)
          ∙ flat_row d (keys.Counter name) ∙ s.built.rows_are (keys.Counter name)
          ∙ ap (λ (y : Bool). if y then rows (keys.Counter name) else None) h

  rows_after : (q : Key) → record_of after q ≡ only (before rows (suc c)) rows q
  rows_after (keys.Counter name) = counter_after name
  rows_after (keys.Change n) = change_after n
  rows_after (keys.Rev text n) = rev_after text n
  rows_after (keys.Integed to from a b i j how change) = pair_after to from a b i j how change
  rows_after (keys.Group a b) = row_after (keys.Group a b) (λ e. absurd cc) ∙ flat_row d (keys.Group a b) ∙ s.built.rows_are (keys.Group a b)
  rows_after (keys.Protect n) = row_after (keys.Protect n) (λ e. absurd cc) ∙ flat_row d (keys.Protect n) ∙ s.built.rows_are (keys.Protect n)
  rows_after (keys.Domain a b) = row_after (keys.Domain a b) (λ e. absurd cc) ∙ flat_row d (keys.Domain a b) ∙ s.built.rows_are (keys.Domain a b)
  rows_after (keys.Have a b) = row_after (keys.Have a b) (λ e. absurd cc) ∙ flat_row d (keys.Have a b) ∙ s.built.rows_are (keys.Have a b)
  rows_after (keys.Label a b) = row_after (keys.Label a b) (λ e. absurd cc) ∙ flat_row d (keys.Label a b) ∙ s.built.rows_are (keys.Label a b)
  rows_after (keys.Resolve a b f) = row_after (keys.Resolve a b f) (λ e. absurd cc) ∙ flat_row d (keys.Resolve a b f) ∙ s.built.rows_are (keys.Resolve a b f)
  rows_after (keys.Working a b) = row_after (keys.Working a b) (λ e. absurd cc) ∙ flat_row d (keys.Working a b) ∙ s.built.rows_are (keys.Working a b)

  -- ---- what rows don't say

  below_next : (m : model.Landing) → Contains (landing_is ∷ landings d) m → m.change < suc c
  below_next m h = go (contains_in (landing_is ∷ landings d) m h)
    where
      go : In (landing_is ∷ landings d) m → m.change < suc c
      go (inl e) = let number : c ≡ m.change = ap (λ (l : model.Landing). l.change) e in omega (arith, number)
      go (inr k) = let under = s.below m (in_contains (landings d) m k) in omega (arith, under)

  agree_after : LandAlike after
  agree_after l m h k e = go (contains_in (landing_is ∷ landings d) l h) (contains_in (landing_is ∷ landings d) m k)
    where
      go : In (landing_is ∷ landings d) l → In (landing_is ∷ landings d) m → landed_record l ≡ landed_record m
      go (inl p) (inl q) = ap landed_record (sym p ∙ q)
      go (inl p) (inr q) =
          let number : c ≡ l.change = ap (λ (y : model.Landing). y.change) p in
          let under = s.below m (in_contains (landings d) m q) in
          absurd (omega (arith, number, under, e))
      go (inr p) (inl q) =
          let number : c ≡ m.change = ap (λ (y : model.Landing). y.change) q in
          let under = s.below l (in_contains (landings d) l p) in
          absurd (omega (arith, number, under, e))
      go (inr p) (inr q) = s.built.side.agree l m (in_contains (landings d) l p) (in_contains (landings d) m q) e

  these_after : HasTheseContents contents after
  these_after path zero r content e h = absurd cc
  these_after path (suc k) r content e h = go (get_either (revisions d path) (entries_at path landing_is) k r e)
    where
      made : model.Entry → Revision
      made y = record { landing = landing_is; entry = y }

      new : k ≡ head d path + 0 → (y : model.Entry) → In (of_path path landing_is.entries) y → made y ≡ r → content ≡ contents (printed path) (suc k)
      new at y there is =
          let among = in_filter (λ (w : model.Entry). same w.path path) landing_is.entries y there in
          let z = in_map (λ (w : At). model_of w.entry w.content) es.list y among.0 in
          let one : z.0.entry.path ≡ path = ap (λ (w : model.Entry). w.path) z.1.1 ∙ same-is y.path path among.1 in
          let held : z.0.content ≡ Some content = ap (λ (w : model.Entry). w.content) z.1.1 ∙ ap (λ (w : Revision). w.entry.content) is ∙ h in
          let next : z.0.entry.rev ≡ head d (z.0.entry.path) + 1 = next_rev rows contents g ks listed c d earlier z.0 in
          let same_head : head d (z.0.entry.path) ≡ head d path = ap (head d) one in
          let number : z.0.entry.rev ≡ suc k = omega (arith, next, same_head, at) in
          z.0.these content held ∙ (λ i. contents (printed (one i)) (number i))

      behind : (j : ℕ) → k ≡ head d path + j → slice_get (map made (of_path path landing_is.entries)) j ≡ Some r → content ≡ contents (printed path) (suc k)
      behind zero at got =
          let y = in_map made (of_path path landing_is.entries) r (get_in (map made (of_path path landing_is.entries)) 0 r got) in
          new at y.0 y.1.0 y.1.1
      behind (suc j) at got = absurd (
          let none = get_map made (of_path path landing_is.entries) (suc j) (at_most_once path landing_is.entries
          (ap are_distinct (sym (paths-same d landing.entries landing_is.entries entries_are)) ∙ es.distinct) j) in
          let two : None ≡ Some r = sym none ∙ got in
          cc)

      go : (slice_get (revisions d path) k ≡ Some r) ⊎ IsBehind (revisions d path) (entries_at path landing_is) k r → content ≡ contents (printed path) (suc k)
      go (inl old) = s.built.side.these path (suc k) r content old h
      go (inr b) = behind b.0 b.1.0 b.1.1

  side_after : Side contents after
  side_after = record {
    agree = agree_after;
    apart = stays_apart d (Land landing) (model.Land landing_is) s.built.side.apart (landing_is, refl, is_landing) of_paths;
    stay = s.built.side.stay;
    lines = s.built.side.lines;
    forms = s.built.side.forms;
    paths = and_from (has_paths (model.Land landing_is)) (list_all has_paths d) (entries_have_paths rows contents g ks listed c es.list) s.built.side.paths;
    whole = and_from (have_their_contents landing_is) (list_all have_their_contents (landings d)) (entries_are_whole rows contents g ks listed c es.list) s.built.side.whole;
    these = these_after;
  }

  pub land_next : Stage rows contents (suc c) after
  land_next = record {
    built = record { rows_are = rows_after; side = side_after };
    top_is = top_stays rows contents g d c s.top_is low;
    below = below_next;
  }
