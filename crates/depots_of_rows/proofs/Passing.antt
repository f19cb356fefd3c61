-- One pass over all keys, in any order: each row that isn't there yet is put by its own deeds.
use Rattle.std.proofs.Common.{◌≡◌, ◌⊎◌, ◌≤◌, ℕ, zero, suc, Bool, true, false, List, [], ◌∷◌, map, Option, Some, None, inl, inr, refl, sym, ap, subst, ◌∙◌, arith}
use Rattle.std.specs.Prelude.{◌||◌, codes, option_map}
use Rattle.std.specs.List.{list_all}
use Rattle.std.proofs.lemmas.Bool.{and_from}
use Rattle.depot_rows.specs.depot_path.Bytes.{same}
use Rattle.depot_rows.specs.depot_path.Path.{printed, is_path}
use Rattle.depot_rows.specs.db_records.Record.{key_of}
use Rattle.depot_rows.specs.db_records.declared.key.Key.{Key}
use Rattle.depot_rows.specs.db_records.declared.key.Key.TheVariants as keys
use Rattle.depot_rows.specs.db_records.declared.record.Record.{Record}
use Rattle.depot_rows.specs.db_records.declared.record.Record.TheVariants as records
use Rattle.depot_rows.specs.db_records.declared.rows.ResolveRecord.{ResolveRecord}
use Rattle.depot_rows.specs.db_records.declared.rows.WorkingRecord.{WorkingRecord}
use Rattle.depot_rows.specs.depot_model.Deeds as model
use Rattle.depot_rows.specs.depot_model.Records.{is_at}
use Rattle.depot_rows.specs.depot_model.Rules.{Rows, IsRow, IsOneOf, has_paths, hows, path_or_none}
use Rattle.depot_rows.specs.depot_model.Rows.{how_word}
use Rattle.depot_rows.specs.declared.deed.Action.{Action}
use Rattle.depot_rows.specs.declared.deed.Opening.{Opening}
use Rattle.depot_rows.specs.declared.deed.Owing.{Owing}
use Rattle.depot_rows.specs.declared.deed.Source.{Source}
use Rattle.depot_rows.specs.Deed.{opening_of, source_of}
use Rattle.depot_rows.specs.Effects.{form_row, have_row, label_row, owed_row, owed_key, working_row, with_how}
use Rattle.depot_rows.proofs.Entries.{In}
use Rattle.depot_rows.proofs.Keys.{at-self, same-is}
use Rattle.depots_of_rows.specs.Telling.{Contents}
use Rattle.depots_of_rows.proofs.Given.{Given, or_at, row_keeps, none_more, known_more}
use Rattle.depots_of_rows.proofs.Side.{Built}
use Rattle.depots_of_rows.proofs.Words.{Spells, Moves, Takes, path_in, moved_in, source_in, action_in, how_in, form_in, either_true, word_of_how, word_of_action}
use Rattle.depots_of_rows.proofs.Simple.{Further, count_one, group_one, spec_one, have_one, label_one}
use Rattle.depots_of_rows.proofs.Opened.{owe_one, pay_one, open_one, hold_one}
use Rattle.depots_of_rows.proofs.Guarded.{or_line}
use Rattle.depots_of_rows.proofs.Revised.{from_one}
use Rattle.depots_of_rows.proofs.Entered.{all_append}
use Rattle.depots_of_rows.proofs.Stages.{history}

-- the keys whose rows are there before
abbrev pub settled : Key → Bool
settled key = or_line history key

-- those, and the keys that were passed
abbrev pub passed : List Key → Key → Bool
passed [] q = settled q
passed (key ∷ ks) q = or_at key (passed ks) q

pub settled_passed : (ks : List Key) (q : Key) → settled q ≡ true → passed ks q ≡ true
settled_passed [] q e = e
settled_passed (key ∷ ks) q e = go (is_at key q) (passed ks q) (settled_passed ks q e)
  where
    go : (x y : Bool) → y ≡ true → (x || y) ≡ true
    go true y h = refl
    go false y h = h

pub in_passed : (ks : List Key) (q : Key) → In ks q → passed ks q ≡ true
in_passed [] q h = absurd h
in_passed (key ∷ ks) q (inl e) = ap (λ (x : Bool). x || passed ks q) (at-self key q e)
in_passed (key ∷ ks) q (inr h) = go (is_at key q) (passed ks q) (in_passed ks q h)
  where
    go : (x y : Bool) → y ≡ true → (x || y) ≡ true
    go true y h = refl
    go false y h = h

module _ (rows : Rows) (contents : Contents) (g : Given rows contents) (test : Key → Bool) (known : (q : Key) → settled q ≡ true → test q ≡ true)
    (d : List model.Deed) (b : Built rows contents test d) where
  there : (key : Key) → settled key ≡ true → Further rows contents test key
  there key e = (d, record { rows_are = λ q. b.rows_are q ∙ known_more rows test key (known key e) q; side = b.side })

  absent : (key : Key) → rows key ≡ None → Further rows contents test key
  absent key e = (d, record { rows_are = λ q. b.rows_are q ∙ none_more rows test key e q; side = b.side })

  resolve_row : (x : ResolveRecord) → rows (key_of (records.Resolve x)) ≡ Some (records.Resolve x) → Further rows contents test (key_of (records.Resolve x))
  resolve_row x is = subst (Further rows contents test) key_is (go (either_true (same x.how []) _ rule.3))
    where
      rule : IsRow rows (records.Resolve x)
      rule = row_keeps rows g.keep (key_of (records.Resolve x)) (records.Resolve x) is

      path : Spells x.path
      path = path_in x.path rule.0

      from : Spells x.from
      from = path_in x.from rule.1

      owing : Owing
      owing = record { client = x.client; path = path.path; from = from.path; first = x.first; last = x.last }

      key_is : owed_key owing ≡ key_of (records.Resolve x)
      key_is = λ i. keys.Resolve x.client (path.text_is i) (from.text_is i)

      row_is : (how : List ℕ) → x.how ≡ how → rows (owed_key owing) ≡ Some (with_how how (owed_row owing))
      row_is how e = ap rows key_is ∙ is ∙ (λ i. Some (records.Resolve (record {
        client = x.client;
        path = sym path.text_is i;
        from = sym from.text_is i;
        first = x.first;
        last = x.last;
        how = e i;
      })))

      go : (same x.how [] ≡ true) ⊎ (IsOneOf (map how_word hows) x.how) → Further rows contents test (owed_key owing)
      go (inl h) = owe_one rows contents g test d b owing path.is from.is (row_is [] (same-is x.how [] h))
      go (inr h) =
          let how = how_in x.how h in
          pay_one rows contents g test d b owing how.0 path.is from.is (row_is (word_of_how how.0) (sym how.1))

  working_one : (x : WorkingRecord) → rows (key_of (records.Working x)) ≡ Some (records.Working x) → Further rows contents test (key_of (records.Working x))
  working_one x is = subst (Further rows contents test) key_is (go x.lock refl rule.5)
    where
      rule : IsRow rows (records.Working x)
      rule = row_keeps rows g.keep (key_of (records.Working x)) (records.Working x) is

      path : Spells x.path
      path = path_in x.path rule.1

      action : (a : Action) × (word_of_action a ≡ x.action)
      action = action_in x.action rule.3

      source : Takes x.source x.source_rev
      source = source_in rows x.source x.source_rev rule.6

      moved : Moves x.moved
      moved = moved_in x.action x.moved rule.7

      opening : Opening
      opening = record {
        client = x.client;
        path = path.path;
        base = x.base;
        action = action.0;
        file_type = x.file_type;
        change = x.change;
        source = source.source;
        moved = moved.moved;
      }

      key_is : keys.Working (printed path.path) x.client ≡ key_of (records.Working x)
      key_is = λ i. keys.Working (path.text_is i) x.client

      row_is : (lock : ℕ) → x.lock ≡ lock → rows (keys.Working (printed path.path) x.client) ≡ Some (working_row lock opening)
      row_is lock e = ap rows key_is ∙ is ∙ (λ i. Some (records.Working (record {
        path = sym path.text_is i;
        client = x.client;
        base = x.base;
        action = sym action.1 i;
        file_type = x.file_type;
        change = x.change;
        lock = e i;
        source = sym source.text_is i;
        source_rev = sym source.rev_is i;
        moved = sym moved.text_is i;
      })))

      source_paths : (s : Option Source) → list_all is_path (path_or_none (option_map (λ (y : Source). y.path) s)) ≡ true
          → list_all is_path (path_or_none (option_map (λ (y : model.Source). y.path) (option_map source_of s))) ≡ true
      source_paths None e = e
      source_paths (Some s) e = e

      has : has_paths (model.Open (opening_of opening)) ≡ true
      has = and_from (is_path path.path) _ path.is (all_append is_path (path_or_none moved.moved) _ moved.paths (source_paths source.source source.paths))

      go : (lock : ℕ) → x.lock ≡ lock → lock ≤ 1 → Further rows contents test (keys.Working (printed path.path) x.client)
      go zero e low = open_one rows contents g test d b opening path.is has (row_is 0 e)
      go (suc zero) e low = hold_one rows contents g test d b opening path.is has (row_is 1 e)
      go (suc (suc n)) e low = absurd (omega (arith, low))

  row_one : (r : Record) → rows (key_of r) ≡ Some r → Further rows contents test (key_of r)
  row_one (records.Counter x) is = go (same x.name (codes "change")) refl
    where
      go : (y : Bool) → same x.name (codes "change") ≡ y → Further rows contents test (keys.Counter x.name)
      go true e = there (keys.Counter x.name) e
      go false e = count_one rows contents test d b x.name x.value e is
  row_one (records.Group x) is = group_one rows contents test d b x.group x.user is
  row_one (records.Protect x) is = there (keys.Protect x.line) refl
  row_one (records.Domain x) is =
      let s = form_in rows x.kind x.name x.form (row_keeps rows g.keep (keys.Domain x.kind x.name) (records.Domain x) is) in
      subst (λ (word : List ℕ). Further rows contents test (keys.Domain word x.name)) s.word_is
      (spec_one rows contents test d b s.kind x.name s.reads.form s.reads.spelled
      (ap (λ (word : List ℕ). rows (keys.Domain word x.name)) s.word_is ∙ is ∙ (λ i. Some (form_row (sym s.word_is i) x.name (sym s.reads.text_is i)))))
  row_one (records.Have x) is =
      let rule = row_keeps rows g.keep (keys.Have x.client x.path) (records.Have x) is in
      let path = path_in x.path rule.1 in
      subst (λ (text : List ℕ). Further rows contents test (keys.Have x.client text)) path.text_is
      (have_one rows contents test d b x.client path.path x.rev path.is (from_one rows contents g x.path x.rev rule.2)
      (ap (λ (text : List ℕ). rows (keys.Have x.client text)) path.text_is ∙ is ∙ (λ i. Some (have_row x.client (sym path.text_is i) x.rev))))
  row_one (records.Label x) is =
      let rule = row_keeps rows g.keep (keys.Label x.label x.path) (records.Label x) is in
      let path = path_in x.path rule.1 in
      subst (λ (text : List ℕ). Further rows contents test (keys.Label x.label text)) path.text_is
      (label_one rows contents test d b x.label path.path x.rev path.is (from_one rows contents g x.path x.rev rule.2)
      (ap (λ (text : List ℕ). rows (keys.Label x.label text)) path.text_is ∙ is ∙ (λ i. Some (label_row x.label (sym path.text_is i) x.rev))))
  row_one (records.Integed x) is = there (key_of (records.Integed x)) refl
  row_one (records.Resolve x) is = resolve_row x is
  row_one (records.Working x) is = working_one x is
  row_one (records.Change x) is = there (keys.Change x.change) refl
  row_one (records.Rev x) is = there (keys.Rev x.path x.rev) refl

  pub pass_one : (key : Key) → Further rows contents test key
  pass_one key = go (rows key) refl
    where
      go : (o : Option Record) → rows key ≡ o → Further rows contents test key
      go None e = absent key e
      go (Some r) e =
          let one : key_of r ≡ key = g.keyed key r e in
          subst (Further rows contents test) one (row_one r (ap rows one ∙ e))

pub pass_all : (rows : Rows) (contents : Contents) (g : Given rows contents) (ks : List Key) (d : List model.Deed) → Built rows contents settled d
    → (e : List model.Deed) × Built rows contents (passed ks) e
pass_all rows contents g [] d b = (d, record { rows_are = b.rows_are; side = b.side })
pass_all rows contents g (key ∷ ks) d b =
    let rest = pass_all rows contents g ks d b in
    let more = pass_one rows contents g (passed ks) (settled_passed ks) rest.0 rest.1 key in
    (more.0, record { rows_are = more.1.rows_are; side = more.1.side })
