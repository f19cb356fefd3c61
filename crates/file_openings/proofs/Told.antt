-- The rows of a file's openings are those that the depot has, by the names of clients.
use Rattle.std.proofs.Common.{◌≡◌, ℕ, Bool, true, false, List, [], ◌∷◌, Option, Some, None, Ok, refl, sym, ap, subst, ◌∙◌}
use Rattle.std.specs.Prelude.{◌&&◌, ◌||◌, filter, filter_map, if◌then◌else◌, is_some, map, option_and_then, option_map}
use Rattle.std.specs.List.{cons_option, list_any}
use Rattle.std.specs.Option.{option_flatten, option_map_or, option_or}
use Rattle.std.specs.Ordering.{is_eq, nat_cmp, ordering_then}
use Rattle.std.specs.Cmp.Lexicographic.{slice_cmp}
use Rattle.std.specs.declared.cmp.Ordering.{Ordering}
use Rattle.std.specs.declared.cmp.Ordering.TheVariants.{Less, Equal, Greater}
use Rattle.std.proofs.lemmas.Bool.{true≢false, false≢true, or_right}
use Rattle.std.proofs.lemmas.Map.Text.{is_eq-slice_cmp}
use Rattle.depot_rows.specs.depot_path.Bytes.{same}
use Rattle.depot_rows.specs.depot_path.Path.{path_of, printed}
use Rattle.depot_rows.proofs.db_records.Order.{keys_equal}
use Rattle.depot_rows.specs.db_records.Key.{key_cmp, key_table}
use Rattle.depot_rows.specs.db_records.Record.{key_of}
use Rattle.depot_rows.specs.db_records.declared.key.Key.{Key}
use Rattle.depot_rows.specs.db_records.declared.key.Key.TheVariants as keys
use Rattle.depot_rows.specs.db_records.declared.record.Record.{Record}
use Rattle.depot_rows.specs.db_records.declared.table.TableId.{TableId}
use Rattle.depot_rows.specs.db_records.declared.table.TableId.TheVariants as tables
use Rattle.depot_rows.specs.table_store.Rows.{AllAbove, AllOfTable, IsRising, TableRows, row_at}
use Rattle.row_order.proofs.Order.{turned_less}
use Rattle.row_ranges.specs.Ranges.{has_row, is_in}
use Rattle.row_ranges.specs.declared.range.KeyRange.TheVariants.{OpenedFiles}
use Rattle.depot_rows.specs.depot_model.Deeds.{Deed, Opening}
use Rattle.depot_rows.specs.depot_model.Deeds as deeds
use Rattle.depot_rows.specs.depot_model.Latest.{is_held, keys_of, latest, when}
use Rattle.depot_rows.specs.depot_model.Opened.{opened, opening_said}
use Rattle.depot_rows.specs.depot_model.Records.{record_of, working_record}
use Rattle.depot_rows.specs.depot_model.Sorted.{inserted}
use Rattle.depot_rows.specs.depot_model.Steps.Opening.{opener_of}
use Rattle.depot_rows.proofs.Keys.{same-is, same-self}
use Rattle.depot_rows.proofs.Locks.{opened-is}
use Rattle.depot_rows.specs.Standing.{unplaced_at}
use Rattle.row_reads.proofs.Alike.{behind, here, itself, rows_alike, unplaced_row}
use Rattle.row_reads.proofs.FoundRows.{at_own_path}
use Rattle.row_reads.proofs.GroupsListed.{kept_at, kept_of, kept_rise}
use Rattle.file_openings.specs.Openings.{openings}
use Rattle.file_openings.proofs.NamesRise.{Below, Rise, in_inserted, keys_rise}

-- ---- who has a file opened is named

module _ (c path : List ℕ) (o : Opening) where
  abbrev said_in : List Deed → Option Opening
  said_in d = option_flatten (latest (opening_said c path) d)

  abbrev names : List Deed → List (List ℕ)
  names d = keys_of (opener_of path) d

  opens : (d : List Deed) (new : Opening) → (said_in d ≡ Some o → list_any (same c) (names d) ≡ true)
      → (a b : Bool) → same new.client c ≡ a → option_flatten (option_or (when (a && b) (Some new)) (latest (opening_said c path) d)) ≡ Some o
      → list_any (same c) (option_map_or inserted (when b new.client) (λ keys. keys) (names d)) ≡ true
  opens d new more a false e is = more (unsaid a is)
    where
      unsaid : (x : Bool) → option_flatten (option_or (when (x && false) (Some new)) (latest (opening_said c path) d)) ≡ Some o → said_in d ≡ Some o
      unsaid true h = h
      unsaid false h = h
  opens d new more true true e is =
      in_inserted c new.client (names d) ∙ ap (λ b. b || list_any (same c) (names d)) (ap (same c) (same-is new.client c e) ∙ same-self c)
  opens d new more false true e is = in_inserted c new.client (names d) ∙ or_right (same c new.client) (list_any (same c) (names d)) (more is)

  shuts : (d : List Deed) → (said_in d ≡ Some o → list_any (same c) (names d) ≡ true) → (b : Bool)
      → option_flatten (option_or (when b None) (latest (opening_said c path) d)) ≡ Some o → list_any (same c) (names d) ≡ true
  shuts d more true is = absurd cc
  shuts d more false is = more is

  pub named : (d : List Deed) → opened d c path ≡ Some o → list_any (same c) (names d) ≡ true
  named [] is = absurd cc
  named (deeds.Open new ∷ d) is = opens d new (named d) (same new.client c) (same new.path path) refl is
  named (deeds.Shut held ∷ d) is = shuts d (named d) (is_held c path held) is
  named (_ ∷ d) is = named d is

-- ---- their rows

abbrev pass_of : (Record → Bool) → Record → Option Record
pass_of test x = if test x then Some x else None

-- no row of a key passes a test that no row of that key passes
none_pass : (test : Record → Bool) (key : Key) → ((r : Record) → key_of r ≡ key → test r ≡ false) → (rows : List Record)
    → option_and_then (pass_of test) (row_at key rows) ≡ None
none_pass test key fails [] = refl
none_pass test key fails (r ∷ rows) = go (key_cmp (key_of r) key) refl (none_pass test key fails rows)
  where
    go : (o : Ordering) → key_cmp (key_of r) key ≡ o → option_and_then (pass_of test) (row_at key rows) ≡ None → option_and_then (pass_of test) (row_at key (r ∷ rows)) ≡ None
    go Equal k more =
        ap (λ x. option_and_then (pass_of test) x) (here key r rows k) ∙ ap (λ b. if b then Some r else None) (fails r ((keys_equal (key_of r) key).0 k))
    go Less k more = ap (λ x. option_and_then (pass_of test) x) (behind key r rows Less k refl) ∙ more
    go Greater k more = ap (λ x. option_and_then (pass_of test) x) (behind key r rows Greater k refl) ∙ more

module _ (d : List Deed) (path : List ℕ) where
  abbrev found : List ℕ → Option Opening
  found c = opened d c path

  abbrev shown : List (List ℕ) → List Record
  shown cs = map (working_record d) (filter_map found cs)

  abbrev row_of : List ℕ → Option Record
  row_of c = option_map (working_record d) (found c)

  abbrev key_for : List ℕ → Key
  key_for c = keys.Working (printed path) c

  key_is : (c : List ℕ) (o : Opening) → found c ≡ Some o → key_of (working_record d o) ≡ key_for c
  key_is c o e = let of = opened-is d c path o e in λ i. keys.Working (printed (of.1 i)) (of.0 i)

  -- the order of keys is that of names
  turned : (c x : List ℕ) → slice_cmp nat_cmp c x ≡ Less → key_cmp (key_for x) (key_for c) ≡ Greater
  turned c x e =
      turned_less (key_for c) (key_for x)
      ((λ i. ordering_then (text_self (printed path) i) (ordering_then (slice_cmp nat_cmp c x) Equal)) ∙ ap (λ o. ordering_then o Equal) e)
    where
      text_self : (t : List ℕ) → slice_cmp nat_cmp t t ≡ Equal
      text_self t = go (slice_cmp nat_cmp t t) (is_eq-slice_cmp t t ∙ same-self t)
        where
          go : (o : Ordering) → is_eq o ≡ true → o ≡ Equal
          go Equal e = refl
          go Less e = absurd (false≢true e)
          go Greater e = absurd (false≢true e)

  shown_above : (c : List ℕ) (cs : List (List ℕ)) → Below c cs → AllAbove (key_for c) (shown cs)
  shown_above c [] b = tt
  shown_above c (x ∷ cs) b = go (found x) refl (shown_above c cs b.1)
    where
      go : (o : Option Opening) → found x ≡ o → AllAbove (key_for c) (shown cs) → AllAbove (key_for c) (map (working_record d) (cons_option o (filter_map found cs)))
      go None e more = more
      go (Some o) e more = (ap (λ k. key_cmp k (key_for c)) (key_is x o e) ∙ turned c x b.0, more)

  shown_rise : (cs : List (List ℕ)) → Rise cs → IsRising (shown cs)
  shown_rise [] rise = tt
  shown_rise (x ∷ cs) rise = go (found x) refl (shown_rise cs rise.1)
    where
      go : (o : Option Opening) → found x ≡ o → IsRising (shown cs) → IsRising (map (working_record d) (cons_option o (filter_map found cs)))
      go None e more = more
      go (Some o) e more = (subst (λ (k : Key). AllAbove k (shown cs)) (sym (key_is x o e)) (shown_above x cs rise.0), more)

  shown_of : (cs : List (List ℕ)) → AllOfTable tables.Working (shown cs)
  shown_of [] = tt
  shown_of (x ∷ cs) = go (found x) (shown_of cs)
    where
      go : (o : Option Opening) → AllOfTable tables.Working (shown cs) → AllOfTable tables.Working (map (working_record d) (cons_option o (filter_map found cs)))
      go None more = more
      go (Some o) more = (refl, more)

  -- the row of a client
  shown_at : (c : List ℕ) (cs : List (List ℕ)) → row_at (key_for c) (shown cs) ≡ (if list_any (same c) cs then option_map (working_record d) (found c) else None)
  shown_at c [] = refl
  shown_at c (x ∷ cs) = go (found x) refl (same c x) refl (shown_at c cs)
    where
      none_here : found c ≡ None → (b : Bool) → row_of c ≡ (if b then row_of c else None)
      none_here e true = refl
      none_here e false = ap (option_map (working_record d)) e

      apart : (o : Opening) → found x ≡ Some o → same c x ≡ false → (w : Ordering) → key_cmp (key_of (working_record d o)) (key_for c) ≡ w → is_eq w ≡ false
      apart o e n Less k = refl
      apart o e n Greater k = refl
      apart o e n Equal k =
          let one : key_for x ≡ key_for c = sym (key_is x o e) ∙ (keys_equal (key_of (working_record d o)) (key_for c)).0 k in
          let name : c ≡ x = cc in
          absurd (true≢false (sym (same-self c) ∙ ap (same c) name ∙ n))

      go : (o : Option Opening) → found x ≡ o → (b : Bool) → same c x ≡ b → row_at (key_for c) (shown cs) ≡ (if list_any (same c) cs then row_of c else None)
          → row_at (key_for c) (map (working_record d) (cons_option o (filter_map found cs))) ≡ (if b || list_any (same c) cs then row_of c else None)
      go None e false n more = more
      go None e true n more = more ∙ sym (none_here (ap found (same-is c x n) ∙ e) (list_any (same c) cs))
      go (Some o) e true n more =
          let name : c ≡ x = same-is c x n in
          here (key_for c) (working_record d o) (shown cs) (ap (λ k. key_cmp k (key_for c)) (key_is x o e ∙ ap key_for (sym name)) ∙ itself (key_for c))
          ∙ sym (ap (option_map (working_record d)) (ap found name ∙ e))
      go (Some o) e false n more =
          behind (key_for c) (working_record d o) (shown cs) (key_cmp (key_of (working_record d o)) (key_for c)) refl
          (apart o e n (key_cmp (key_of (working_record d o)) (key_for c)) refl)
          ∙ more

  -- those of the clients that have the file opened are those of all that are named
  only_openers : (cs : List (List ℕ)) → filter_map found (filter (λ c. is_some (found c)) cs) ≡ filter_map found cs
  only_openers [] = refl
  only_openers (c ∷ cs) = go (found c) refl (only_openers cs)
    where
      go : (o : Option Opening) → found c ≡ o → filter_map found (filter (λ x. is_some (found x)) cs) ≡ filter_map found cs
          → filter_map found (if is_some o then c ∷ filter (λ x. is_some (found x)) cs else filter (λ x. is_some (found x)) cs) ≡ cons_option o (filter_map found cs)
      go None e more = more
      go (Some o) e more = (λ i. cons_option (e i) (more i))

  module _ (own : path_of (printed path) ≡ Ok path) (rows : List Record) (up : IsRising rows) (of : AllOfTable tables.Working rows)
      (has : (key : Key) → key_table key ≡ tables.Working → row_at key rows ≡ record_of d key) where
    abbrev test : Record → Bool
    test r = has_row (OpenedFiles (printed path)) r

    abbrev pass : Record → Option Record
    pass x = pass_of test x

    abbrev all : List (List ℕ)
    all = keys_of (opener_of path) d

    passed : (c : List ℕ) (o : Option Opening) → found c ≡ o → option_and_then pass (option_map (working_record d) o) ≡ (if list_any (same c) all then option_map (working_record d) o else None)
    passed c None e = none (list_any (same c) all)
      where
        none : (b : Bool) → (let x : Option Record = None in x) ≡ (if b then None else None)
        none true = refl
        none false = refl
    passed c (Some o) e =
        let of_it = opened-is d c path o e in
        let row : Record = working_record d o in
        (λ i. let b : Bool = same (printed path) (printed (of_it.1 i)) && true in if b then Some row else None)
        ∙ ap (λ b. if b && true then Some row else None) (same-self (printed path))
        ∙ sym (ap (λ b. if b then Some row else None) (named c path o d e))

    own_at : (c : List ℕ) → row_at (key_for c) (filter test rows) ≡ row_at (key_for c) (shown all)
    own_at c =
        kept_at test (key_for c) rows up
        ∙ ap (λ x. option_and_then pass x) (has (key_for c) refl ∙ at_own_path path (λ p. option_map (working_record d) (opened d c p)) own)
        ∙ passed c (found c) refl ∙ sym (shown_at c all)

    other_shown : (t c : List ℕ) → same (printed path) t ≡ false → (cs : List (List ℕ)) → row_at (keys.Working t c) (shown cs) ≡ None
    other_shown t c n [] = refl
    other_shown t c n (x ∷ cs) = go (found x) refl (other_shown t c n cs)
      where
        apart : (o : Opening) → found x ≡ Some o → (w : Ordering) → key_cmp (key_of (working_record d o)) (keys.Working t c) ≡ w → is_eq w ≡ false
        apart o e Less k = refl
        apart o e Greater k = refl
        apart o e Equal k =
            let one : key_for x ≡ keys.Working t c = sym (key_is x o e) ∙ (keys_equal (key_of (working_record d o)) (keys.Working t c)).0 k in
            let text : printed path ≡ t = cc in
            absurd (true≢false (sym (same-self (printed path)) ∙ ap (same (printed path)) text ∙ n))

        go : (o : Option Opening) → found x ≡ o → row_at (keys.Working t c) (shown cs) ≡ None
            → row_at (keys.Working t c) (map (working_record d) (cons_option o (filter_map found cs))) ≡ None
        go None e more = more
        go (Some o) e more =
            behind (keys.Working t c) (working_record d o) (shown cs) (key_cmp (key_of (working_record d o)) (keys.Working t c)) refl
            (apart o e (key_cmp (key_of (working_record d o)) (keys.Working t c)) refl)
            ∙ more

    other_at : (t c : List ℕ) → same (printed path) t ≡ false → row_at (keys.Working t c) (filter test rows) ≡ row_at (keys.Working t c) (shown all)
    other_at t c n =
        kept_at test (keys.Working t c) rows up
        ∙ none_pass test (keys.Working t c) (λ r k. ap (λ key. is_in (OpenedFiles (printed path)) key) k ∙ ap (λ b. b && true) n) rows
        ∙ sym (other_shown t c n all)

    at_key : (key : Key) → key_table key ≡ tables.Working → row_at key (filter test rows) ≡ row_at key (shown all)
    at_key (keys.Working t c) k = go (same (printed path) t) refl
      where
        go : (b : Bool) → same (printed path) t ≡ b → row_at (keys.Working t c) (filter test rows) ≡ row_at (keys.Working t c) (shown all)
        go true e =
            let P : List ℕ → Type 0 = λ x. row_at (keys.Working x c) (filter test rows) ≡ row_at (keys.Working x c) (shown all) in
            subst P (same-is (printed path) t e) (own_at c)
        go false e = other_at t c e
    at_key (keys.Counter name) k = absurd cc
    at_key (keys.Group a b) k = absurd cc
    at_key (keys.Protect n) k = absurd cc
    at_key (keys.Domain a b) k = absurd cc
    at_key (keys.Have a b) k = absurd cc
    at_key (keys.Label a b) k = absurd cc
    at_key (keys.Integed a b x y u v how change) k = absurd cc
    at_key (keys.Resolve a b x) k = absurd cc
    at_key (keys.Change n) k = absurd cc
    at_key (keys.Rev a n) k = absurd cc

    pub openings_listed : filter test rows ≡ map (working_record d) (openings d path)
    openings_listed =
        rows_alike tables.Working (filter test rows) (shown all) (kept_rise test rows up) (shown_rise all (keys_rise (opener_of path) d)) (kept_of test tables.Working rows of)
        (shown_of all) at_key
        ∙ ap (map (working_record d)) (sym (only_openers all))

pub openings_told : (version : TableRows) (rows : List Record) → version.rows ≡ rows → version.table ≡ tables.Working → AllOfTable version.table version.rows
    → IsRising version.rows → (d : List Deed) (path : List ℕ) → path_of (printed path) ≡ Ok path
    → ((key : Key) → key_table key ≡ tables.Working → unplaced_at rows key ≡ record_of d key)
    → filter (has_row (OpenedFiles (printed path))) rows ≡ map (working_record d) (openings d path)
openings_told version rows are is of up d path own has =
    let P : TableId → Type 0 = λ t. AllOfTable t rows in
    let Q : List Record → Type 0 = λ rs. AllOfTable version.table rs in
    let ours : AllOfTable tables.Working rows = subst P is (subst Q are of) in
    openings_listed d path own rows (subst IsRising are up) ours (λ key k. sym (unplaced_row tables.Working (λ e. cc) rows ours key) ∙ has key k)
