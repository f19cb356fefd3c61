-- The openings of a client in a change, as its rows tell them.
use Rattle.std.proofs.Common.{◌≡◌, ℕ, Bool, true, false, List, [], ◌∷◌, ◌++◌, map, Option, Some, None, Result, Ok, Err, inl, inr, refl, sym, ap, subst, ◌∙◌}
use Rattle.std.specs.Prelude.{◌==◌, filter, flat_map, if◌then◌else◌, is_some, option_map}
use Rattle.std.specs.List.{cons_option, filter_map, list_all}
use Rattle.std.specs.Ordering.{nat_cmp, ordering_then, ordering_reverse}
use Rattle.std.specs.declared.cmp.Ordering.{Ordering}
use Rattle.std.specs.declared.cmp.Ordering.TheVariants.{Less, Equal, Greater}
use Rattle.std.specs.Cmp.Lexicographic.{slice_cmp}
use Rattle.std.proofs.lemmas.List.{map-append}
use Rattle.std.proofs.lemmas.Bool.{and_parts}
use Rattle.depot_rows.specs.depot_path.Bytes.{same}
use Rattle.depot_rows.specs.depot_path.Order.{path_cmp}
use Rattle.depot_rows.specs.depot_path.Path.{path_of, printed, is_path}
use Rattle.depot_rows.specs.depot_path.declared.fault.PathFault.{PathFault}
use Rattle.depot_rows.specs.db_records.Key.{key_cmp, key_table}
use Rattle.depot_rows.specs.db_records.Record.{key_of}
use Rattle.depot_rows.specs.db_records.declared.key.Key.{Key}
use Rattle.depot_rows.specs.db_records.declared.key.Key.TheVariants as keys
use Rattle.depot_rows.specs.db_records.declared.record.Record.{Record}
use Rattle.depot_rows.specs.db_records.declared.record.Record.TheVariants as records
use Rattle.depot_rows.specs.db_records.declared.rows.WorkingRecord.{WorkingRecord}
use Rattle.depot_rows.specs.db_records.declared.table.TableId.{TableId}
use Rattle.depot_rows.specs.db_records.declared.table.TableId.TheVariants as tables
use Rattle.depot_rows.specs.table_store.Marks.{is_of_client}
use Rattle.depot_rows.specs.table_store.Rows.{AllAbove, AllOfTable, IsRising, TableRows}
use Rattle.depot_rows.specs.depot_model.Arguments.{opened_by, open_paths, paths_of}
use Rattle.depot_rows.specs.depot_model.Deeds.{Deed, Open, Opening}
use Rattle.depot_rows.specs.depot_model.Opened.{opened}
use Rattle.depot_rows.specs.depot_model.Records.{record_of, working_record}
use Rattle.depot_rows.specs.depot_model.Rules.{IsSound, has_paths}
use Rattle.depot_rows.specs.depot_model.declared.request.Caller.{Caller}
use Rattle.depot_rows.specs.Deed.{opening_of}
use Rattle.depot_rows.specs.Standing.{unplaced_at}
use Rattle.depot_rows.proofs.Entries.{In}
use Rattle.depot_rows.proofs.Keys.{same-is, same-self}
use Rattle.depot_rows.proofs.Locks.{opened-is}
use Rattle.depot_rows.proofs.Sorted.{insert_rises, path_order}
use Rattle.depot_rows.specs.Rising.{Below, Rise}
use Rattle.depot_rows.proofs.Spelled.{at_path-here}
use Rattle.depot_facts.proofs.Listed.{in_filter, in_map, in_filter_map, map_in}
use Rattle.depot_facts.proofs.OpenFiles.{in_openings, opened_path}
use Rattle.opening_reads.specs.InChange.{is_in, opened_in, opening_at, opening_of_row}
use Rattle.opening_reads.specs.Read.{opening_in_row, path_in_text}
use Rattle.opening_reads.proofs.Opens.{path_is, row_opens}
use Rattle.opening_reads.proofs.ToldRows.{IsTold, rows_told}

-- the paths that were opened rise
paths_rise : (d : List Deed) → list_all has_paths d ≡ true → Rise (paths_of open_paths d)
paths_rise [] all = tt
paths_rise (Open o ∷ d) all =
    insert_rises o.path (paths_of open_paths d) (and_parts (is_path o.path) _ (and_parts (has_paths (Open o)) (list_all has_paths d) all).0).0
    (paths_rise d (and_parts (has_paths (Open o)) (list_all has_paths d) all).1)
paths_rise (deed ∷ d) all = paths_rise d (and_parts (has_paths deed) (list_all has_paths d) all).1

module _ (d : List Deed) (sound : IsSound d) (client : List ℕ) where
  abbrev has : List ℕ → Bool
  has p = is_some (opened d client p)

  abbrev openings : List (List ℕ) → List Opening
  openings ps = filter_map (opened d client) (filter has ps)

  abbrev rows_at : List (List ℕ) → List Record
  rows_at ps = map (working_record d) (openings ps)

  abbrev key_for : List ℕ → Key
  key_for p = keys.Working (printed p) client

  key_is : (p : List ℕ) (o : Opening) → opened d client p ≡ Some o → key_of (working_record d o) ≡ key_for p
  key_is p o e = let is = opened-is d client p o e in λ i. keys.Working (printed (is.1 i)) (is.0 i)

  -- ---- they rise

  above : (p q : List ℕ) → path_cmp p q ≡ Less → key_cmp (key_for q) (key_for p) ≡ Greater
  above p q less =
      ap (λ (o : Ordering). ordering_then o (ordering_then (slice_cmp nat_cmp client client) Equal)) (path_order.antisymm q p ∙ ap ordering_reverse less)

  -- what a file adds, where the client has it opened
  with_first : (p : List ℕ) (ps : List (List ℕ)) (P : List Record → Type 0) → P (rows_at ps)
      → ((o : Opening) → opened d client p ≡ Some o → P (working_record d o ∷ rows_at ps)) → P (rows_at (p ∷ ps))
  with_first p ps P without with = go (opened d client p) refl
    where
      go : (o : Option Opening) → opened d client p ≡ o → P (map (working_record d) (filter_map (opened d client) (if is_some o then p ∷ filter has ps else filter has ps)))
      go None e = without
      go (Some o) e = subst (λ (x : Option Opening). P (map (working_record d) (cons_option x (openings ps)))) (sym e) (with o e)

  rows_above : (p : List ℕ) (ps : List (List ℕ)) → Below p ps → AllAbove (key_for p) (rows_at ps)
  rows_above p [] below = tt
  rows_above p (q ∷ ps) below =
      let rest = rows_above p ps below.1 in
      with_first q ps (AllAbove (key_for p)) rest (λ o e. (ap (λ (k : Key). key_cmp k (key_for p)) (key_is q o e) ∙ above p q below.0, rest))

  rows_rise : (ps : List (List ℕ)) → Rise ps → IsRising (rows_at ps)
  rows_rise [] rise = tt
  rows_rise (p ∷ ps) rise =
      let rest = rows_rise ps rise.2 in
      with_first p ps IsRising rest (λ o e. (subst (λ (k : Key). AllAbove k (rows_at ps)) (sym (key_is p o e)) (rows_above p ps rise.1), rest))

  -- ---- each is told, and there is no other

  abbrev own_openings : List Opening
  own_openings = filter_map (opened d client) (opened_by d client)

  opened_among : (p : List ℕ) (o : Opening) → opened d client p ≡ Some o → In own_openings o
  opened_among p o e =
      let caller : Caller = record { user = []; client = client; host = [] } in
      (in_filter (is_in o.change) own_openings o (in_openings d caller o.change p o e refl)).0

  own_opening : (o : Opening) → In own_openings o → opened d client o.path ≡ Some o
  own_opening o h =
      let f = in_filter_map (opened d client) (opened_by d client) o h in
      ap (opened d client) (opened-is d client f.0 o f.1.1).1 ∙ f.1.1

  is_told : (row : Record) → In (map (working_record d) own_openings) row → IsTold tables.Working (is_of_client client) d row
  is_told row h =
      let f = in_map (working_record d) own_openings row h in
      let o = f.0 in
      subst (λ (r : Record). IsTold tables.Working (is_of_client client) d r) f.1.1 (told o (own_opening o f.1.0))
    where
      told : (o : Opening) → opened d client o.path ≡ Some o → IsTold tables.Working (is_of_client client) d (working_record d o)
      told o e =
          let name : o.client ≡ client = (opened-is d client o.path o e).0 in
          record {
            table = refl;
            passes = ap (λ (c : List ℕ). same c client) name ∙ same-self client;
            stands = ap (λ (c : List ℕ). record_of d (keys.Working (printed o.path) c)) name
                ∙ at_path-here o.path (λ p. option_map (working_record d) (opened d client p)) (opened_path d sound.paths client o.path o e)
                ∙ ap (option_map (working_record d)) e;
          }

  is_among : (row : Record) → IsTold tables.Working (is_of_client client) d row → In (map (working_record d) own_openings) row
  is_among (records.Working r) is = go (path_of r.path) is.stands
    where
      found : (o : Option Opening) (p : List ℕ) → opened d client p ≡ o → option_map (working_record d) o ≡ Some (records.Working r)
          → In (map (working_record d) own_openings) (records.Working r)
      found None p e g = absurd cc
      found (Some o) p e g =
          let one : working_record d o ≡ records.Working r = cc in
          subst (λ (row : Record). In (map (working_record d) own_openings) row) one (map_in (working_record d) own_openings o (opened_among p o e))

      name : r.client ≡ client
      name = same-is r.client client is.passes

      test : (p : List ℕ) (b : Bool) → (if b then option_map (working_record d) (opened d r.client p) else None) ≡ Some (records.Working r)
          → In (map (working_record d) own_openings) (records.Working r)
      test p true g = found (opened d client p) p refl (ap (λ (c : List ℕ). option_map (working_record d) (opened d c p)) (sym name) ∙ g)
      test p false g = absurd cc

      go : (read : Result (List ℕ) PathFault)
          → (elim read as (λ _. Option Record) [ Err fault ↦ None | Ok p ↦ if same (printed p) r.path then option_map (working_record d) (opened d r.client p) else None ]) ≡ Some (records.Working r)
          → In (map (working_record d) own_openings) (records.Working r)
      go (Err fault) g = absurd cc
      go (Ok p) g = test p (same (printed p) r.path) g
  is_among (records.Counter r) is = absurd (let e = is.table in cc)
  is_among (records.Group r) is = absurd (let e = is.table in cc)
  is_among (records.Protect r) is = absurd (let e = is.table in cc)
  is_among (records.Domain r) is = absurd (let e = is.table in cc)
  is_among (records.Have r) is = absurd (let e = is.table in cc)
  is_among (records.Label r) is = absurd (let e = is.table in cc)
  is_among (records.Integed r) is = absurd (let e = is.table in cc)
  is_among (records.Resolve r) is = absurd (let e = is.table in cc)
  is_among (records.Change r) is = absurd (let e = is.table in cc)
  is_among (records.Rev r) is = absurd (let e = is.table in cc)

  -- ---- those of a change

  module _ (n : ℕ) where
    row_tells : (o : Opening) → opened d client o.path ≡ Some o → (r : WorkingRecord) → records.Working r ≡ working_record d o
        → map opening_of (opening_of_row client n (records.Working r)) ≡ filter (is_in n) (o ∷ [])
    row_tells o e r is =
        let path : r.path ≡ printed o.path = cc in
        let change : r.change ≡ o.change = cc in
        ap (λ (read : Option (List ℕ)). map opening_of (if r.change == n then opening_at client r read else []))
        (ap path_in_text path ∙ path_is o.path (opened_path d sound.paths client o.path o e))
        ∙ ap (λ (m : ℕ). map opening_of (if m == n then opening_in_row client o.path r None None ∷ [] else [])) change
        ∙ go (o.change == n)
      where
        go : (b : Bool) → map opening_of (if b then opening_in_row client o.path r None None ∷ [] else []) ≡ (if b then o ∷ [] else [])
        go true = ap (λ (x : Opening). x ∷ []) (row_opens d client o.path o r None None sound e is)
        go false = refl

    rows_tell : (os : List Opening) → ((o : Opening) → In os o → opened d client o.path ≡ Some o)
        → map opening_of (flat_map (opening_of_row client n) (map (working_record d) os)) ≡ filter (is_in n) os
    rows_tell [] each = refl
    rows_tell (o ∷ os) each =
        map-append opening_of (opening_of_row client n (working_record d o)) (flat_map (opening_of_row client n) (map (working_record d) os))
        ∙ (λ i. row_tells o (each o (inl refl)) _ refl i ++ rows_tell os (λ x h. each x (inr h)) i)
        ∙ go (o.change == n)
      where
        go : (b : Bool) → (if b then o ∷ [] else []) ++ filter (is_in n) os ≡ (if b then o ∷ filter (is_in n) os else filter (is_in n) os)
        go true = refl
        go false = refl

    pub openings_told : (version : TableRows) (rows : List Record) → version.rows ≡ rows → version.table ≡ tables.Working → AllOfTable version.table version.rows
        → IsRising version.rows → ((key : Key) → key_table key ≡ tables.Working → unplaced_at rows key ≡ record_of d key)
        → map opening_of (flat_map (opening_of_row client n) (filter (is_of_client client) rows)) ≡ opened_in d client n
    openings_told version rows are is of up has_rows =
        let P : TableId → Type 0 = λ t. AllOfTable t rows in
        let Q : List Record → Type 0 = λ rs. AllOfTable version.table rs in
        ap (λ (rs : List Record). map opening_of (flat_map (opening_of_row client n) rs))
        (rows_told tables.Working (is_of_client client) d rows (map (working_record d) own_openings) (λ e. cc) (subst IsRising are up)
        (subst P is (subst Q are of)) has_rows (rows_rise (paths_of open_paths d) (paths_rise d sound.paths)) is_told is_among)
        ∙ rows_tell own_openings own_opening
