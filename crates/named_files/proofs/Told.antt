-- The files of a list that a depot has, and that its rows list them.
use Rattle.std.proofs.Common.{◌≡◌, ℕ, Bool, true, false, List, [], ◌∷◌, ◌++◌, map, Option, Some, None, refl, sym, ap, subst, ◌∙◌}
use Rattle.std.specs.Prelude.{◌&&◌, ◌||◌, ◌==◌, not, filter, flat_map, if◌then◌else◌, is_some, option_map, unwrap_or, slice_get}
use Rattle.std.specs.List.{list_all, list_any}
use Rattle.std.specs.Option.{option_or, option_flatten}
use Rattle.std.proofs.lemmas.Bool.{false≢true, and_parts, or_right}
use Rattle.depot_rows.specs.depot_path.Bytes.{same}
use Rattle.depot_rows.specs.depot_path.Path.{printed, is_path}
use Rattle.depot_rows.specs.db_records.Key.{key_table}
use Rattle.depot_rows.specs.db_records.declared.key.Key.{Key}
use Rattle.depot_rows.specs.db_records.declared.record.Record.{Record}
use Rattle.depot_rows.specs.db_records.declared.record.Record.TheVariants as records
use Rattle.depot_rows.specs.db_records.declared.table.TableId.{TableId}
use Rattle.depot_rows.specs.table_store.Rows.{row_at, AllOfTable, IsRising, TableRows}
use Rattle.depot_rows.specs.depot_model.Arguments.{paths_of, got_paths, open_paths, landed_paths, had, opened_by, submitted}
use Rattle.depot_rows.specs.depot_model.Deeds.{Deed, Got, Open, Shut, Land, Held, Opening, Landing, Entry, Credit}
use Rattle.depot_rows.specs.depot_model.Latest.{have, have_said, is_held, latest, when}
use Rattle.depot_rows.specs.depot_model.Opened.{opened, opening_said}
use Rattle.depot_rows.specs.depot_model.Records.{record_of, unplaced, numbered_record, working_record, rev_record}
use Rattle.depot_rows.specs.depot_model.Revisions.{Revision, revision, revisions, entries_at}
use Rattle.depot_rows.specs.depot_model.Rules.{IsSound, has_paths, entry_paths, path_or_none}
use Rattle.depot_rows.specs.depot_model.Sorted.{all_inserted, path_inserted}
use Rattle.depot_rows.specs.Standing.{unplaced_at}
use Rattle.depot_rows.proofs.Keys.{same-is, same-self}
use Rattle.depot_rows.proofs.Spelled.{at_path-here}
use Rattle.named_files.specs.Listed.{files_of, listed, listing_table}
use Rattle.named_files.specs.declared.listing.Listing.{Listing}
use Rattle.named_files.specs.declared.listing.Listing.TheVariants.{Had, OpenedBy, Submitted}
use Rattle.named_files.proofs.RowsListed.{own_key, each_row, in_listed, in_order, listed_rise, same_turned}
use Rattle.depot_rows.proofs.Sorted.{filter_rises}
use Rattle.depot_rows.specs.Rising.{Rise}
use Rattle.named_files.proofs.Rising.{in_all_inserted, in_filter, in_inserted, one_list, told_rise}

-- a file that is told of is among the paths
absorbed : (a b : Bool) → (b ≡ true → a ≡ true) → (a && b) ≡ b
absorbed a true h = ap (λ x. x && true) (h refl)
absorbed true false h = refl
absorbed false false h = refl

-- ---- have lists

module _ (client p : List ℕ) where
  had_here : (held : Held) (rev : ℕ) (d : List Deed) (b c : Bool) → same held.client client ≡ b → same held.path p ≡ c
      → not (unwrap_or (option_or (when (b && c) rev) (latest (have_said client p) d)) 0 == 0) ≡ true
      → (not (have d client p == 0) ≡ true → list_any (same p) (paths_of (got_paths client) d) ≡ true)
      → list_any (same p) (all_inserted (if b then held.path ∷ [] else []) (paths_of (got_paths client) d)) ≡ true
  had_here held rev d true true e k some more =
      let here : same p held.path ≡ true = ap (same p) (same-is held.path p k) ∙ same-self p in
      in_inserted p held.path (paths_of (got_paths client) d) ∙ ap (λ b. b || list_any (same p) (paths_of (got_paths client) d)) here
  had_here held rev d true false e k some more =
      in_inserted p held.path (paths_of (got_paths client) d) ∙ or_right (same p held.path) (list_any (same p) (paths_of (got_paths client) d)) (more some)
  had_here held rev d false c e k some more = more some

  had_told : (d : List Deed) → not (have d client p == 0) ≡ true → list_any (same p) (paths_of (got_paths client) d) ≡ true
  had_told [] some = absurd (false≢true some)
  had_told (Got held rev ∷ d) some = had_here held rev d (same held.client client) (same held.path p) refl refl some (had_told d)
  had_told (_ ∷ d) some = had_told d some

  in_had : (d : List Deed) → list_any (same p) (had d client) ≡ not (have d client p == 0)
  in_had d =
      in_filter p (λ path. not (have d client path == 0)) (paths_of (got_paths client) d)
      ∙ absorbed (list_any (same p) (paths_of (got_paths client) d)) (not (have d client p == 0)) (had_told d)

-- ---- opened files

module _ (client p : List ℕ) where
  open_here : (o : Opening) (d : List Deed) (b c : Bool) → same o.client client ≡ b → same o.path p ≡ c
      → is_some (option_flatten (option_or (when (b && c) (Some o)) (latest (opening_said client p) d))) ≡ true
      → (is_some (opened d client p) ≡ true → list_any (same p) (paths_of open_paths d) ≡ true)
      → list_any (same p) (path_inserted o.path (paths_of open_paths d)) ≡ true
  open_here o d b true e k some more =
      let here : same p o.path ≡ true = ap (same p) (same-is o.path p k) ∙ same-self p in
      in_inserted p o.path (paths_of open_paths d) ∙ ap (λ x. x || list_any (same p) (paths_of open_paths d)) here
  open_here o d true false e k some more =
      in_inserted p o.path (paths_of open_paths d) ∙ or_right (same p o.path) (list_any (same p) (paths_of open_paths d)) (more some)
  open_here o d false false e k some more =
      in_inserted p o.path (paths_of open_paths d) ∙ or_right (same p o.path) (list_any (same p) (paths_of open_paths d)) (more some)

  shut_here : (d : List Deed) (b : Bool) → is_some (option_flatten (option_or (when b (let none : Option Opening = None in none)) (latest (opening_said client p) d))) ≡ true
      → is_some (opened d client p) ≡ true
  shut_here d true some = absurd (false≢true some)
  shut_here d false some = some

  pub open_told : (d : List Deed) → is_some (opened d client p) ≡ true → list_any (same p) (paths_of open_paths d) ≡ true
  open_told [] some = absurd (false≢true some)
  open_told (Open o ∷ d) some = open_here o d (same o.client client) (same o.path p) refl refl some (open_told d)
  open_told (Shut held ∷ d) some = open_told d (shut_here d (is_held client p held) some)
  open_told (_ ∷ d) some = open_told d some

  in_opened : (d : List Deed) → list_any (same p) (opened_by d client) ≡ is_some (opened d client p)
  in_opened d =
      in_filter p (λ path. is_some (opened d client path)) (paths_of open_paths d)
      ∙ absorbed (list_any (same p) (paths_of open_paths d)) (is_some (opened d client p)) (open_told d)

-- ---- submitted files

module _ (p : List ℕ) where
  first_of : {A : Type 0} (xs ys : List A) → is_some (slice_get (xs ++ ys) 0) ≡ (is_some (slice_get ys 0) || is_some (slice_get xs 0))
  first_of [] ys = right (is_some (slice_get ys 0))
    where
      right : (b : Bool) → b ≡ (b || false)
      right true = refl
      right false = refl
  first_of (x ∷ xs) ys = right (is_some (slice_get ys 0))
    where
      right : (b : Bool) → true ≡ (b || true)
      right true = refl
      right false = refl

  abbrev entry_path : Entry → List ℕ
  entry_path e = e.path

  landed_here : (l : Landing) (entries : List Entry)
      → list_any (same p) (map entry_path entries) ≡ is_some (slice_get (map (λ (e : Entry). let r : Revision = record { landing = l; entry = e } in r) (filter (λ (e : Entry). same e.path p) entries)) 0)
  landed_here l [] = refl
  landed_here l (e ∷ entries) =
      ap (λ b. b || list_any (same p) (map entry_path entries)) (same_turned p e.path) ∙ go (same e.path p) (landed_here l entries)
    where
      made : Entry → Revision
      made x = record { landing = l; entry = x }

      go : (b : Bool) → list_any (same p) (map entry_path entries) ≡ is_some (slice_get (map (λ (x : Entry). let r : Revision = record { landing = l; entry = x } in r) (filter (λ (x : Entry). same x.path p) entries)) 0)
          → (b || list_any (same p) (map entry_path entries))
          ≡ is_some (slice_get (map (λ (x : Entry). let r : Revision = record { landing = l; entry = x } in r) (if b then e ∷ filter (λ (x : Entry). same x.path p) entries else filter (λ (x : Entry). same x.path p) entries)) 0)
      go true more = refl
      go false more = more

  pub in_submitted : (d : List Deed) → list_any (same p) (submitted d) ≡ is_some (slice_get (revisions d p) 0)
  in_submitted [] = refl
  in_submitted (Land l ∷ d) =
      in_all_inserted p (map entry_path l.entries) (submitted d)
      ∙ (λ i. landed_here l l.entries i || in_submitted d i) ∙ sym (first_of (revisions d p) (entries_at p l))
  in_submitted (_ ∷ d) = in_submitted d

-- ---- they rise

got_are_paths : (client : List ℕ) (deed : Deed) → has_paths deed ≡ true → list_all is_path (got_paths client deed) ≡ true
got_are_paths client (Got held rev) all = go (same held.client client)
  where
    go : (b : Bool) → list_all is_path (if b then held.path ∷ [] else []) ≡ true
    go true = all
    go false = refl
got_are_paths client _ all = refl

pub open_are_paths : (deed : Deed) → has_paths deed ≡ true → list_all is_path (open_paths deed) ≡ true
open_are_paths (Open o) all = ap (λ b. b && true) (and_parts (is_path o.path) _ all).0
open_are_paths _ all = refl

entries_are_paths : (entries : List Entry) → list_all is_path (flat_map entry_paths entries) ≡ true → list_all is_path (map (λ (e : Entry). e.path) entries) ≡ true
entries_are_paths [] all = refl
entries_are_paths (e ∷ entries) all =
    λ i. (and_parts (is_path e.path) _ all).0 i && entries_are_paths entries (behind (path_or_none e.moved ++ map (λ (c : Credit). c.from) e.credits) (flat_map entry_paths entries) (and_parts (is_path e.path) _ all).1) i
  where
    behind : (xs ys : List (List ℕ)) → list_all is_path (xs ++ ys) ≡ true → list_all is_path ys ≡ true
    behind [] ys h = h
    behind (x ∷ xs) ys h = behind xs ys (and_parts (is_path x) (list_all is_path (xs ++ ys)) h).1

landed_are_paths : (deed : Deed) → has_paths deed ≡ true → list_all is_path (landed_paths deed) ≡ true
landed_are_paths (Land l) all = entries_are_paths l.entries all
landed_are_paths _ all = refl

pub files_rise : (listing : Listing) (d : List Deed) → IsSound d → Rise (files_of listing d)
files_rise (Had client) d sound =
    filter_rises (λ path. not (have d client path == 0)) (paths_of (got_paths client) d) (told_rise (got_paths client) (got_are_paths client) d sound.paths)
files_rise (OpenedBy client) d sound =
    filter_rises (λ path. is_some (opened d client path)) (paths_of open_paths d) (told_rise open_paths open_are_paths d sound.paths)
files_rise Submitted d sound = told_rise landed_paths landed_are_paths d sound.paths

-- ---- their rows

mapped_some : {A B : Type 0} (f : A → B) (o : Option A) → is_some (option_map f o) ≡ is_some o
mapped_some f None = refl
mapped_some f (Some x) = refl

numbered_some : (made : ℕ → Record) (n : ℕ) → is_some (numbered_record made n) ≡ not (n == 0)
numbered_some made n = go (n == 0)
  where
    go : (b : Bool) → is_some (if b then None else Some (made n)) ≡ not b
    go true = refl
    go false = refl

has_row : (listing : Listing) (d : List Deed) (p : List ℕ) → is_path p ≡ true → is_some (record_of d (own_key listing p)) ≡ list_any (same p) (files_of listing d)
has_row (Had client) d p is =
    ap (λ (o : Option Record). is_some o) (at_path-here p (λ path. numbered_record (λ rev. records.Have (record { client = client; path = printed p; rev = rev })) (have d client path)) is)
    ∙ numbered_some (λ rev. records.Have (record { client = client; path = printed p; rev = rev })) (have d client p) ∙ sym (in_had client p d)
has_row (OpenedBy client) d p is =
    ap (λ (o : Option Record). is_some o) (at_path-here p (λ path. option_map (working_record d) (opened d client path)) is)
    ∙ mapped_some (working_record d) (opened d client p) ∙ sym (in_opened client p d)
has_row Submitted d p is =
    ap (λ (o : Option Record). is_some o) (at_path-here p (λ path. option_map (rev_record 1) (revision d path 1)) is)
    ∙ mapped_some (rev_record 1) (revision d p 1) ∙ sym (in_submitted p d)

key_of_table : (listing : Listing) (p : List ℕ) → key_table (own_key listing p) ≡ listing_table listing
key_of_table (Had client) p = refl
key_of_table (OpenedBy client) p = refl
key_of_table Submitted p = refl

rows_tell : (listing : Listing) (rows : List Record) → IsRising rows → AllOfTable (listing_table listing) rows → (d : List Deed) → IsSound d
    → ((key : Key) → key_table key ≡ listing_table listing → unplaced_at rows key ≡ record_of d key) → listed listing rows ≡ files_of listing d
rows_tell listing rows up of d sound has =
    one_list (listed listing rows) (files_of listing d) (listed_rise listing (own_key listing) (each_row listing) (in_order listing) rows up of) (files_rise listing d sound)
    (λ p is.
    in_listed listing (own_key listing) (each_row listing) (in_order listing) p is rows of
    ∙ sym (mapped_some unplaced (row_at (own_key listing p) rows)) ∙ ap (λ (o : Option Record). is_some o) (has (own_key listing p) (key_of_table listing p))
    ∙ has_row listing d p is)

pub files_told : (listing : Listing) (version : TableRows) (rows : List Record) → version.rows ≡ rows → version.table ≡ listing_table listing
    → AllOfTable version.table version.rows → IsRising version.rows → (d : List Deed) → IsSound d
    → ((key : Key) → key_table key ≡ listing_table listing → unplaced_at rows key ≡ record_of d key) → listed listing rows ≡ files_of listing d
files_told listing version rows are is of up d sound has =
    let P : TableId → Type 0 = λ t. AllOfTable t rows in
    let Q : List Record → Type 0 = λ rs. AllOfTable version.table rs in
    rows_tell listing rows (subst IsRising are up) (subst P is (subst Q are of)) d sound has
