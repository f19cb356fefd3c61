-- The files that a pattern without wildcards fits, and that those of them that are of a list are all that a test keeps of it.
use Rattle.std.proofs.Common.{◌≡◌, ◌<◌, ℕ, zero, suc, Bool, true, false, List, [], ◌∷◌, ◌++◌, length, Option, Some, None, refl, sym, ap, subst, ◌∙◌, arith}
use Rattle.std.specs.Prelude.{◌&&◌, ◌||◌, ◌==◌, filter, if◌then◌else◌, is_some, option_and_then}
use Rattle.std.specs.List.{list_any, Contains, slice_index_or}
use Rattle.std.proofs.lemmas.Bool.{true≢false, false≢true}
use Rattle.std.proofs.lemmas.List.Folds.{list_any-append}
use Rattle.depot_rows.specs.depot_path.Bytes.{same}
use Rattle.depot_rows.specs.depot_path.Fit.{filled, fits, is_specifier, texts}
use Rattle.depot_rows.specs.depot_path.Path.{is_path}
use Rattle.depot_rows.specs.depot_path.declared.piece.Piece.{Piece}
use Rattle.depot_rows.specs.depot_path.declared.piece.Piece.TheVariants.{Byte, Star, Dots, Place}
use Rattle.depot_rows.specs.db_records.declared.record.Record.{Record}
use Rattle.depot_rows.specs.db_records.declared.table.TableId.{TableId}
use Rattle.depot_rows.specs.table_store.Rows.{AllOfTable, IsRising, TableRows, row_at}
use Rattle.depot_rows.specs.view_map.Carry.{carried, confirmed, made_of, same_texts}
use Rattle.depot_rows.specs.view_map.Mapping.{given_by, path_in, taken_by_some}
use Rattle.depot_rows.specs.view_map.Specifiers.{answering}
use Rattle.depot_rows.specs.view_map.declared.line.ViewLine.{ViewLine}
use Rattle.depot_rows.specs.depot_model.Arguments.{fits_at, in_client_syntax, is_in}
use Rattle.depot_rows.specs.depot_model.Sorted.{path_inserted}
use Rattle.depot_rows.proofs.Keys.{number-is, same-is, same-self}
use Rattle.depot_rows.proofs.view_map.Found.{is_given}
use Rattle.named_files.specs.Asked.{is_placed}
use Rattle.named_files.specs.Listed.{listed, listing_table, own_key}
use Rattle.named_files.specs.declared.asker.Asker.{Asker}
use Rattle.named_files.specs.declared.listing.Listing.{Listing}
use Rattle.depot_rows.proofs.Sorted.{filter_rises, insert_rises}
use Rattle.depot_rows.specs.Rising.{Rise}
use Rattle.named_files.proofs.Rising.{in_filter, in_inserted, one_list}
use Rattle.named_files.proofs.RowsListed.{each_row, in_listed, in_order, listed_rise}

-- ---- what a pattern without wildcards fits

pub spells : (pattern : List Piece) (text : List ℕ) → list_any is_specifier pattern ≡ false → fits pattern text ≡ true → text ≡ filled pattern []
spells [] [] plain e = refl
spells [] (x ∷ text) plain e = absurd (false≢true e)
spells (Byte b ∷ pattern) [] plain e = absurd (false≢true e)
spells (Byte b ∷ pattern) (x ∷ text) plain e = go (b == x) refl e (spells pattern text plain)
  where
    go : (s : Bool) → (b == x) ≡ s → is_some (if s then texts pattern text else None) ≡ true → (fits pattern text ≡ true → text ≡ filled pattern [])
        → x ∷ text ≡ b ∷ filled pattern []
    go true one h more = λ i. sym (number-is b x one) i ∷ more h i
    go false one h more = absurd (false≢true h)
spells (Star ∷ pattern) text plain e = absurd (true≢false plain)
spells (Dots ∷ pattern) text plain e = absurd (true≢false plain)
spells (Place k ∷ pattern) text plain e = absurd (true≢false plain)

-- ---- where a view puts a file is a path

made_is_path : (to : List Piece) (ts : List (List ℕ)) (made : List ℕ) → made_of to ts ≡ Some made → is_path made ≡ true
made_is_path to ts made e = go (is_path (filled to ts)) refl e
  where
    go : (b : Bool) → is_path (filled to ts) ≡ b → (if b then confirmed to (filled to ts) ts else None) ≡ Some made → is_path made ≡ true
    go false k h = absurd cc
    go true k h = at (same_texts (texts to (filled to ts)) ts) h
      where
        at : (s : Bool) → (if s then Some (filled to ts) else None) ≡ Some made → is_path made ≡ true
        at true l = let one : filled to ts ≡ made = cc in sym (ap is_path one) ∙ k
        at false l = absurd cc

carried_is_path : (from to : List Piece) (path made : List ℕ) → carried from to path ≡ Some made → is_path made ≡ true
carried_is_path from to path made e = go (texts from path) e
  where
    go : (o : Option (List (List ℕ))) → option_and_then (λ ts. made_of to (answering from to ts)) o ≡ Some made → is_path made ≡ true
    go None h = absurd cc
    go (Some ts) h = made_is_path to (answering from to ts) made h

place_is_path : (lines : List ViewLine) (file place : List ℕ) → path_in lines file ≡ Some place → is_path place ≡ true
place_is_path [] file place e = absurd cc
place_is_path (line ∷ later) file place e = go (taken_by_some later file) e (place_is_path later file place)
  where
    go : (b : Bool) → (if b then path_in later file else given_by line later file) ≡ Some place → (path_in later file ≡ Some place → is_path place ≡ true)
        → is_path place ≡ true
    go true h more = more h
    go false h more = carried_is_path line.depot line.client file place (is_given line later file place h).there

-- the place at which a pattern without wildcards fits
pub spelled_place : (pattern : List Piece) (lines : List ViewLine) (file : List ℕ) → list_any is_specifier pattern ≡ false
    → fits_at pattern (path_in lines file) ≡ true → (path_in lines file ≡ Some (filled pattern [])) × (is_path (filled pattern []) ≡ true)
spelled_place pattern lines file plain e = go (path_in lines file) refl e
  where
    go : (o : Option (List ℕ)) → path_in lines file ≡ o → fits_at pattern o ≡ true
        → (path_in lines file ≡ Some (filled pattern [])) × (is_path (filled pattern []) ≡ true)
    go None k h = absurd (false≢true h)
    go (Some place) k h =
        let one : place ≡ filled pattern [] = spells pattern place plain h in
        (k ∙ ap (λ (p : List ℕ). Some p) one, sym (ap is_path one) ∙ place_is_path lines file place k)

-- where such a pattern is placed
module _ (asker : Asker) (pattern : List Piece) (file : List ℕ) (plain : list_any is_specifier pattern ≡ false) (placed : is_placed asker pattern file ≡ true) where
  by_syntax : (b : Bool) → in_client_syntax asker.client pattern ≡ b → (if b then fits_at pattern (path_in asker.view file) else fits pattern file) ≡ true
  by_syntax b e = ap (λ x. if x then fits_at pattern (path_in asker.view file) else fits pattern file) (sym e) ∙ placed

  pub in_view : in_client_syntax asker.client pattern ≡ true → (path_in asker.view file ≡ Some (filled pattern [])) × (is_path (filled pattern []) ≡ true)
  in_view e = spelled_place pattern asker.view file plain (by_syntax true e)

  pub by_itself : in_client_syntax asker.client pattern ≡ false → file ≡ filled pattern []
  by_itself e = spells pattern file plain (by_syntax false e)

  -- so the pattern spells a path
  pub spells_path : is_path file ≡ true → is_path (filled pattern []) ≡ true
  spells_path is = go (in_client_syntax asker.client pattern) refl
    where
      go : (b : Bool) → in_client_syntax asker.client pattern ≡ b → is_path (filled pattern []) ≡ true
      go true e = (in_view e).1
      go false e = ap is_path (sym (by_itself e)) ∙ is

-- what a list contains is in it
pub contains_in : (files : List (List ℕ)) (file : List ℕ) → Contains files file → is_in files file ≡ true
contains_in [] file has = absurd (omega (arith, has.1))
contains_in (x ∷ files) file has = go has.0 has.1 has.2 (contains_in files file)
  where
    later : (b c : Bool) → c ≡ true → (b || c) ≡ true
    later true c e = refl
    later false c e = e

    go : (k : ℕ) → k < length (x ∷ files) → slice_index_or (x ∷ files) k file ≡ file → (Contains files file → is_in files file ≡ true)
        → (same file x || is_in files file) ≡ true
    go zero low e more = ap (λ b. b || is_in files file) (ap (same file) e ∙ same-self file)
    go (suc k) low e more = later (same file x) (is_in files file) (more (k, omega arith, e))

pub in_itself : (file : List ℕ) → is_in (file ∷ []) file ≡ true
in_itself file = ap (λ b. b || false) (same-self file)

-- ---- those of some files that a list has

and_swapped : (a b c : Bool) → (b ≡ true → a ≡ true) → ((a && c) && b) ≡ (c && b)
and_swapped a true c h = ap (λ x. (x && c) && true) (h refl)
and_swapped a false c h = none (a && c) c
  where
    none : (x y : Bool) → (x && false) ≡ (y && false)
    none true true = refl
    none true false = refl
    none false true = refl
    none false false = refl

-- where they have all that a test keeps, it keeps the same of them as of the list
pub kept_same : (test : List ℕ → Bool) (files found all : List (List ℕ)) → Rise found → Rise all
    → ((file : List ℕ) → is_path file ≡ true → is_in found file ≡ (is_in files file && is_in all file)) → ((file : List ℕ) → is_path file ≡ true → test file ≡ true → is_in files file ≡ true)
    → filter test found ≡ filter test all
kept_same test files found all up rises exactly every =
    one_list (filter test found) (filter test all) (filter_rises test found up) (filter_rises test all rises) (λ file is.
    in_filter file test found ∙ ap (λ b. b && test file) (exactly file is) ∙ and_swapped (is_in files file) (test file) (is_in all file) (every file is)
    ∙ sym (in_filter file test all))

-- ---- the files of a list, and whether a row lists a file

module _ (listing : Listing) (version : TableRows) (rows : List Record) (are : version.rows ≡ rows) (is : version.table ≡ listing_table listing)
    (of : AllOfTable version.table version.rows) where
  own_rows : AllOfTable (listing_table listing) version.rows
  own_rows = let P : TableId → Type 0 = λ t. AllOfTable t version.rows in subst P is of

  pub listed_rows_rise : IsRising version.rows → Rise (listed listing rows)
  listed_rows_rise up =
      subst (λ (rs : List Record). Rise (listed listing rs)) are (listed_rise listing (own_key listing) (each_row listing) (in_order listing) version.rows up own_rows)

  pub row_found : (file : List ℕ) → is_path file ≡ true → is_some (row_at (own_key listing file) version.rows) ≡ is_in (listed listing rows) file
  row_found file path =
      sym (in_listed listing (own_key listing) (each_row listing) (in_order listing) file path version.rows own_rows)
      ∙ ap (λ (rs : List Record). is_in (listed listing rs) file) are

-- ---- one file more is looked up

pub rises_on : (has : Bool) (file : List ℕ) (taken now : List (List ℕ)) → is_path file ≡ true → Rise taken → now ≡ (if has then path_inserted file taken else taken) → Rise now
rises_on true file taken now is rise e = subst Rise (sym e) (insert_rises file taken is rise)
rises_on false file taken now is rise e = subst Rise (sym e) rise

module _ (has : List ℕ → Bool) where
  -- what of the files is found, or still to be looked up
  abbrev pub known : List (List ℕ) → List (List ℕ) → List ℕ → Bool
  known taken rest q = is_in taken q || (is_in rest q && has q)

  -- the last of some more files, which the list has or hasn't
  moved : (s t r a : Bool) → (s ≡ true → a ≡ true) → ((s || t) || (r && a)) ≡ (t || ((r || (s || false)) && a))
  moved true true r a h = refl
  moved true false true a h = sym (h refl)
  moved true false false a h = sym (h refl)
  moved false true r a h = refl
  moved false false true a h = refl
  moved false false false a h = refl

  passed : (s t r a : Bool) → (s ≡ true → a ≡ false) → (t || (r && a)) ≡ (t || ((r || (s || false)) && a))
  passed s true r a h = refl
  passed s false true a h = refl
  passed true false false a h = sym (h refl)
  passed false false false a h = refl

  last_split : (rest : List (List ℕ)) (file q : List ℕ) → is_in (rest ++ file ∷ []) q ≡ (is_in rest q || (same q file || false))
  last_split rest file q = list_any-append (same q) rest (file ∷ [])

  pub looked_on : (b : Bool) (file : List ℕ) (rest before taken now : List (List ℕ)) → has file ≡ b → before ≡ rest ++ file ∷ []
      → now ≡ (if b then path_inserted file taken else taken) → (q : List ℕ) → known now rest q ≡ known taken before q
  looked_on true file rest before taken now k was e q =
      (λ i. is_in (e i) q || (is_in rest q && has q))
      ∙ ap (λ b. b || (is_in rest q && has q)) (in_inserted q file taken)
      ∙ moved (same q file) (is_in taken q) (is_in rest q) (has q) (λ h. ap has (same-is q file h) ∙ k)
      ∙ ap (λ b. is_in taken q || (b && has q)) (sym (last_split rest file q) ∙ ap (λ (fs : List (List ℕ)). is_in fs q) (sym was))
  looked_on false file rest before taken now k was e q =
      (λ i. is_in (e i) q || (is_in rest q && has q))
      ∙ passed (same q file) (is_in taken q) (is_in rest q) (has q) (λ h. ap has (same-is q file h) ∙ k)
      ∙ ap (λ b. is_in taken q || (b && has q)) (sym (last_split rest file q) ∙ ap (λ (fs : List (List ℕ)). is_in fs q) (sym was))

  or_false : (b : Bool) → b ≡ (b || false)
  or_false true = refl
  or_false false = refl

  pub none_left : (found rest files : List (List ℕ)) (q : List ℕ) → rest ≡ [] → known found rest q ≡ known [] files q → is_in found q ≡ (is_in files q && has q)
  none_left found rest files q none e = or_false (is_in found q) ∙ ap (λ (fs : List (List ℕ)). known found fs q) (sym none) ∙ e
