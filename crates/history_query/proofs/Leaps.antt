-- A walk over files that leaps behind a directory, once it is told or doesn't fit, tells all directories that fit.
use Rattle.std.proofs.Common.{◌≡◌, ℕ, suc, ◌<◌, ◌≤◌, Bool, true, false, List, [], ◌∷◌, ◌++◌, Option, Some, None, Result, Ok, Err, refl, sym, ap, subst, ◌∙◌, append_assoc, append-nil, arith}
use Rattle.std.specs.Prelude.{◌==◌, ◌&&◌, drop, filter, flat_map, if◌then◌else◌, length, not, option_map, take}
use Rattle.std.specs.Cmp.{IsTotalOrder}
use Rattle.std.specs.Option.{option_to_list}
use Rattle.std.specs.Ordering.{is_eq, is_lt, match_ordering, nat_cmp, ordering_reverse, ordering_then}
use Rattle.std.specs.declared.cmp.Ordering.{Ordering}
use Rattle.std.specs.declared.cmp.Ordering.TheVariants.{Less, Equal, Greater}
use Rattle.std.proofs.lemmas.Bool.{false≢true, true≢false}
use Rattle.std.proofs.lemmas.Bool.Decides.{Decides-eqb, nat_tests}
use Rattle.std.proofs.lemmas.Cmp.{nat_list_cmp_total}
use Rattle.std.proofs.lemmas.Grind.{flat_map-append}
use Rattle.std.proofs.lemmas.List.{take-append-drop}
use Rattle.std.proofs.lemmas.List.Elements.{filter-append}
use Rattle.depot_rows.specs.depot_path.Bytes.{begins_with, same}
use Rattle.depot_rows.specs.depot_path.Fit.{fits}
use Rattle.depot_rows.specs.depot_path.Order.{path_cmp}
use Rattle.depot_rows.specs.depot_path.OrderLaws.{paths_ties}
use Rattle.depot_rows.specs.depot_path.Path.{escaped, is_path, path_of, printed}
use Rattle.depot_rows.specs.depot_path.Pattern.{literal}
use Rattle.depot_rows.specs.depot_path.declared.fault.PathFault.{PathFault}
use Rattle.depot_rows.specs.depot_path.declared.piece.Piece.{Piece}
use Rattle.depot_rows.specs.depot_path.declared.revision.Wanted.TheVariants.{Head}
use Rattle.depot_rows.specs.db_records.declared.key.Key.{Key}
use Rattle.depot_rows.specs.db_records.declared.key.Key.TheVariants as keys
use Rattle.depot_rows.specs.db_records.declared.record.Record.{Record}
use Rattle.depot_rows.specs.db_records.declared.record.Record.TheVariants as records
use Rattle.depot_rows.specs.db_records.declared.rows.RevRecord.{RevRecord}
use Rattle.depot_rows.specs.table_store.Rows.{is_below, rows_from}
use Rattle.depot_rows.specs.view_map.Mapping.{path_in}
use Rattle.depot_rows.specs.depot_model.declared.request.Caller.{Caller}
use Rattle.depot_rows.specs.depot_model.Arguments.{in_client_syntax}
use Rattle.depot_rows.specs.depot_model.Asking.{may_list}
use Rattle.depot_rows.specs.depot_model.Choice.{shown}
use Rattle.depot_rows.specs.depot_model.Deeds.{Deed}
use Rattle.depot_rows.specs.depot_model.Revisions.{is_live_head}
use Rattle.depot_rows.specs.depot_model.Steps.History.{directories}
use Rattle.depot_rows.proofs.Keys.{same-is}
use Rattle.named_files.specs.Asked.{IsAsker, begins_at}
use Rattle.named_files.specs.Listed.{has_beginning, listed, listed_text, path_in_text, paths_in}
use Rattle.named_files.specs.declared.asker.Asker.{Asker}
use Rattle.named_files.specs.declared.listing.Listing.TheVariants.{Submitted}
use Rattle.depot_rows.specs.Rising.{Below, Rise}
use Rattle.depot_rows.proofs.Sorted.{filter_rises}
use Rattle.named_files.proofs.Walking.{number_is, starts, text_cmp, text_is, text_self}
use Rattle.history_query.specs.Directories.{all_fitting, directories_of, text_inserted}
use Rattle.history_query.specs.Leaping.{IsDepth, behind_directory, behind_file, directory_at, files_from, first_begun, front_before, next_text, texts_at, texts_put}
use Rattle.history_query.proofs.Above.{begun_alone, directories_are, two_slashes, whole}
use Rattle.history_query.proofs.Depths.{alike_cmp, behind_all, between, front_is, front_printed, one_fits, put_if}
use Rattle.history_query.proofs.Fitting.{fitting_on}

order : IsTotalOrder text_cmp
order = nat_list_cmp_total

-- ---- texts in their order

-- what is before a text is before another one that isn't before it
before_later : (a b c : List ℕ) → is_lt (text_cmp a b) ≡ false → text_cmp a c ≡ Less → text_cmp b c ≡ Less
before_later a b c late e = go (text_cmp a b) refl late
  where
    go : (o : Ordering) → text_cmp a b ≡ o → is_lt o ≡ false → text_cmp b c ≡ Less
    go Less f h = absurd (true≢false h)
    go Equal f h = ap (λ t. text_cmp t c) (sym (text_is a b f)) ∙ e
    go Greater f h = order.trans b a c (order.antisymm b a ∙ ap ordering_reverse f) e

less_is : (o : Ordering) → is_lt o ≡ true → o ≡ Less
less_is Less e = refl
less_is Equal e = absurd (false≢true e)
less_is Greater e = absurd (false≢true e)

-- what isn't before a text, which isn't before another one, isn't before that one
late_on : (a b c : List ℕ) → is_lt (text_cmp a b) ≡ false → is_lt (text_cmp b c) ≡ false → is_lt (text_cmp a c) ≡ false
late_on a b c late later = go (is_lt (text_cmp a c)) refl
  where
    go : (t : Bool) → is_lt (text_cmp a c) ≡ t → t ≡ false
    go true e = absurd (true≢false (sym (ap is_lt (before_later a b c late (less_is (text_cmp a c) e))) ∙ later))
    go false e = refl

after_is : (a b : List ℕ) → text_cmp a b ≡ Less → is_lt (text_cmp b a) ≡ false
after_is a b e = ap is_lt (order.antisymm b a ∙ ap ordering_reverse e)

-- a text isn't before one with which it begins
not_before : (q b : List ℕ) → begins_with q b ≡ true → is_lt (text_cmp q b) ≡ false
not_before [] [] e = refl
not_before (x ∷ q) [] e = refl
not_before [] (c ∷ b) e = absurd (false≢true e)
not_before (x ∷ q) (c ∷ b) e =
    let h = starts x c b q e in
    (λ i. is_lt (text_cmp (x ∷ q) (h.0 i ∷ b))) ∙ ap is_lt (alike_cmp (x ∷ []) q b) ∙ not_before q b h.1

-- what is between a text and one that begins with it begins so too
middle : (y b q : List ℕ) → begins_with q b ≡ true → is_lt (text_cmp y b) ≡ false → text_cmp y q ≡ Less → begins_with y b ≡ true
middle [] [] q e low high = refl
middle (z ∷ y) [] q e low high = refl
middle y (c ∷ b) [] e low high = absurd (false≢true e)
middle [] (c ∷ b) (x ∷ q) e low high = absurd (true≢false low)
middle (z ∷ y) (c ∷ b) (x ∷ q) e low high =
    let h = starts x c b q e in
    go (nat_cmp z c) refl low ((λ i. ordering_then (nat_cmp z (h.0 i)) (text_cmp y q)) ∙ high) (middle y b q h.1)
  where
    go : (o : Ordering) → nat_cmp z c ≡ o → is_lt (ordering_then o (text_cmp y b)) ≡ false → ordering_then o (text_cmp y q) ≡ Less
        → (is_lt (text_cmp y b) ≡ false → text_cmp y q ≡ Less → begins_with y b ≡ true) → begins_with (z ∷ y) (c ∷ b) ≡ true
    go Less k l f more = absurd (true≢false l)
    go Equal k l f more = λ i. (Decides-eqb c z).1 (sym (number_is z c k)) i && more l f i
    go Greater k l f more = absurd cc

-- texts whose printed forms are one are one
printed_one : (a b : List ℕ) → printed a ≡ printed b → a ≡ b
printed_one a b e = same-is a b (paths_ties a b ∙ ap is_eq (ap (λ t. text_cmp t (printed b)) e ∙ text_self (printed b)))

-- ---- sets

put_on : (a b texts : List (List ℕ)) → texts_put (a ++ b) texts ≡ texts_put a (texts_put b texts)
put_on [] b texts = refl
put_on (t ∷ a) b texts = ap (text_inserted t) (put_on a b texts)

pub put_more : (a b texts others : List (List ℕ)) → texts_put b texts ≡ others → texts_put (a ++ b) texts ≡ texts_put a others
put_more a b texts others e = put_on a b texts ∙ ap (texts_put a) e

-- a text that is there isn't put again
put_again : (t : List ℕ) (texts : List (List ℕ)) → text_inserted t (text_inserted t texts) ≡ text_inserted t texts
put_again t [] = ap (λ (o : Ordering). match_ordering o (t ∷ t ∷ []) (t ∷ []) (t ∷ text_inserted t [])) (text_self t)
put_again t (x ∷ texts) = go (text_cmp t x) refl (put_again t texts)
  where
    go : (o : Ordering) → text_cmp t x ≡ o → text_inserted t (text_inserted t texts) ≡ text_inserted t texts
        → text_inserted t (match_ordering o (t ∷ x ∷ texts) (x ∷ texts) (x ∷ text_inserted t texts)) ≡ match_ordering o (t ∷ x ∷ texts) (x ∷ texts) (x ∷ text_inserted t texts)
    go Less e more = ap (λ (o : Ordering). match_ordering o (t ∷ t ∷ x ∷ texts) (t ∷ x ∷ texts) (t ∷ text_inserted t (x ∷ texts))) (text_self t)
    go Equal e more = ap (λ (o : Ordering). match_ordering o (t ∷ x ∷ texts) (x ∷ texts) (x ∷ text_inserted t texts)) e
    go Greater e more = ap (λ (o : Ordering). match_ordering o (t ∷ x ∷ text_inserted t texts) (x ∷ text_inserted t texts) (x ∷ text_inserted t (text_inserted t texts))) e ∙ ap (λ (l : List (List ℕ)). x ∷ l) more

-- ---- the files of the rows from a text on

none_below : (n : ℕ) → nat_cmp n 0 ≡ Less → ⊥
none_below n e = grind (arith, nat_tests)

module _ (from : List ℕ) where
  abbrev is_from : List ℕ → Bool
  is_from path = not (is_lt (text_cmp (printed path) from))

  abbrev key : Key
  key = keys.Rev from 0

  empty : (b : Bool) → (let none : List (List ℕ) = [] in none) ≡ (if b then [] else [])
  empty true = refl
  empty false = refl

  text_from : (text : List ℕ) → filter is_from (path_in_text text) ≡ (if not (is_lt (text_cmp text from)) then path_in_text text else [])
  text_from text = go (path_of text)
    where
      go : (read : Result (List ℕ) PathFault) → filter is_from (elim read [ Err fault ↦ [] | Ok path ↦ if same (printed path) text then path ∷ [] else [] ])
          ≡ (if not (is_lt (text_cmp text from)) then (elim read [ Err fault ↦ [] | Ok path ↦ if same (printed path) text then path ∷ [] else [] ]) else [])
      go (Err fault) = empty (not (is_lt (text_cmp text from)))
      go (Ok path) = at (same (printed path) text) refl
        where
          at : (s : Bool) → same (printed path) text ≡ s → filter is_from (if s then path ∷ [] else []) ≡ (if not (is_lt (text_cmp text from)) then (if s then path ∷ [] else []) else [])
          at true e = ap (λ (t : List ℕ). if not (is_lt (text_cmp t from)) then path ∷ [] else []) (same-is (printed path) text e)
          at false e = empty (not (is_lt (text_cmp text from)))

  row_below : (r : RevRecord) → is_below key (records.Rev r) ≡ is_lt (text_cmp r.path from)
  row_below r = go (text_cmp r.path from) (nat_cmp r.rev 0) refl
    where
      go : (o p : Ordering) → nat_cmp r.rev 0 ≡ p → is_lt (ordering_then o (ordering_then p Equal)) ≡ is_lt o
      go Less p e = refl
      go Equal Less e = absurd (none_below r.rev e)
      go Equal Equal e = refl
      go Equal Greater e = refl
      go Greater p e = refl

  row_from : (row : Record) → filter is_from (paths_in (listed_text Submitted row)) ≡ (if not (is_below key row) then paths_in (listed_text Submitted row) else [])
  row_from (records.Rev r) =
      go (r.rev == 1) ∙ ap (λ (b : Bool). if not b then paths_in (if r.rev == 1 then Some r.path else None) else []) (sym (row_below r))
    where
      go : (first : Bool) → filter is_from (paths_in (if first then Some r.path else None)) ≡ (if not (is_lt (text_cmp r.path from)) then paths_in (if first then Some r.path else None) else [])
      go true = text_from r.path
      go false = empty (not (is_lt (text_cmp r.path from)))
  row_from (records.Counter r) = empty (not (is_below key (records.Counter r)))
  row_from (records.Group r) = empty (not (is_below key (records.Group r)))
  row_from (records.Protect r) = empty (not (is_below key (records.Protect r)))
  row_from (records.Domain r) = empty (not (is_below key (records.Domain r)))
  row_from (records.Have r) = empty (not (is_below key (records.Have r)))
  row_from (records.Label r) = empty (not (is_below key (records.Label r)))
  row_from (records.Integed r) = empty (not (is_below key (records.Integed r)))
  row_from (records.Resolve r) = empty (not (is_below key (records.Resolve r)))
  row_from (records.Working r) = empty (not (is_below key (records.Working r)))
  row_from (records.Change r) = empty (not (is_below key (records.Change r)))

  pub rows_list_from : (rows : List Record) → listed Submitted (rows_from key rows) ≡ files_from from (listed Submitted rows)
  rows_list_from [] = refl
  rows_list_from (row ∷ rows) =
      go (not (is_below key row)) (row_from row) (rows_list_from rows) ∙ sym (filter-append is_from (paths_in (listed_text Submitted row)) (listed Submitted rows))
    where
      go : (b : Bool) → filter is_from (paths_in (listed_text Submitted row)) ≡ (if b then paths_in (listed_text Submitted row) else [])
          → listed Submitted (rows_from key rows) ≡ files_from from (listed Submitted rows)
          → listed Submitted (if b then row ∷ rows_from key rows else rows_from key rows) ≡ filter is_from (paths_in (listed_text Submitted row)) ++ files_from from (listed Submitted rows)
      go true here more = λ i. sym here i ++ more i
      go false here more = more ∙ (λ i. sym here i ++ files_from from (listed Submitted rows))

-- ---- the first of them

abbrev pub IsFirst : List (List ℕ) → List ℕ → Type 0
IsFirst files path = (more : List (List ℕ)) × (files ≡ path ∷ more)

pub first_is : (beginning : List ℕ) (files : List (List ℕ)) (path : List ℕ) → first_begun beginning files ≡ Some path → IsFirst files path
first_is beginning [] path e = absurd cc
first_is beginning (p ∷ files) path e = go (has_beginning beginning p) e
  where
    go : (b : Bool) → (if b then Some p else None) ≡ Some path → IsFirst (p ∷ files) path
    go true h = let one : p ≡ path = cc in (files, ap (λ (q : List ℕ). q ∷ files) one)
    go false h = absurd cc

-- what is from a text on is from an earlier one on
from_again : (t next : List ℕ) → ((q : List ℕ) → text_cmp q t ≡ Less → text_cmp q next ≡ Less) → (files : List (List ℕ)) → files_from next files ≡ files_from next (files_from t files)
from_again t next before [] = refl
from_again t next before (q ∷ files) = go (text_cmp (printed q) t) refl (from_again t next before files)
  where
    rest : List (List ℕ)
    rest = files_from t files

    kept : (b : Bool) → files_from next files ≡ files_from next rest → (if b then q ∷ files_from next files else files_from next files) ≡ (if b then q ∷ files_from next rest else files_from next rest)
    kept true more = ap (λ (l : List (List ℕ)). q ∷ l) more
    kept false more = more

    go : (o : Ordering) → text_cmp (printed q) t ≡ o → files_from next files ≡ files_from next rest
        → files_from next (q ∷ files) ≡ files_from next (if not (is_lt o) then q ∷ rest else rest)
    go Less e more = ap (λ (o : Ordering). if not (is_lt o) then q ∷ files_from next files else files_from next files) (before (printed q) e) ∙ more
    go Equal e more = kept (not (is_lt (text_cmp (printed q) next))) more
    go Greater e more = kept (not (is_lt (text_cmp (printed q) next))) more

-- the first of them is from the text on
first_late : (t : List ℕ) (files : List (List ℕ)) (p : List ℕ) (more : List (List ℕ)) → files_from t files ≡ p ∷ more → is_lt (text_cmp (printed p) t) ≡ false
first_late t [] p more e = absurd cc
first_late t (q ∷ files) p more e = go (is_lt (text_cmp (printed q) t)) refl e (first_late t files p more)
  where
    go : (b : Bool) → is_lt (text_cmp (printed q) t) ≡ b → (if not b then q ∷ files_from t files else files_from t files) ≡ p ∷ more
        → (files_from t files ≡ p ∷ more → is_lt (text_cmp (printed p) t) ≡ false) → is_lt (text_cmp (printed p) t) ≡ false
    go true f h next = next h
    go false f h next = let one : q ≡ p = cc in ap (λ (x : List ℕ). is_lt (text_cmp (printed x) t)) (sym one) ∙ f

few : (t : List ℕ) (files : List (List ℕ)) → length (files_from t files) ≤ length files
few t [] = omega arith
few t (q ∷ files) = go (not (is_lt (text_cmp (printed q) t))) (few t files)
  where
    go : (b : Bool) → length (files_from t files) ≤ length files → length (if b then q ∷ files_from t files else files_from t files) ≤ suc (length files)
    go true h = omega (arith, h)
    go false h = omega (arith, h)

module _ (t next : List ℕ) (files : List (List ℕ)) (p : List ℕ) (more : List (List ℕ)) (are : files_from t files ≡ p ∷ more) (later : text_cmp (printed p) next ≡ Less) where
  -- behind a later text are those behind the first that are behind that text
  behind_first : files_from next files ≡ files_from next more
  behind_first =
      from_again t next (λ q e. order.trans q (printed p) next (early q e) later) files
      ∙ ap (files_from next) are
      ∙ ap (λ (o : Ordering). if not (is_lt o) then p ∷ files_from next more else files_from next more) later
    where
      early : (q : List ℕ) → text_cmp q t ≡ Less → text_cmp q (printed p) ≡ Less
      early q e = go (text_cmp (printed p) t) refl (first_late t files p more are)
        where
          go : (o : Ordering) → text_cmp (printed p) t ≡ o → is_lt o ≡ false → text_cmp q (printed p) ≡ Less
          go Less f h = absurd (true≢false h)
          go Equal f h = ap (λ x. text_cmp q x) (text_is (printed p) t f) ∙ e
          go Greater f h = order.trans q t (printed p) e (order.antisymm t (printed p) ∙ ap ordering_reverse f)

  pub fewer : length (files_from next files) < length (files_from t files)
  fewer = subst (λ (n : ℕ). n < length (files_from t files)) (sym (ap length behind_first)) (subst (λ (n : ℕ). length (files_from next more) < n) (sym (ap length are)) (short (few next more)))
    where
      short : length (files_from next more) ≤ length more → length (files_from next more) < suc (length more)
      short h = omega (arith, h)

-- ---- what files tell

-- where the walk goes on is behind the file
pub goes_later : (depth : ℕ) (path directory : List ℕ) → directory_at depth path ≡ Some directory → text_cmp (printed path) (behind_directory directory) ≡ Less
goes_later depth path directory e = go (front_before depth (drop 2 path)) refl e
  where
    go : (o : Option (List ℕ)) → front_before depth (drop 2 path) ≡ o → option_map (λ front. take 2 path ++ front) o ≡ Some directory → text_cmp (printed path) (behind_directory directory) ≡ Less
    go None f h = absurd cc
    go (Some front) f h =
        let is : take 2 path ++ front ≡ directory = cc in
        let parts = front_is depth (drop 2 path) front f in
        let text : printed path ≡ printed directory ++ 0x2F ∷ printed parts.rest =
        ap printed (sym (take-append-drop 2 path) ∙ ap (λ (t : List ℕ). take 2 path ++ t) parts.whole ∙ sym (append_assoc (take 2 path) front (0x2F ∷ parts.rest)) ∙ ap (λ (t : List ℕ). t ++ 0x2F ∷ parts.rest) is)
        ∙ flat_map-append escaped directory (0x2F ∷ parts.rest) in
        ap (λ t. text_cmp t (behind_directory directory)) text ∙ alike_cmp (printed directory) (0x2F ∷ printed parts.rest) (0x30 ∷ [])

pub goes_past : (path : List ℕ) → text_cmp (printed path) (behind_file path) ≡ Less
goes_past path = ap (λ t. text_cmp t (behind_file path)) (sym (append-nil (printed path))) ∙ alike_cmp (printed path) [] (0 ∷ [])

-- where the walk goes on behind a file with such a directory, and what is told of it
pub next_at : (pattern : List Piece) (depth : ℕ) (path directory : List ℕ) → directory_at depth path ≡ Some directory → (f b seen : Bool) → fits pattern directory ≡ f → seen ≡ b
    → next_text pattern depth seen path ≡ (if f && not b then behind_file path else behind_directory directory)
next_at pattern depth path directory e f b seen fit is =
    ap (λ (o : Option (List ℕ)). elim o as (λ _. List ℕ) [ None ↦ behind_file path | Some x ↦ if fits pattern x && not seen then behind_file path else behind_directory x ]) e
    ∙ (λ i. if fit i && not (is i) then behind_file path else behind_directory directory)

pub texts_told : (pattern : List Piece) (depth : ℕ) (path directory : List ℕ) → directory_at depth path ≡ Some directory → (f b seen : Bool) → fits pattern directory ≡ f → seen ≡ b
    → texts_at pattern depth seen path ≡ (if f && b then printed directory ∷ [] else [])
texts_told pattern depth path directory e f b seen fit is =
    ap (λ (o : Option (List ℕ)). elim o as (λ _. List (List ℕ)) [ None ↦ [] | Some x ↦ if fits pattern x && seen then printed x ∷ [] else [] ]) e
    ∙ (λ i. if fit i && is i then printed directory ∷ [] else [])

-- a file behind another one and before what is behind its directory has that directory
same_directory : (depth : ℕ) (p q directory : List ℕ) → is_path p ≡ true → is_path q ≡ true → directory_at depth p ≡ Some directory → path_cmp p q ≡ Less
    → text_cmp (printed q) (behind_directory directory) ≡ Less → directory_at depth q ≡ Some directory
same_directory depth p q directory one other e low high = go (front_before depth (drop 2 p)) refl e
  where
    at : (front : List ℕ) → take 2 p ++ front ≡ directory → (o : Option (List ℕ)) → front_before depth (drop 2 q) ≡ o → option_map printed o ≡ Some (printed front)
        → option_map (λ f. take 2 q ++ f) o ≡ Some directory
    at front is None f h = absurd cc
    at front is (Some found) f h =
        let text : printed found ≡ printed front = cc in
        ap Some ((λ i. two_slashes q other i ++ printed_one found front text i) ∙ ap (λ (t : List ℕ). t ++ front) (sym (two_slashes p one)) ∙ is)

    go : (o : Option (List ℕ)) → front_before depth (drop 2 p) ≡ o → option_map (λ f. take 2 p ++ f) o ≡ Some directory → directory_at depth q ≡ Some directory
    go None f h = absurd cc
    go (Some front) f h =
        let is : take 2 p ++ front ≡ directory = cc in
        let parts = front_is depth (printed (drop 2 p)) (printed front) (front_printed depth (drop 2 p) ∙ ap (option_map printed) f) in
        let text : printed p ≡ 0x2F ∷ 0x2F ∷ printed front ++ 0x2F ∷ parts.rest = ap printed (sym (whole p one)) ∙ ap (λ (t : List ℕ). 0x2F ∷ 0x2F ∷ t) parts.whole in
        let front_text : printed directory ≡ 0x2F ∷ 0x2F ∷ printed front = ap printed (sym is ∙ ap (λ (t : List ℕ). t ++ front) (two_slashes p one)) in
        let found = between (0x2F ∷ 0x2F ∷ printed front) parts.rest (printed q) (ap (λ t. text_cmp t (printed q)) (sym text) ∙ low)
        (ap (λ (t : List ℕ). text_cmp (printed q) (t ++ 0x30 ∷ [])) (sym front_text) ∙ high) in
        let rest : printed (drop 2 q) ≡ printed front ++ 0x2F ∷ found.0 = ap (drop 2) (ap printed (whole q other) ∙ found.1) in
        at front is (front_before depth (drop 2 q)) refl (sym (front_printed depth (drop 2 q)) ∙ ap (front_before depth) rest ∙ parts.again found.0)

module _ (d : List Deed) (caller : Caller) (pattern : List Piece) (depth : ℕ) (is_depth : IsDepth pattern depth) (plain : in_client_syntax caller.client pattern ≡ false) where
  abbrev told : List ℕ → List (List ℕ)
  told path = directories_of d caller pattern path

  abbrev all_told : List (List ℕ) → List (List ℕ)
  all_told files = all_fitting pattern (flat_map (directories_of d caller pattern) files) []

  abbrev seen : List ℕ → Bool
  seen path = may_list d caller path && is_live_head d path

  abbrev put_at : Option (List ℕ) → List (List ℕ) → List (List ℕ)
  put_at directory set = put_if pattern (suc (suc depth)) is_depth directory set

  -- a file that is seen tells of its directory alone
  one_told : (path : List ℕ) → is_path path ≡ true → (set : List (List ℕ)) → all_fitting pattern (told path) set ≡ (if seen path then put_at (directory_at depth path) set else set)
  one_told path is set = go (seen path)
    where
      go : (b : Bool) → all_fitting pattern (flat_map directories (option_to_list (if b then (if in_client_syntax caller.client pattern then shown d caller Head path else Some path) else None))) set
          ≡ (if b then put_at (directory_at depth path) set else set)
      go true =
          ap (λ (c : Bool). all_fitting pattern (flat_map directories (option_to_list (if c then shown d caller Head path else Some path))) set) plain
          ∙ ap (λ (ds : List (List ℕ)). all_fitting pattern ds set) (append-nil (directories path) ∙ directories_are path)
          ∙ one_fits pattern (suc (suc depth)) is_depth depth (0x2F ∷ 0x2F ∷ []) (drop 2 path) set (omega arith)
          ∙ ap (λ (t : List ℕ). put_at (option_map (λ f. t ++ f) (front_before depth (drop 2 path))) set) (sym (two_slashes path is))
      go false = refl

  -- it is that of the walk
  told_at : (path : List ℕ) → is_path path ≡ true → (set : List (List ℕ)) → all_fitting pattern (told path) set ≡ texts_put (texts_at pattern depth (seen path) path) set
  told_at path is set = one_told path is set ∙ go (directory_at depth path) (seen path)
    where
      at : (directory : List ℕ) (f b : Bool) → (if b then (if f then text_inserted (printed directory) set else set) else set) ≡ texts_put (if f && b then printed directory ∷ [] else []) set
      at directory true true = refl
      at directory true false = refl
      at directory false true = refl
      at directory false false = refl

      none : (b : Bool) → (if b then set else set) ≡ set
      none true = refl
      none false = refl

      go : (o : Option (List ℕ)) (b : Bool) → (if b then put_at o set else set) ≡ texts_put (elim o [ None ↦ [] | Some directory ↦ if fits pattern directory && b then printed directory ∷ [] else [] ]) set
      go None b = none b
      go (Some directory) b = at directory (fits pattern directory) b

  -- what files tell behind a file, up to where the walk goes on, is told with it
  nothing_new : (p q : List ℕ) → is_path p ≡ true → is_path q ≡ true → path_cmp p q ≡ Less → text_cmp (printed q) (next_text pattern depth (seen p) p) ≡ Less → (set : List (List ℕ))
      → texts_put (texts_at pattern depth (seen p) p) (all_fitting pattern (told q) set) ≡ texts_put (texts_at pattern depth (seen p) p) set
  nothing_new p q one other low high set = go (directory_at depth p) refl high
    where
      past : text_cmp (printed q) (behind_file p) ≡ Less → ⊥
      past e = absurd (true≢false (sym (ap is_lt e) ∙ behind_all (printed p) (printed q) low))

      at : (directory : List ℕ) → directory_at depth p ≡ Some directory → (f b : Bool) → fits pattern directory ≡ f
          → text_cmp (printed q) (if f && not b then behind_file p else behind_directory directory) ≡ Less
          → texts_put (if f && b then printed directory ∷ [] else []) (all_fitting pattern (told q) set) ≡ texts_put (if f && b then printed directory ∷ [] else []) set
      at directory e true false f h = absurd (past h)
      at directory e true true f h = ap (text_inserted (printed directory)) (here directory e h) ∙ onward (seen q)
        where
          onward : (b : Bool) → text_inserted (printed directory) (if b then (if fits pattern directory then text_inserted (printed directory) set else set) else set) ≡ text_inserted (printed directory) set
          onward true = ap (λ (c : Bool). text_inserted (printed directory) (if c then text_inserted (printed directory) set else set)) f ∙ put_again (printed directory) set
          onward false = refl

          here : (directory : List ℕ) → directory_at depth p ≡ Some directory → text_cmp (printed q) (behind_directory directory) ≡ Less
              → all_fitting pattern (told q) set ≡ (if seen q then (if fits pattern directory then text_inserted (printed directory) set else set) else set)
          here directory e h = one_told q other set ∙ ap (λ (o : Option (List ℕ)). if seen q then put_at o set else set) (same_directory depth p q directory one other e low h)
      at directory e false b f h = one_told q other set ∙ ap (λ (o : Option (List ℕ)). if seen q then put_at o set else set) (same_directory depth p q directory one other e low h) ∙ onward (seen q)
        where
          onward : (b : Bool) → (if b then (if fits pattern directory then text_inserted (printed directory) set else set) else set) ≡ set
          onward true = ap (λ (c : Bool). if c then text_inserted (printed directory) set else set) f
          onward false = refl

      go : (o : Option (List ℕ)) → directory_at depth p ≡ o
          → text_cmp (printed q) (elim o [ None ↦ behind_file p | Some directory ↦ if fits pattern directory && not (seen p) then behind_file p else behind_directory directory ]) ≡ Less
          → texts_put (elim o [ None ↦ [] | Some directory ↦ if fits pattern directory && seen p then printed directory ∷ [] else [] ]) (all_fitting pattern (told q) set)
          ≡ texts_put (elim o [ None ↦ [] | Some directory ↦ if fits pattern directory && seen p then printed directory ∷ [] else [] ]) set
      go None e h = absurd (past h)
      go (Some directory) e h = at directory e (fits pattern directory) (seen p) refl h

  -- files that aren't before a text are from it on
  all_from : (next q : List ℕ) (files : List (List ℕ)) → is_lt (text_cmp (printed q) next) ≡ false → Below q files → files_from next files ≡ files
  all_from next q [] late below = refl
  all_from next q (r ∷ files) late below =
      ap (λ (b : Bool). if not b then r ∷ files_from next files else files_from next files) (late_on (printed r) (printed q) next (after_is (printed q) (printed r) below.0) late)
      ∙ ap (λ (l : List (List ℕ)). r ∷ l) (all_from next q files late below.1)

  -- files that tell nothing new are passed over
  module _ (texts : List (List ℕ)) (p next : List ℕ)
      (nothing : (q : List ℕ) → is_path q ≡ true → path_cmp p q ≡ Less → text_cmp (printed q) next ≡ Less → (set : List (List ℕ)) → texts_put texts (all_fitting pattern (told q) set) ≡ texts_put texts set) where
    passed : (files : List (List ℕ)) → Below p files → Rise files → texts_put texts (all_told files) ≡ texts_put texts (all_told (files_from next files))
    passed [] below rise = refl
    passed (q ∷ files) below rise = go (text_cmp (printed q) next) refl (passed files below.1 rise.2)
      where
        kept : (o : Ordering) → is_lt o ≡ false → text_cmp (printed q) next ≡ o → texts_put texts (all_told (q ∷ files)) ≡ texts_put texts (all_told (if not (is_lt o) then q ∷ files_from next files else files_from next files))
        kept o late e =
            ap (λ (l : List (List ℕ)). texts_put texts (all_told (q ∷ l))) (sym (all_from next q files (ap is_lt e ∙ late) rise.1))
            ∙ ap (λ (b : Bool). texts_put texts (all_told (if not b then q ∷ files_from next files else files_from next files))) (sym late)

        go : (o : Ordering) → text_cmp (printed q) next ≡ o → texts_put texts (all_told files) ≡ texts_put texts (all_told (files_from next files))
            → texts_put texts (all_told (q ∷ files)) ≡ texts_put texts (all_told (if not (is_lt o) then q ∷ files_from next files else files_from next files))
        go Less e more =
            ap (texts_put texts) (fitting_on pattern (told q) (flat_map (directories_of d caller pattern) files) [])
            ∙ nothing q rise.0 below.0 e (all_told files) ∙ more
        go Equal e more = kept Equal refl e
        go Greater e more = kept Greater refl e

  -- one leap
  pub leap_tells : (files : List (List ℕ)) → Rise files → (t p next : List ℕ) → IsFirst (files_from t files) p → next ≡ next_text pattern depth (seen p) p → text_cmp (printed p) next ≡ Less
      → texts_put (texts_at pattern depth (seen p) p) (all_told (files_from next files)) ≡ all_told (files_from t files)
  leap_tells files rise t p next first is later =
      let more = first.0 in
      let rest : Rise (p ∷ more) = subst Rise first.1 (filter_rises (λ path. not (is_lt (text_cmp (printed path) t))) files rise) in
      let ts = texts_at pattern depth (seen p) p in
      ap (λ (l : List (List ℕ)). texts_put ts (all_told l)) (behind_first t next files p more first.1 later)
      ∙ sym (passed ts p next (λ q other low high set. nothing_new p q rest.0 other low (ap (λ (x : List ℕ). text_cmp (printed q) x) (sym is) ∙ high) set) more rest.1 rest.2)
      ∙ sym (told_at p rest.0 (all_told more))
      ∙ sym (fitting_on pattern (told p) (flat_map (directories_of d caller pattern) more) [])
      ∙ ap all_told (sym first.1)

  -- ---- where the walk begins and ends

  module _ (asker : Asker) (asked : IsAsker d caller asker) where
    abbrev start : List ℕ
    start = printed (literal pattern)

    not_begun : (q : List ℕ) → is_path q ≡ true → begins_with (printed q) start ≡ false → (set : List (List ℕ)) → all_fitting pattern (told q) set ≡ set
    not_begun q is e set =
        begun_alone d caller asker asked pattern q is set
        ∙ ap (λ (b : Bool). all_fitting pattern (if b then told q else []) set)
        ((λ i. if in_client_syntax (asked.client i) pattern then begins_at start (path_in asker.view q) else begins_with (printed q) start)
        ∙ ap (λ (c : Bool). if c then begins_at start (path_in asker.view q) else begins_with (printed q) start) plain ∙ e)

    not_early : (q : List ℕ) → text_cmp (printed q) start ≡ Less → begins_with (printed q) start ≡ false
    not_early q e = go (begins_with (printed q) start) refl
      where
        go : (b : Bool) → begins_with (printed q) start ≡ b → b ≡ false
        go true f = absurd (true≢false (sym (ap is_lt e) ∙ not_before (printed q) start f))
        go false f = refl

    pub walk_starts : (files : List (List ℕ)) → Rise files → all_told (files_from start files) ≡ all_told files
    walk_starts [] rise = refl
    walk_starts (q ∷ files) rise = go (text_cmp (printed q) start) refl (walk_starts files rise.2)
      where
        kept : all_told (files_from start files) ≡ all_told files → all_told (q ∷ files_from start files) ≡ all_told (q ∷ files)
        kept more =
            fitting_on pattern (told q) (flat_map (directories_of d caller pattern) (files_from start files)) []
            ∙ ap (all_fitting pattern (told q)) more ∙ sym (fitting_on pattern (told q) (flat_map (directories_of d caller pattern) files) [])

        go : (o : Ordering) → text_cmp (printed q) start ≡ o → all_told (files_from start files) ≡ all_told files
            → all_told (if not (is_lt o) then q ∷ files_from start files else files_from start files) ≡ all_told (q ∷ files)
        go Less e more = more ∙ sym (fitting_on pattern (told q) (flat_map (directories_of d caller pattern) files) [] ∙ not_begun q rise.0 (not_early q e) (all_told files))
        go Equal e more = kept more
        go Greater e more = kept more

    none_behind : (p : List ℕ) → begins_with (printed p) start ≡ false → is_lt (text_cmp (printed p) start) ≡ false → (files : List (List ℕ)) → Below p files → Rise files → all_told files ≡ []
    none_behind p apart late [] below rise = refl
    none_behind p apart late (q ∷ files) below rise =
        fitting_on pattern (told q) (flat_map (directories_of d caller pattern) files) []
        ∙ not_begun q rise.0 (go (begins_with (printed q) start) refl) (all_told files) ∙ none_behind p apart late files below.1 rise.2
      where
        go : (b : Bool) → begins_with (printed q) start ≡ b → b ≡ false
        go true e = absurd (true≢false (sym (middle (printed p) start (printed q) e late below.0) ∙ apart))
        go false e = refl

    pub walk_ends : (files : List (List ℕ)) → Rise files → (t : List ℕ) → is_lt (text_cmp t start) ≡ false → first_begun start (files_from t files) ≡ None → all_told (files_from t files) ≡ []
    walk_ends files rise t late e = go (files_from t files) refl e
      where
        go : (rest : List (List ℕ)) → files_from t files ≡ rest → first_begun start rest ≡ None → all_told rest ≡ []
        go [] f h = refl
        go (p ∷ more) f h =
            let up : Rise (p ∷ more) = subst Rise f (filter_rises (λ path. not (is_lt (text_cmp (printed path) t))) files rise) in
            let apart = left_out (begins_with (printed p) start) h in
            fitting_on pattern (told p) (flat_map (directories_of d caller pattern) more) []
            ∙ not_begun p up.0 apart (all_told more)
            ∙ none_behind p apart (late_on (printed p) t start (first_late t files p more f) late) more up.1 up.2
          where
            left_out : (b : Bool) → (if b then Some p else None) ≡ None → b ≡ false
            left_out true k = absurd cc
            left_out false k = refl

pub still_late : (t p next start : List ℕ) (files : List (List ℕ)) → IsFirst (files_from t files) p → text_cmp (printed p) next ≡ Less → is_lt (text_cmp t start) ≡ false → is_lt (text_cmp next start) ≡ false
still_late t p next start files first later late =
    late_on next (printed p) start (after_is (printed p) next later) (late_on (printed p) t start (first_late t files p first.0 first.1) late)
