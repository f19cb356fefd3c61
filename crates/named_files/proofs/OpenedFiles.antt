-- The files that any client has opened are those of the rows, each once.
use Rattle.std.proofs.Common.{◌≡◌, ◌≢◌, ℕ, suc, Bool, true, false, List, [], ◌∷◌, ◌++◌, Option, Some, None, inl, inr, refl, sym, ap, subst, ◌∙◌, length, map, arith}
use Rattle.std.specs.Prelude.{◌&&◌, ◌||◌, filter, filter_map, flat_map, if◌then◌else◌, is_some, nat_lt}
use Rattle.std.specs.List.{cons_option, list_any}
use Rattle.std.specs.Ordering.{is_eq, nat_cmp, ordering_reverse, ordering_then}
use Rattle.std.specs.Cmp.{IsTotalOrder}
use Rattle.std.specs.Cmp.Lexicographic.{slice_cmp}
use Rattle.std.specs.declared.cmp.Ordering.{Ordering}
use Rattle.std.specs.declared.cmp.Ordering.TheVariants.{Less, Equal, Greater}
use Rattle.std.proofs.lemmas.Bool.{true≢false, false≢true}
use Rattle.std.proofs.lemmas.Bool.Decides.{nat_tests}
use Rattle.std.proofs.lemmas.Cmp.{nat_list_cmp_total}
use Rattle.std.proofs.lemmas.List.Folds.{list_any-append}
use Rattle.std.proofs.lemmas.Map.Text.{is_eq-slice_cmp}
use Rattle.depot_rows.specs.depot_path.Bytes.{begins_with, same}
use Rattle.depot_rows.specs.depot_path.Order.{path_cmp}
use Rattle.depot_rows.specs.depot_path.Path.{printed, is_path}
use Rattle.depot_rows.proofs.depot_path.Paths.{prints_path}
use Rattle.depot_rows.specs.db_records.Key.{key_table}
use Rattle.depot_rows.specs.db_records.declared.key.Key.{Key}
use Rattle.depot_rows.specs.db_records.declared.key.Key.TheVariants as keys
use Rattle.depot_rows.specs.db_records.declared.record.Record.{Record}
use Rattle.depot_rows.specs.db_records.declared.record.Record.TheVariants as records
use Rattle.depot_rows.specs.db_records.declared.rows.WorkingRecord.{WorkingRecord}
use Rattle.depot_rows.specs.db_records.declared.table.TableId.{TableId}
use Rattle.depot_rows.specs.db_records.declared.table.TableId.TheVariants as tables
use Rattle.depot_rows.specs.table_store.Rows.{AllAbove, AllOfTable, IsRising, TableRows}
use Rattle.row_ranges.specs.Ranges.{has_row}
use Rattle.row_ranges.specs.declared.range.KeyRange.TheVariants.{OpenedFiles}
use Rattle.depot_rows.specs.depot_model.Arguments.{open_paths, paths_of}
use Rattle.depot_rows.specs.depot_model.Deeds.{Deed, Opening}
use Rattle.depot_rows.specs.depot_model.Opened.{opened}
use Rattle.depot_rows.specs.depot_model.Records.{record_of, working_record}
use Rattle.depot_rows.specs.depot_model.Rules.{IsSound}
use Rattle.depot_rows.specs.depot_model.Steps.Opening.{openers, opener_of}
use Rattle.depot_rows.specs.depot_model.Latest.{keys_of}
use Rattle.depot_rows.proofs.Keys.{same-is, same-self}
use Rattle.depot_rows.specs.Standing.{unplaced_at}
use Rattle.row_reads.proofs.GroupsListed.{kept_of, kept_rise}
use Rattle.file_openings.specs.Openings.{openings}
use Rattle.file_openings.proofs.NamesRise.{Below, Rise}
use Rattle.file_openings.proofs.Told.{openings_told}
use Rattle.named_files.specs.Anywhere.{is_last, opened_anywhere, paths_after, paths_in_turn, texts_after}
use Rattle.named_files.specs.Beginnings.{AreApart, has_one}
use Rattle.named_files.specs.Listed.{has_beginning, is_in_front, path_in_text}
use Rattle.named_files.specs.declared.listing.Listing.TheVariants.{OpenedBy}
use Rattle.named_files.proofs.Joining.{joined}
use Rattle.depot_rows.specs.Rising as paths
use Rattle.depot_rows.proofs.Sorted.{filter_rises}
use Rattle.named_files.proofs.Rising.{in_filter, one_list, told_rise}
use Rattle.named_files.proofs.RowsListed.{Single, in_text, same_turned, single_text}
use Rattle.named_files.proofs.Told.{open_are_paths, open_told}

order : IsTotalOrder (slice_cmp nat_cmp)
order = nat_list_cmp_total

-- ---- the texts rise

abbrev AboveLast : Option (List ℕ) → List (List ℕ) → Type 0
AboveLast None texts = Unit {0}
AboveLast (Some last) texts = Below last texts

-- no row's text is before the last one
abbrev NoneBefore : Option (List ℕ) → List Record → Type 0
NoneBefore None rows = Unit {0}
NoneBefore (Some last) [] = Unit {0}
NoneBefore (Some last) (records.Working r ∷ rows) = (slice_cmp nat_cmp last r.path ≢ Greater) × NoneBefore (Some last) rows
NoneBefore (Some last) (_ ∷ rows) = NoneBefore (Some last) rows

below_lower : (a b : List ℕ) (xs : List (List ℕ)) → slice_cmp nat_cmp a b ≡ Less → Below b xs → Below a xs
below_lower a b [] e h = tt
below_lower a b (x ∷ xs) e h = (order.trans a b x e h.0, below_lower a b xs e h.1)

not_less : (o p : Ordering) → ordering_then o p ≡ Greater → ordering_reverse o ≡ Greater → ⊥
not_less Less p e h = absurd cc
not_less Equal p e h = absurd cc
not_less Greater p e h = absurd cc

none_before : (r : WorkingRecord) (rows : List Record) → AllAbove (keys.Working r.path r.client) rows → NoneBefore (Some r.path) rows
none_before r [] high = tt
none_before r (records.Working x ∷ rows) high = (
  λ e. not_less (slice_cmp nat_cmp x.path r.path) (ordering_then (slice_cmp nat_cmp x.client r.client) Equal) high.0 (sym (order.antisymm r.path x.path) ∙ e),
  none_before r rows high.1,
)
none_before r (_ ∷ rows) high = none_before r rows high.1

is_below : (t u : List ℕ) → slice_cmp nat_cmp t u ≢ Greater → same t u ≡ false → slice_cmp nat_cmp t u ≡ Less
is_below t u late apart = go (slice_cmp nat_cmp t u) refl
  where
    go : (o : Ordering) → slice_cmp nat_cmp t u ≡ o → o ≡ Less
    go Less e = refl
    go Equal e = absurd (true≢false (ap is_eq (sym e) ∙ is_eq-slice_cmp t u ∙ apart))
    go Greater e = absurd (late e)

above_it : (last : Option (List ℕ)) (r : WorkingRecord) (rows : List Record) (texts : List (List ℕ)) → NoneBefore last (records.Working r ∷ rows)
    → is_last last r.path ≡ false → Below r.path texts → AboveLast last (r.path ∷ texts)
above_it None r rows texts before apart below = tt
above_it (Some t) r rows texts before apart below = let less = is_below t r.path before.0 apart in (less, below_lower t r.path texts less below)

above_same : (last : Option (List ℕ)) (text : List ℕ) (texts : List (List ℕ)) → is_last last text ≡ true → Below text texts → AboveLast last texts
above_same None text texts e below = tt
above_same (Some t) text texts e below = subst (λ (x : List ℕ). Below x texts) (sym (same-is t text e)) below

abbrev later_than : WorkingRecord → List Record → List (List ℕ)
later_than r rows = texts_after (Some r.path) rows

rises : (last : Option (List ℕ)) (rows : List Record) → NoneBefore last rows → IsRising rows → AllOfTable tables.Working rows
    → AboveLast last (texts_after last rows) × Rise (texts_after last rows)
rises None [] before up of = (tt, tt)
rises (Some t) [] before up of = (tt, tt)
rises last (records.Working r ∷ rows) before up of = go (is_last last r.path) refl (rises (Some r.path) rows (none_before r rows up.0) up.1 of.1)
  where
    go : (b : Bool) → is_last last r.path ≡ b → Below r.path (later_than r rows) × Rise (later_than r rows)
        → AboveLast last ((if b then [] else r.path ∷ []) ++ later_than r rows) × Rise ((if b then [] else r.path ∷ []) ++ later_than r rows)
    go true e more = (above_same last r.path (later_than r rows) e more.0, more.1)
    go false e more = (above_it last r rows (later_than r rows) before e more.0, more)
rises last (records.Counter r ∷ rows) before up of = absurd cc
rises last (records.Group r ∷ rows) before up of = absurd cc
rises last (records.Protect r ∷ rows) before up of = absurd cc
rises last (records.Domain r ∷ rows) before up of = absurd cc
rises last (records.Have r ∷ rows) before up of = absurd cc
rises last (records.Label r ∷ rows) before up of = absurd cc
rises last (records.Integed r ∷ rows) before up of = absurd cc
rises last (records.Resolve r ∷ rows) before up of = absurd cc
rises last (records.Change r ∷ rows) before up of = absurd cc
rises last (records.Rev r ∷ rows) before up of = absurd cc

-- ---- and so do their paths

own_text : (x text : List ℕ) → is_path x ≡ true → path_in_text text ≡ x ∷ [] → printed x ≡ text
own_text x text is e =
    same-is (printed x) text (sym (in_text x text is) ∙ ap (list_any (same x)) e ∙ ap (λ b. b || false) (same-self x))

abbrev flat : List (List ℕ) → List (List ℕ)
flat texts = flat_map path_in_text texts

flat_below : (x t : List ℕ) → printed x ≡ t → (texts : List (List ℕ)) → Below t texts → paths.Below x (flat_map path_in_text texts)
flat_below x t is [] below = tt
flat_below x t is (u ∷ us) below = go (single_text u) (flat_below x t is us below.1)
  where
    go : Single (path_in_text u) → paths.Below x (flat us) → paths.Below x (path_in_text u ++ flat us)
    go (inl none) more = subst (λ (ps : List (List ℕ)). paths.Below x (ps ++ flat us)) (sym none) more
    go (inr one) more =
        let less : path_cmp x one.0 ≡ Less = (λ i. slice_cmp nat_cmp (is i) (own_text one.0 u one.1 one.2 i)) ∙ below.0 in
        let both : paths.Below x (one.0 ∷ flat us) = (less, more) in
        subst (λ (ps : List (List ℕ)). paths.Below x (ps ++ flat us)) (sym one.2) both

flat_rise : (texts : List (List ℕ)) → Rise texts → paths.Rise (flat_map path_in_text texts)
flat_rise [] rise = tt
flat_rise (t ∷ ts) rise = go (single_text t) (flat_rise ts rise.1)
  where
    go : Single (path_in_text t) → paths.Rise (flat ts) → paths.Rise (path_in_text t ++ flat ts)
    go (inl none) more = subst (λ (ps : List (List ℕ)). paths.Rise (ps ++ flat ts)) (sym none) more
    go (inr one) more =
        let both : paths.Rise (one.0 ∷ flat ts) = (one.1, flat_below one.0 t (own_text one.0 t one.1 one.2) ts rise.0, more) in
        subst (λ (ps : List (List ℕ)). paths.Rise (ps ++ flat ts)) (sym one.2) both

-- ---- which there are

in_paths : (p : List ℕ) → is_path p ≡ true → (texts : List (List ℕ)) → list_any (same p) (flat_map path_in_text texts) ≡ list_any (same (printed p)) texts
in_paths p is [] = refl
in_paths p is (t ∷ ts) = list_any-append (same p) (path_in_text t) (flat_map path_in_text ts) ∙ (λ i. in_text p t is i || in_paths p is ts i)

abbrev has_text : List ℕ → Record → Bool
has_text text (records.Working r) = same text r.path
has_text text _ = false

or_absorb : (a b : Bool) → (a || b) ≡ (a || (a || b))
or_absorb true b = refl
or_absorb false b = refl

abbrev later_has : List ℕ → WorkingRecord → List Record → Bool
later_has text r rows = list_any (same text) (texts_after (Some r.path) rows)

abbrev others_have : List ℕ → List Record → Bool
others_have text rows = list_any (has_text text) rows

in_texts : (text : List ℕ) (last : Option (List ℕ)) (rows : List Record)
    → (is_last last text || list_any (same text) (texts_after last rows)) ≡ (is_last last text || list_any (has_text text) rows)
in_texts text last [] = refl
in_texts text last (records.Working r ∷ rows) = go (in_texts text (Some r.path) rows) (is_last last r.path) refl
  where
    turn : (same r.path text || later_has text r rows) ≡ (same r.path text || others_have text rows) → (same text r.path || later_has text r rows) ≡ (same text r.path || others_have text rows)
    turn before = (λ i. same_turned text r.path i || later_has text r rows) ∙ before ∙ (λ i. same_turned r.path text i || others_have text rows)

    its_own : (o : Option (List ℕ)) → is_last o r.path ≡ true → is_last o text ≡ same text r.path
    its_own None e = absurd (false≢true e)
    its_own (Some t) e = ap (λ (x : List ℕ). same x text) (same-is t r.path e) ∙ same_turned r.path text

    go : (same r.path text || later_has text r rows) ≡ (same r.path text || others_have text rows) → (b : Bool) → is_last last r.path ≡ b
        → (is_last last text || list_any (same text) ((if b then [] else r.path ∷ []) ++ texts_after (Some r.path) rows)) ≡ (is_last last text || (same text r.path || others_have text rows))
    go before true e =
        (λ i. its_own last e i || later_has text r rows) ∙ turn before ∙ or_absorb (same text r.path) (others_have text rows)
        ∙ (λ i. sym (its_own last e) i || (same text r.path || others_have text rows))
    go before false e = ap (λ b. is_last last text || b) (turn before)
in_texts text last (_ ∷ rows) = in_texts text last rows

and_false : (a : Bool) → (a && false) ≡ false
and_false true = refl
and_false false = refl

module _ (client beginning : List ℕ) where
  abbrev front : Record → Bool
  front row = is_in_front (OpenedBy client) beginning row

  abbrev kept : List Record → List Record
  kept rows = filter front rows

  in_front : (text : List ℕ) (rows : List Record) → list_any (has_text text) (filter front rows) ≡ (list_any (has_text text) rows && begins_with text beginning)
  in_front text [] = refl
  in_front text (records.Working r ∷ rows) = go (begins_with r.path beginning) refl (same text r.path) refl (in_front text rows)
    where
      go : (b : Bool) → begins_with r.path beginning ≡ b → (s : Bool) → same text r.path ≡ s
          → list_any (has_text text) (kept rows) ≡ (list_any (has_text text) rows && begins_with text beginning)
          → list_any (has_text text) (if b then records.Working r ∷ kept rows else kept rows) ≡ ((s || list_any (has_text text) rows) && begins_with text beginning)
      go true e true k more =
          ap (λ s. s || list_any (has_text text) (kept rows)) k ∙ sym (ap (λ (t : List ℕ). begins_with t beginning) (same-is text r.path k) ∙ e)
      go true e false k more = ap (λ s. s || list_any (has_text text) (kept rows)) k ∙ more
      go false e true k more =
          let none : begins_with text beginning ≡ false = ap (λ (t : List ℕ). begins_with t beginning) (same-is text r.path k) ∙ e in
          more ∙ ap (λ b. list_any (has_text text) rows && b) none ∙ and_false (list_any (has_text text) rows) ∙ sym none
      go false e false k more = more
  in_front text (_ ∷ rows) = in_front text rows

abbrev with_text : List ℕ → List Record → List Record
with_text text rows = filter (λ row. has_row (OpenedFiles text) row) rows

some_row : (text : List ℕ) (rows : List Record) → AllOfTable tables.Working rows
    → list_any (has_text text) rows ≡ nat_lt 0 (length (filter (λ row. has_row (OpenedFiles text) row) rows))
some_row text [] of = refl
some_row text (records.Working r ∷ rows) of = go (same text r.path) (some_row text rows of.1)
  where
    go : (b : Bool) → list_any (has_text text) rows ≡ nat_lt 0 (length (with_text text rows))
        → (b || list_any (has_text text) rows) ≡ nat_lt 0 (length (if b && true then records.Working r ∷ with_text text rows else with_text text rows))
    go true more = grind (arith, nat_tests)
    go false more = more
some_row text (records.Counter r ∷ rows) of = absurd cc
some_row text (records.Group r ∷ rows) of = absurd cc
some_row text (records.Protect r ∷ rows) of = absurd cc
some_row text (records.Domain r ∷ rows) of = absurd cc
some_row text (records.Have r ∷ rows) of = absurd cc
some_row text (records.Label r ∷ rows) of = absurd cc
some_row text (records.Integed r ∷ rows) of = absurd cc
some_row text (records.Resolve r ∷ rows) of = absurd cc
some_row text (records.Change r ∷ rows) of = absurd cc
some_row text (records.Rev r ∷ rows) of = absurd cc

module _ (d : List Deed) (p : List ℕ) where
  abbrev found : List ℕ → Option Opening
  found c = opened d c p

  abbrev has_it : List ℕ → Bool
  has_it c = is_some (found c)

  as_many : (cs : List (List ℕ)) → length (map (working_record d) (filter_map found (filter has_it cs))) ≡ length (filter has_it cs)
  as_many [] = refl
  as_many (c ∷ cs) = go (found c) refl (as_many cs)
    where
      go : (o : Option Opening) → found c ≡ o → length (map (working_record d) (filter_map found (filter has_it cs))) ≡ length (filter has_it cs)
          → length (map (working_record d) (filter_map found (if is_some o then c ∷ filter has_it cs else filter has_it cs)))
          ≡ length (if is_some o then c ∷ filter has_it cs else filter has_it cs)
      go None e more = more
      go (Some o) e more =
          ap (λ x. length (map (working_record d) (cons_option x (filter_map found (filter has_it cs))))) e ∙ ap suc more

  some_opener : (cs : List (List ℕ)) → nat_lt 0 (length (filter has_it cs)) ≡ true → list_any (same p) (paths_of open_paths d) ≡ true
  some_opener [] e = absurd (false≢true e)
  some_opener (c ∷ cs) e = go (has_it c) refl e (some_opener cs)
    where
      go : (b : Bool) → has_it c ≡ b → nat_lt 0 (length (if b then c ∷ filter has_it cs else filter has_it cs)) ≡ true
          → (nat_lt 0 (length (filter has_it cs)) ≡ true → list_any (same p) (paths_of open_paths d) ≡ true) → list_any (same p) (paths_of open_paths d) ≡ true
      go true k h more = open_told c p d k
      go false k h more = more h

  absorbed : (a b : Bool) → (b ≡ true → a ≡ true) → (a && b) ≡ b
  absorbed true b h = refl
  absorbed false true h = absurd (false≢true (h refl))
  absorbed false false h = refl

  in_anywhere : list_any (same p) (opened_anywhere d) ≡ nat_lt 0 (length (openers d p))
  in_anywhere =
      in_filter p (λ path. nat_lt 0 (length (openers d path))) (paths_of open_paths d)
      ∙ absorbed (list_any (same p) (paths_of open_paths d)) (nat_lt 0 (length (openers d p))) (some_opener (keys_of (opener_of p) d))

-- so a file is of these where its openings have a row
pub opened_there : (d : List Deed) (p : List ℕ) (rows : List Record)
    → with_text (printed p) rows ≡ map (working_record d) (openings d p) → nat_lt 0 (length (with_text (printed p) rows)) ≡ list_any (same p) (opened_anywhere d)
opened_there d p rows are =
    ap (λ (rs : List Record). nat_lt 0 (length rs)) are ∙ ap (λ (n : ℕ). nat_lt 0 n) (as_many d p (keys_of (opener_of p) d)) ∙ sym (in_anywhere d p)

pub anywhere_rises : (d : List Deed) → IsSound d → paths.Rise (opened_anywhere d)
anywhere_rises d sound = filter_rises (λ path. nat_lt 0 (length (openers d path))) (paths_of open_paths d) (told_rise open_paths open_are_paths d sound.paths)

anywhere_told : (client beginning : List ℕ) (version : TableRows) (rows : List Record) → version.rows ≡ rows → version.table ≡ tables.Working
    → AllOfTable version.table version.rows → IsRising version.rows → (d : List Deed) → IsSound d
    → ((key : Key) → key_table key ≡ tables.Working → unplaced_at rows key ≡ record_of d key)
    → paths_after None (filter (is_in_front (OpenedBy client) beginning) rows) ≡ filter (has_beginning beginning) (opened_anywhere d)
anywhere_told client beginning version rows are is of up d sound has =
    let P : TableId → Type 0 = λ t. AllOfTable t rows in
    let Q : List Record → Type 0 = λ rs. AllOfTable version.table rs in
    let ours : AllOfTable tables.Working rows = subst P is (subst Q are of) in
    let rising : IsRising rows = subst IsRising are up in
    let test = is_in_front (OpenedBy client) beginning in
    let kept = filter test rows in
    one_list (paths_after None kept) (filter (has_beginning beginning) (opened_anywhere d))
    (flat_rise (texts_after None kept) (rises None kept tt (kept_rise test rows rising) (kept_of test tables.Working rows ours)).1)
    (filter_rises (has_beginning beginning) (opened_anywhere d) (anywhere_rises d sound))
    (λ p path.
    in_paths p path (texts_after None kept) ∙ in_texts (printed p) None kept ∙ in_front client beginning (printed p) rows
    ∙ (λ i. (some_row (printed p) rows ours ∙ opened_there d p rows (openings_told version rows are is of up d p (prints_path p path) has)) i && begins_with (printed p) beginning)
    ∙ sym (in_filter p (has_beginning beginning) (opened_anywhere d)))

-- those of each of some texts that are apart, in turn
pub all_told : (client : List ℕ) (version : TableRows) (rows : List Record) → version.rows ≡ rows → version.table ≡ tables.Working
    → AllOfTable version.table version.rows → IsRising version.rows → (d : List Deed) → IsSound d
    → ((key : Key) → key_table key ≡ tables.Working → unplaced_at rows key ≡ record_of d key) → (beginnings : List (List ℕ)) → AreApart beginnings
    → paths_in_turn (OpenedBy client) rows beginnings ≡ filter (has_one beginnings) (opened_anywhere d)
all_told client version rows are is of up d sound has beginnings apart =
    (λ i. flat_map (λ beginning. anywhere_told client beginning version rows are is of up d sound has i) beginnings)
    ∙ joined (opened_anywhere d) (anywhere_rises d sound) beginnings apart
