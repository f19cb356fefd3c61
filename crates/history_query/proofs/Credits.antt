-- The rows of a file's integration records are those of the depot, in key order.
use Rattle.std.proofs.Common.{◌≡◌, ℕ, Bool, true, false, cond, List, [], ◌∷◌, ◌++◌, Option, Some, None, Result, Ok, Err, refl, sym, ap, subst, ◌∙◌}
use Rattle.std.specs.Prelude.{◌&&◌, filter, find, if◌then◌else◌, map, option_and_then, option_map}
use Rattle.std.specs.Ordering.{is_eq, is_lt}
use Rattle.std.specs.declared.cmp.Ordering.{Ordering}
use Rattle.std.specs.declared.cmp.Ordering.TheVariants.{Less, Equal, Greater}
use Rattle.std.proofs.lemmas.Bool.{true≢false}
use Rattle.depot_rows.specs.depot_path.Bytes.{same}
use Rattle.depot_rows.specs.depot_path.Path.{path_of, printed}
use Rattle.depot_rows.specs.depot_path.declared.fault.PathFault.{PathFault}
use Rattle.depot_rows.proofs.db_records.Order.{keys_equal}
use Rattle.depot_rows.specs.db_records.Key.{key_cmp, key_table}
use Rattle.depot_rows.specs.db_records.Record.{key_of}
use Rattle.depot_rows.specs.db_records.declared.key.Key.{Key}
use Rattle.depot_rows.specs.db_records.declared.key.Key.TheVariants as keys
use Rattle.depot_rows.specs.db_records.declared.record.Record.{Record}
use Rattle.depot_rows.specs.db_records.declared.record.Record.TheVariants as records
use Rattle.depot_rows.specs.db_records.declared.rows.IntegedRecord.{IntegedRecord}
use Rattle.depot_rows.specs.db_records.declared.table.TableId.{TableId}
use Rattle.depot_rows.specs.db_records.declared.table.TableId.TheVariants as tables
use Rattle.depot_rows.specs.protect_table.Rights.{may}
use Rattle.depot_rows.specs.table_store.Rows.{AllAbove, AllOfTable, IsRising, TableRows, is_at, row_at}
use Rattle.row_order.proofs.Order.{AllAbove-lower, AllAbove-tied, turned_less}
use Rattle.row_ranges.specs.Ranges.{has_row}
use Rattle.row_ranges.specs.declared.range.KeyRange.TheVariants.{Integrations}
use Rattle.depot_rows.specs.depot_model.declared.reply.Row.{Row}
use Rattle.depot_rows.specs.depot_model.declared.request.Caller.{Caller}
use Rattle.depot_rows.specs.depot_model.Asking.{may_list}
use Rattle.depot_rows.specs.depot_model.Deeds.{Deed}
use Rattle.depot_rows.specs.depot_model.Records.{integrations, record_of}
use Rattle.depot_rows.specs.depot_model.Records as model
use Rattle.depot_rows.specs.depot_model.Steps.History.{in_key_order, integed_inserted, integrated_row, may_list_text, records_of}
use Rattle.reply_rows.proofs.Bare.{AreBare}
use Rattle.depot_rows.proofs.Keys.{same-is, same-self}
use Rattle.depot_rows.specs.Standing.{unplaced_at}
use Rattle.row_reads.proofs.Alike.{rows_alike, unplaced_row}
use Rattle.row_reads.proofs.GroupsListed.{kept_at, kept_of, kept_rise}
use Rattle.named_files.specs.Asked.{IsAsker}
use Rattle.named_files.specs.declared.asker.Asker.{Asker}
use Rattle.history_query.specs.Crediting.{integeds, is_listed_in, listed_in, may_list_in, records_listed_in, rows_told_in}

abbrev pub row_for : IntegedRecord → Record
row_for r = records.Integed r

abbrev key_for : IntegedRecord → Key
key_for r = key_of (row_for r)

abbrev rows_for : List IntegedRecord → List Record
rows_for rs = map row_for rs

-- a record is told by its key
one_record : (r s : IntegedRecord) → key_for r ≡ key_for s → r ≡ s
one_record r s e =
    let to : r.to_file ≡ s.to_file = cc in
    let from : r.from_file ≡ s.from_file = cc in
    let a : r.start_from ≡ s.start_from = cc in
    let b : r.end_from ≡ s.end_from = cc in
    let x : r.start_to ≡ s.start_to = cc in
    let y : r.end_to ≡ s.end_to = cc in
    let how : r.how ≡ s.how = cc in
    let change : r.change ≡ s.change = cc in
    λ i. record { to_file = to i; from_file = from i; start_from = a i; end_from = b i; start_to = x i; end_to = y i; how = how i; change = change i }

equal_one : (r s : IntegedRecord) → key_cmp (key_for r) (key_for s) ≡ Equal → r ≡ s
equal_one r s e = one_record r s ((keys_equal (key_for r) (key_for s)).0 e)

-- ---- the order

inserted_above : (k : Key) (r : IntegedRecord) (rs : List IntegedRecord) → key_cmp (key_for r) k ≡ Greater → AllAbove k (rows_for rs) → AllAbove k (rows_for (integed_inserted r rs))
inserted_above k r [] e high = (e, tt)
inserted_above k r (s ∷ rs) e high = go (key_cmp (key_for r) (key_for s)) (inserted_above k r rs e high.1)
  where
    go : (o : Ordering) → AllAbove k (rows_for (integed_inserted r rs))
        → AllAbove k (rows_for (if is_eq o then r ∷ rs else (if is_lt o then r ∷ s ∷ rs else s ∷ integed_inserted r rs)))
    go Equal more = (e, high.1)
    go Less more = (e, high)
    go Greater more = (high.0, more)

inserted_rise : (r : IntegedRecord) (rs : List IntegedRecord) → IsRising (rows_for rs) → IsRising (rows_for (integed_inserted r rs))
inserted_rise r [] up = (tt, tt)
inserted_rise r (s ∷ rs) up = go (key_cmp (key_for r) (key_for s)) refl (inserted_rise r rs up.1)
  where
    go : (o : Ordering) → key_cmp (key_for r) (key_for s) ≡ o → IsRising (rows_for (integed_inserted r rs))
        → IsRising (rows_for (if is_eq o then r ∷ rs else (if is_lt o then r ∷ s ∷ rs else s ∷ integed_inserted r rs)))
    go Equal e more = (AllAbove-tied (key_for s) (key_for r) (rows_for rs) ((keys_equal (key_for s) (key_for r)).1 (sym ((keys_equal (key_for r) (key_for s)).0 e))) up.0, up.1)
    go Less e more =
        let turned = turned_less (key_for r) (key_for s) e in
        ((turned, AllAbove-lower (key_for s) (key_for r) (rows_for rs) turned up.0), up)
    go Greater e more = (inserted_above (key_for s) r rs e up.0, more)

ordered_rise : (rs : List IntegedRecord) → IsRising (rows_for (in_key_order rs))
ordered_rise [] = tt
ordered_rise (r ∷ rs) = inserted_rise r (in_key_order rs) (ordered_rise rs)

rows_of_table : (rs : List IntegedRecord) → AllOfTable tables.Integed (rows_for rs)
rows_of_table [] = tt
rows_of_table (r ∷ rs) = (refl, rows_of_table rs)

-- ---- the record of a key

module _ (k : Key) where
  abbrev here : IntegedRecord → Bool
  here r = is_at k (row_for r)

  -- the same the other way round
  abbrev there : IntegedRecord → Bool
  there r = model.is_at k (key_for r)

  here_is : (r : IntegedRecord) → here r ≡ true → key_for r ≡ k
  here_is r e = go (key_cmp (key_for r) k) refl e
    where
      go : (o : Ordering) → key_cmp (key_for r) k ≡ o → is_eq o ≡ true → key_for r ≡ k
      go Equal f e = (keys_equal (key_for r) k).0 f
      go Less f e = absurd cc
      go Greater f e = absurd cc

  there_is : (r : IntegedRecord) → there r ≡ true → key_for r ≡ k
  there_is r e = go (key_cmp k (key_for r)) refl e
    where
      go : (o : Ordering) → key_cmp k (key_for r) ≡ o → is_eq o ≡ true → key_for r ≡ k
      go Equal f e = sym ((keys_equal k (key_for r)).0 f)
      go Less f e = absurd cc
      go Greater f e = absurd cc

  both_ways : (r : IntegedRecord) → here r ≡ there r
  both_ways r = go (here r) (there r) refl refl
    where
      go : (a b : Bool) → here r ≡ a → there r ≡ b → a ≡ b
      go true true e f = refl
      go false false e f = refl
      go true false e f = absurd (true≢false (sym (ap is_eq ((keys_equal k (key_for r)).1 (sym (here_is r e)))) ∙ f))
      go false true e f = absurd (true≢false (sym (ap is_eq ((keys_equal (key_for r) k).1 (there_is r f))) ∙ e))

  swapped : {A : Type 0} → (a b : Bool) → (x y rest : A) → (a ≡ true → b ≡ true → x ≡ y) → cond b y (cond a x rest) ≡ cond a x (cond b y rest)
  swapped true true x y rest one = sym (one refl refl)
  swapped true false x y rest one = refl
  swapped false true x y rest one = refl
  swapped false false x y rest one = refl

  tied : {A : Type 0} → (a b : Bool) → (x y rest : A) → a ≡ b → cond a x rest ≡ cond a x (cond b y rest)
  tied true true x y rest e = refl
  tied false false x y rest e = refl
  tied true false x y rest e = absurd cc
  tied false true x y rest e = absurd cc

  inserted_at : (r : IntegedRecord) (rs : List IntegedRecord)
      → row_at k (rows_for (integed_inserted r rs)) ≡ cond (here r) (Some (row_for r)) (row_at k (rows_for rs))
  inserted_at r [] = refl
  inserted_at r (s ∷ rs) = go (key_cmp (key_for r) (key_for s)) refl (inserted_at r rs)
    where
      go : (o : Ordering) → key_cmp (key_for r) (key_for s) ≡ o
          → row_at k (rows_for (integed_inserted r rs)) ≡ cond (here r) (Some (row_for r)) (row_at k (rows_for rs))
          → row_at k (rows_for (if is_eq o then r ∷ rs else (if is_lt o then r ∷ s ∷ rs else s ∷ integed_inserted r rs)))
          ≡ cond (here r) (Some (row_for r)) (cond (here s) (Some (row_for s)) (row_at k (rows_for rs)))
      go Equal e more =
          tied (here r) (here s) (Some (row_for r)) (Some (row_for s)) (row_at k (rows_for rs)) (ap here (equal_one r s e))
      go Less e more = refl
      go Greater e more =
          ap (λ (x : Option Record). cond (here s) (Some (row_for s)) x) more
          ∙ swapped (here r) (here s) (Some (row_for r)) (Some (row_for s)) (row_at k (rows_for rs))
          (λ p q. ap (λ (x : IntegedRecord). Some (row_for x)) (one_record r s (here_is r p ∙ sym (here_is s q))))

  mapped_cond : (b : Bool) (r : IntegedRecord) (rest : Option IntegedRecord) → cond b (Some (row_for r)) (option_map row_for rest) ≡ option_map row_for (cond b (Some r) rest)
  mapped_cond true r rest = refl
  mapped_cond false r rest = refl

  ordered_at : (rs : List IntegedRecord) → row_at k (rows_for (in_key_order rs)) ≡ option_map row_for (find there rs)
  ordered_at [] = refl
  ordered_at (r ∷ rs) =
      inserted_at r (in_key_order rs)
      ∙ (λ i. cond (both_ways r i) (Some (row_for r)) (ordered_at rs i))
      ∙ mapped_cond (there r) r (find there rs)

  -- the record of a key among some
  abbrev passing : (IntegedRecord → Bool) → IntegedRecord → Option IntegedRecord
  passing f r = if f r then Some r else None

  none_kept : (f : IntegedRecord → Bool) (x : IntegedRecord) → there x ≡ true → f x ≡ false → (xs : List IntegedRecord) → find there (filter f xs) ≡ None
  none_kept f x at not [] = refl
  none_kept f x at not (y ∷ ys) = go (f y) (there y) refl refl (none_kept f x at not ys)
    where
      go : (a b : Bool) → f y ≡ a → there y ≡ b → find there (filter f ys) ≡ None → find there (if a then y ∷ filter f ys else filter f ys) ≡ None
      go false b e g more = more
      go true false e g more = ap (λ (c : Bool). cond c (Some y) (find there (filter f ys))) g ∙ more
      go true true e g more = absurd (true≢false (sym e ∙ ap f (one_record y x (there_is y g ∙ sym (there_is x at))) ∙ not))

  found_kept : (f : IntegedRecord → Bool) (xs : List IntegedRecord) → find there (filter f xs) ≡ option_and_then (passing f) (find there xs)
  found_kept f [] = refl
  found_kept f (x ∷ xs) = go (f x) (there x) refl refl (found_kept f xs)
    where
      go : (a b : Bool) → f x ≡ a → there x ≡ b → find there (filter f xs) ≡ option_and_then (passing f) (find there xs)
          → find there (if a then x ∷ filter f xs else filter f xs) ≡ option_and_then (passing f) (cond b (Some x) (find there xs))
      go true true e g more = ap (λ (c : Bool). cond c (Some x) (find there (filter f xs))) g ∙ ap (λ (c : Bool). if c then Some x else None) (sym e)
      go true false e g more = ap (λ (c : Bool). cond c (Some x) (find there (filter f xs))) g ∙ more
      go false true e g more = none_kept f x g e xs ∙ ap (λ (c : Bool). if c then Some x else None) (sym e)
      go false false e g more = more

-- ---- the rows of a file

module _ (d : List Deed) (caller : Caller) (path : List ℕ) where
  abbrev own : IntegedRecord → Bool
  own r = same r.to_file (printed path) && may_list_text d caller r.from_file

  -- such a row
  abbrev own_row : Record → Bool
  own_row (records.Integed r) = own r
  own_row _ = false

  passed : (found : Option IntegedRecord) → option_and_then (λ x. if own_row x then Some x else None) (option_map row_for found)
      ≡ option_map row_for (option_and_then (λ r. if own r then Some r else None) found)
  passed None = refl
  passed (Some r) = go (own r)
    where
      go : (b : Bool) → (if b then Some (row_for r) else None) ≡ option_map row_for (if b then Some r else None)
      go true = refl
      go false = refl

  module _ (rows : List Record) (up : IsRising rows) (of : AllOfTable tables.Integed rows) (has : (key : Key) → key_table key ≡ tables.Integed → row_at key rows ≡ record_of d key) where
    at_key : (key : Key) → key_table key ≡ tables.Integed → row_at key (filter own_row rows) ≡ row_at key (rows_for (records_of d caller path))
    at_key (keys.Integed to from a b x y how change) k =
        let key : Key = keys.Integed to from a b x y how change in
        kept_at own_row key rows up
        ∙ ap (λ (found : Option Record). option_and_then (λ x. if own_row x then Some x else None) found) (has key refl)
        ∙ passed (find (there key) (integrations d))
        ∙ ap (option_map row_for) (sym (found_kept key own (integrations d)))
        ∙ sym (ordered_at key (filter own (integrations d)))
    at_key (keys.Counter name) k = absurd cc
    at_key (keys.Group a b) k = absurd cc
    at_key (keys.Protect n) k = absurd cc
    at_key (keys.Domain a b) k = absurd cc
    at_key (keys.Have a b) k = absurd cc
    at_key (keys.Label a b) k = absurd cc
    at_key (keys.Resolve a b x) k = absurd cc
    at_key (keys.Working a b) k = absurd cc
    at_key (keys.Change n) k = absurd cc
    at_key (keys.Rev a n) k = absurd cc

    own_rows : filter own_row rows ≡ rows_for (records_of d caller path)
    own_rows =
        rows_alike tables.Integed (filter own_row rows) (rows_for (records_of d caller path)) (kept_rise own_row rows up) (ordered_rise (filter own (integrations d)))
        (kept_of own_row tables.Integed rows of) (rows_of_table (records_of d caller path)) at_key

  integeds_back : (rs : List IntegedRecord) → integeds (rows_for rs) ≡ rs
  integeds_back [] = refl
  integeds_back (r ∷ rs) = ap (λ (l : List IntegedRecord). r ∷ l) (integeds_back rs)

  -- the rows that a walk over the range of the file gives
  module _ (asker : Asker) (asked : IsAsker d caller asker) where
    listed_one : (text : List ℕ) → may_list_in asker text ≡ may_list_text d caller text
    listed_one text = go (path_of text)
      where
        go : (read : Result (List ℕ) PathFault) → (elim read as (λ _. Bool) [ Err fault ↦ false | Ok p ↦ may asker.protects asker.who p 1 ])
            ≡ (elim read as (λ _. Bool) [ Err fault ↦ false | Ok p ↦ may_list d caller p ])
        go (Err fault) = refl
        go (Ok p) = λ i. may (asked.protects i) (asked.who i) p 1

    turned_same : (a b : List ℕ) → same a b ≡ same b a
    turned_same a b = go (same a b) (same b a) refl refl
      where
        go : (x y : Bool) → same a b ≡ x → same b a ≡ y → x ≡ y
        go true true e f = refl
        go false false e f = refl
        go true false e f = absurd (true≢false (sym (same-self a) ∙ ap (λ (t : List ℕ). same t a) (same-is a b e) ∙ f))
        go false true e f = absurd (true≢false (sym (same-self b) ∙ ap (λ (t : List ℕ). same t b) (same-is b a f) ∙ e))

    kept_twice : (a b : Bool) (r : IntegedRecord) (rest : List Record) (more : List IntegedRecord) → filter (is_listed_in asker) (integeds rest) ≡ more → is_listed_in asker r ≡ b
        → filter (is_listed_in asker) (integeds (if a && true then row_for r ∷ rest else rest)) ≡ (if a && b then r ∷ more else more)
    kept_twice true true r rest more e is = (λ i. if is i then r ∷ e i else e i)
    kept_twice true false r rest more e is = (λ i. if is i then r ∷ e i else e i)
    kept_twice false b r rest more e is = e

    walked : (rows : List Record) → AllOfTable tables.Integed rows → listed_in asker (filter (has_row (Integrations (printed path))) rows) ≡ integeds (filter own_row rows)
    walked [] of = refl
    walked (records.Integed r ∷ rows) of =
        kept_twice (same (printed path) r.to_file) (is_listed_in asker r) r (filter (has_row (Integrations (printed path))) rows) (integeds (filter own_row rows)) (walked rows of.1) refl
        ∙ (λ i. if turned_same (printed path) r.to_file i && listed_one r.from_file i then r ∷ integeds (filter own_row rows) else integeds (filter own_row rows))
        ∙ kept (own r)
      where
        kept : (b : Bool) → (if b then r ∷ integeds (filter own_row rows) else integeds (filter own_row rows)) ≡ integeds (if b then row_for r ∷ filter own_row rows else filter own_row rows)
        kept true = refl
        kept false = refl
    walked (records.Counter r ∷ rows) of = absurd (let e = of.0 in cc)
    walked (records.Group r ∷ rows) of = absurd (let e = of.0 in cc)
    walked (records.Protect r ∷ rows) of = absurd (let e = of.0 in cc)
    walked (records.Domain r ∷ rows) of = absurd (let e = of.0 in cc)
    walked (records.Have r ∷ rows) of = absurd (let e = of.0 in cc)
    walked (records.Label r ∷ rows) of = absurd (let e = of.0 in cc)
    walked (records.Resolve r ∷ rows) of = absurd (let e = of.0 in cc)
    walked (records.Working r ∷ rows) of = absurd (let e = of.0 in cc)
    walked (records.Change r ∷ rows) of = absurd (let e = of.0 in cc)
    walked (records.Rev r ∷ rows) of = absurd (let e = of.0 in cc)

pub records_told : (version : TableRows) (rows : List Record) → version.rows ≡ rows → version.table ≡ tables.Integed → AllOfTable version.table version.rows → IsRising version.rows
    → (d : List Deed) (caller : Caller) (asker : Asker) (path : List ℕ) → IsAsker d caller asker
    → ((key : Key) → key_table key ≡ tables.Integed → unplaced_at rows key ≡ record_of d key)
    → listed_in asker (filter (has_row (Integrations (printed path))) rows) ≡ records_of d caller path
records_told version rows are is of up d caller asker path asked has =
    let P : TableId → Type 0 = λ t. AllOfTable t rows in
    let Q : List Record → Type 0 = λ rs. AllOfTable version.table rs in
    let ours : AllOfTable tables.Integed rows = subst P is (subst Q are of) in
    walked d caller path asker asked rows ours
    ∙ ap integeds (own_rows d caller path rows (subst IsRising are up) ours (λ key k. sym (unplaced_row tables.Integed (λ e. cc) rows ours key) ∙ has key k))
    ∙ integeds_back d caller path (records_of d caller path)

pub records_bare : (rs : List IntegedRecord) → AreBare (map integrated_row rs)
records_bare [] = tt
records_bare (r ∷ rs) = (refl, records_bare rs)

-- what is told of rows is told of the records among them
pub told_are : (asker : Asker) (rows : List Record) → rows_told_in asker rows ≡ map integrated_row (listed_in asker rows)
told_are asker [] = refl
told_are asker (records.Integed r ∷ rows) = go (is_listed_in asker r) (told_are asker rows)
  where
    go : (b : Bool) → rows_told_in asker rows ≡ map integrated_row (listed_in asker rows)
        → (if b then integrated_row r ∷ [] else []) ++ rows_told_in asker rows ≡ map integrated_row (if b then r ∷ listed_in asker rows else listed_in asker rows)
    go true more = ap (λ (l : List Row). integrated_row r ∷ l) more
    go false more = more
told_are asker (records.Counter r ∷ rows) = told_are asker rows
told_are asker (records.Group r ∷ rows) = told_are asker rows
told_are asker (records.Protect r ∷ rows) = told_are asker rows
told_are asker (records.Domain r ∷ rows) = told_are asker rows
told_are asker (records.Have r ∷ rows) = told_are asker rows
told_are asker (records.Label r ∷ rows) = told_are asker rows
told_are asker (records.Resolve r ∷ rows) = told_are asker rows
told_are asker (records.Working r ∷ rows) = told_are asker rows
told_are asker (records.Change r ∷ rows) = told_are asker rows
told_are asker (records.Rev r ∷ rows) = told_are asker rows

-- so are those that are kept
pub listed_are : (asker : Asker) (rows : List Record) → records_listed_in asker rows ≡ listed_in asker rows
listed_are asker [] = refl
listed_are asker (records.Integed r ∷ rows) = go (is_listed_in asker r) (listed_are asker rows)
  where
    go : (b : Bool) → records_listed_in asker rows ≡ listed_in asker rows
        → (if b then r ∷ [] else []) ++ records_listed_in asker rows ≡ (if b then r ∷ listed_in asker rows else listed_in asker rows)
    go true more = ap (λ (l : List IntegedRecord). r ∷ l) more
    go false more = more
listed_are asker (records.Counter r ∷ rows) = listed_are asker rows
listed_are asker (records.Group r ∷ rows) = listed_are asker rows
listed_are asker (records.Protect r ∷ rows) = listed_are asker rows
listed_are asker (records.Domain r ∷ rows) = listed_are asker rows
listed_are asker (records.Have r ∷ rows) = listed_are asker rows
listed_are asker (records.Label r ∷ rows) = listed_are asker rows
listed_are asker (records.Resolve r ∷ rows) = listed_are asker rows
listed_are asker (records.Working r ∷ rows) = listed_are asker rows
listed_are asker (records.Change r ∷ rows) = listed_are asker rows
listed_are asker (records.Rev r ∷ rows) = listed_are asker rows
