-- Changes, one after another.
use Rattle.std.proofs.Common.{◌≡◌, ◌↔◌, ℕ, ◌+◌, ◌<◌, Bool, true, false, IsTrue, cond, Option, Some, None, IsSome, List, [], ◌∷◌, ◌++◌, length, take, drop, get_or, Result, Ok, Err, OnOk, OnErr, refl, sym, ap, ◌∙◌, subst}
use Rattle.std.specs.List.{filter}
use Rattle.std.proofs.lemmas.List.{take_more, drop_more}
use Rattle.db_records.specs.declared.table.TableId.{TableId}
use Rattle.db_records.specs.declared.record.Record.{Record}
use Rattle.db_records.specs.declared.change.Change.{Change}
use Rattle.db_records.specs.declared.change.Op.{Op}
use Rattle.db_records.specs.declared.change.Op.TheVariants.{Put, Replace, Remove}
use Rattle.db_records.specs.Record.{key_of, table_of}
use Rattle.table_store.specs.Rows.{TableRows, is_below, is_above, AllOfTable, AllFit, Fits, FitsAt, with_rows, left_by, changed_once, changed}

changed-append : (rows : List Record) (changes : List Change) (change : Change) → changed rows (changes ++ change ∷ []) ≡ changed_once (changed rows changes) change
changed-append rows [] change = refl
changed-append rows (first ∷ changes) change = changed-append (changed_once rows first) changes change

pub AllOfTable-append : (table : TableId) (xs ys : List Record) → AllOfTable table xs → AllOfTable table ys → AllOfTable table (xs ++ ys)
AllOfTable-append table [] ys p q = q
AllOfTable-append table (x ∷ xs) ys p q = (p.0, AllOfTable-append table xs ys p.1 q)

AllOfTable-filter : (table : TableId) (test : Record → Bool) (rows : List Record) → AllOfTable table rows → AllOfTable table (filter test rows)
AllOfTable-filter table test [] all = tt
AllOfTable-filter table test (row ∷ rows) all =
    let rest = AllOfTable-filter table test rows all.1 in
    elim (test row) as (λ b. AllOfTable table (cond b (row ∷ filter test rows) (filter test rows))) [ true ↦ (all.0, rest) | false ↦ rest ]

AllOfTable-left : (table : TableId) (op : Op) (row : Record) → table_of row ≡ table → AllOfTable table (left_by op row)
AllOfTable-left table Put row e = (e, tt)
AllOfTable-left table Replace row e = (e, tt)
AllOfTable-left table Remove row e = tt

pub AllOfTable-changed : (table : TableId) (rows : List Record) (change : Change) → AllOfTable table rows → table_of change.row ≡ table → AllOfTable table (changed_once rows change)
AllOfTable-changed table rows change all e =
    let key = key_of change.row in
    AllOfTable-append table (filter (is_below key) rows) (left_by change.op change.row ++ filter (is_above key) rows) (AllOfTable-filter table (is_below key) rows all)
    (AllOfTable-append table (left_by change.op change.row) (filter (is_above key) rows) (AllOfTable-left table change.op change.row e) (AllOfTable-filter table (is_above key) rows all))

-- a change that was made, or for which there was no memory
pub AllOfTable-tried : {A E : Type 0} (table : TableId) (rows new : List Record) (change : Change) (r : Result A E) → OnOk r (new ≡ changed_once rows change) → OnErr r (new ≡ rows) → AllOfTable table rows → table_of change.row ≡ table → AllOfTable table new
AllOfTable-tried table rows new change (Ok a) ok err all e = subst (AllOfTable table) (sym ok) (AllOfTable-changed table rows change all e)
AllOfTable-tried table rows new change (Err a) ok err all e = subst (AllOfTable table) (sym err) all

-- the table after a change that was made
pub changed_made : (version : TableRows) (table : TableId) (rows new : List Record) (op as_op : Op) (row : Record) → record { table = table; rows = rows } ≡ version → op ≡ as_op → new ≡ changed_once rows (record { op = op; row = row }) → record { table = table; rows = new } ≡ with_rows version (changed_once version.rows (record { op = as_op; row = row }))
changed_made version table rows new op as_op row is same made =
    ap (λ (l : List Record). record { table = table; rows = l }) (made ∙ ap (λ (o : Op). changed_once rows (record { op = o; row = row })) same)
    ∙ ap (λ (v : TableRows). with_rows v (changed_once v.rows (record { op = as_op; row = row }))) is

pub changed_tried : {A E : Type 0} (version : TableRows) (table : TableId) (rows new : List Record) (op : Op) (row : Record) (r : Result A E) → record { table = table; rows = rows } ≡ version → OnOk r (new ≡ changed_once rows (record { op = op; row = row })) → OnOk r (record { table = table; rows = new } ≡ with_rows version (changed_once version.rows (record { op = op; row = row })))
changed_tried version table rows new op row (Ok a) is ok = changed_made version table rows new op op row is refl ok
changed_tried version table rows new op row (Err e) is ok = tt

-- one more change
module _ (changes : List Change) (i : ℕ) (change : Change) (h : i < length changes) (is : change ≡ get_or changes i change) where
  pub changed_more : (rows : List Record) → changed rows (take (i + 1) changes) ≡ changed_once (changed rows (take i changes)) change
  changed_more rows = ap (changed rows) (take_more changes i change h ∙ ap (λ c. take i changes ++ c ∷ []) (sym is)) ∙ changed-append rows (take i changes) change

  pub fit_more : (version : TableRows) → AllFit version (drop i changes) → Fits version change × AllFit (with_rows version (changed_once version.rows change)) (drop (i + 1) changes)
  fit_more version all = subst (AllFit version) (drop_more changes i change h ∙ ap (λ c. c ∷ drop (i + 1) changes) (sym is)) all

replace_not_put : Replace ≡ Put → ⊥
replace_not_put e = cc

remove_not_put : Remove ≡ Put → ⊥
remove_not_put e = cc

not_some : (there : Option Record) → there ≡ None → IsSome there → ⊥
not_some None none some = cc
not_some (Some row) none some = cc

-- a change at a key where no row is fits exactly if it is a Put
pub fits_where_none : (op : Op) (row : Record) (there : Option Record) (r : Bool) → there ≡ None → (r ≡ true → op ≡ Put) → (op ≡ Put → r ≡ true) → IsTrue r ↔ FitsAt op row there
fits_where_none Put row there r none p q = ((λ t. none), (λ f. q refl))
fits_where_none Replace row there r none p q = ((λ t. absurd (replace_not_put (p t))), (λ f. absurd (not_some there none f)))
fits_where_none Remove row there r none p q = ((λ t. absurd (remove_not_put (p t))), (λ f. cc))
