-- The rows of the revisions that a change made are those of its files, one each.
use Rattle.std.proofs.Common.{◌≡◌, ◌++◌, ℕ, zero, suc, Bool, true, false, cond, List, [], ◌∷◌, Option, Some, None, Result, Ok, Err, ◌⊎◌, inl, inr, refl, sym, ap, subst, ◌∙◌}
use Rattle.std.specs.Prelude.{◌||◌, ◌==◌, filter, filter_map, flat_map, if◌then◌else◌, is_some, map, option_and_then, option_map, slice_get}
use Rattle.std.specs.List.{cons_option, list_any}
use Rattle.std.specs.Ordering.{is_eq, ordering_reverse}
use Rattle.std.specs.declared.cmp.Ordering.TheVariants.{Less, Greater}
use Rattle.std.proofs.lemmas.Bool.{false≢true}
use Rattle.depot_rows.specs.depot_path.Bytes.{same}
use Rattle.depot_rows.specs.depot_path.Order.{path_cmp}
use Rattle.depot_rows.specs.depot_path.Path.{is_path, path_of, printed}
use Rattle.depot_rows.specs.depot_path.declared.fault.PathFault.{PathFault}
use Rattle.depot_rows.proofs.depot_path.Paths.{prints_path}
use Rattle.depot_rows.specs.db_records.Key.{key_cmp, key_table}
use Rattle.depot_rows.specs.db_records.Record.{key_of}
use Rattle.depot_rows.specs.db_records.declared.key.Key.{Key}
use Rattle.depot_rows.specs.db_records.declared.key.Key.TheVariants as keys
use Rattle.depot_rows.specs.db_records.declared.record.Record.{Record}
use Rattle.depot_rows.specs.db_records.declared.record.Record.TheVariants as records
use Rattle.depot_rows.specs.db_records.declared.table.TableId.{TableId}
use Rattle.depot_rows.specs.db_records.declared.table.TableId.TheVariants as tables
use Rattle.depot_rows.specs.table_store.Marks.{is_of_change}
use Rattle.depot_rows.specs.table_store.Rows.{AllAbove, AllOfTable, IsRising, is_at, row_at}
use Rattle.depot_rows.specs.depot_model.Arguments.{submitted}
use Rattle.depot_rows.specs.depot_model.Choice.{made_by}
use Rattle.depot_rows.specs.depot_model.Deeds.{Deed}
use Rattle.depot_rows.specs.depot_model.Records.{record_of, rev_record, unplaced}
use Rattle.depot_rows.specs.depot_model.Revisions.{Revision, revision, revisions}
use Rattle.depot_rows.specs.depot_model.Rules.{IsSound}
use Rattle.depot_rows.specs.depot_model.Steps.Changing.{files_of_change}
use Rattle.depot_rows.specs.depot_model.Steps.History.{made_in}
use Rattle.depot_rows.specs.depot_model.Steps.Listing.{Numbered}
use Rattle.depot_rows.proofs.Keys.{at-is, same-is, same-self}
use Rattle.depot_rows.specs.Standing.{unplaced_at}
use Rattle.row_reads.proofs.Alike.{here, itself, rows_alike}
use Rattle.row_reads.proofs.GroupsListed.{kept_at, kept_of, kept_rise, pass}
use Rattle.revision_reads.proofs.FileRows.{rev_row}
use Rattle.revision_reads.specs.History.{numbered_record}
use Rattle.named_files.specs.declared.listing.Listing.TheVariants.{Submitted}
use Rattle.named_files.specs.Listed.{path_in_text, path_revised}
use Rattle.depot_rows.proofs.Sorted.{path_order}
use Rattle.depot_rows.specs.Rising.{Below, Rise}
use Rattle.named_files.proofs.MadeOnce.{made_found, made_once, some_is}
use Rattle.named_files.proofs.RowsListed.{each_row, in_listed, in_order, own_key, single_text}
use Rattle.named_files.proofs.Told.{files_rise, files_told}

one_row : (r s : Record) → Some r ≡ Some s → r ≡ s
one_row r s e = cc

pub key_found : (key : Key) (rows : List Record) (r : Record) → row_at key rows ≡ Some r → key_of r ≡ key
key_found key [] r e = absurd cc
key_found key (x ∷ xs) r e = go (is_at key x) refl e (λ f. key_found key xs r f)
  where
    go : (b : Bool) → is_at key x ≡ b → cond b (Some x) (row_at key xs) ≡ Some r → (row_at key xs ≡ Some r → key_of r ≡ key) → key_of r ≡ key
    go true is f more = ap key_of (sym (one_row x r f)) ∙ at-is (key_of x) key is
    go false is f more = more f

some_mapped : {A B : Type 0} (f : A → B) (o : Option A) → is_some (option_map f o) ≡ is_some o
some_mapped f None = refl
some_mapped f (Some x) = refl

-- ---- revisions by their numbers

one_revision : (r s : Revision) → Some r ≡ Some s → r ≡ s
one_revision r s e = cc

at_place : (g : Revision → Bool) (revs : List Revision) (k : ℕ) (r : Revision) → slice_get revs k ≡ Some r → g r ≡ true → list_any g revs ≡ true
at_place g [] k r e is = absurd cc
at_place g (x ∷ xs) zero r e is = ap (λ (b : Bool). b || list_any g xs) (ap g (one_revision x r e) ∙ is)
at_place g (x ∷ xs) (suc k) r e is = either (g x) (list_any g xs) (at_place g xs k r e is)
  where
    either : (a b : Bool) → b ≡ true → (a || b) ≡ true
    either true b f = refl
    either false b f = f

-- a revision that the change made, by its number
pub made_at : (d : List Deed) (n : ℕ) (p : List ℕ) (rev : ℕ) (v : Revision) → revision d p rev ≡ Some v → (v.landing.change == n) ≡ true → list_any (made_by n) (revisions d p) ≡ true
made_at d n p zero v e is = absurd cc
made_at d n p (suc k) v e is = at_place (made_by n) (revisions d p) k v e is

first_there : (revs : List Revision) (k : ℕ) (r : Revision) → slice_get revs k ≡ Some r → is_some (slice_get revs 0) ≡ true
first_there [] k r e = absurd cc
first_there (x ∷ xs) k r e = refl

-- ---- the path that a text spells

path_is : (text p : List ℕ) → path_of text ≡ Ok p → same (printed p) text ≡ true → is_path p ≡ true
path_is text p read own = go (single_text text)
  where
    spelled : path_in_text text ≡ p ∷ []
    spelled = (λ i. elim (read i) as (λ _. List (List ℕ)) [ Err fault ↦ [] | Ok path ↦ if same (printed path) text then path ∷ [] else [] ]) ∙ ap (λ (b : Bool). if b then p ∷ [] else []) own

    go : (path_in_text text ≡ []) ⊎ ((x : List ℕ) × (is_path x ≡ true) × (path_in_text text ≡ x ∷ [])) → is_path p ≡ true
    go (inl none) = absurd (let h = sym none ∙ spelled in cc)
    go (inr one) = let h = sym one.2 ∙ spelled in let same_path : one.0 ≡ p = cc in ap is_path (sym same_path) ∙ one.1

own_path : (p : List ℕ) → is_path p ≡ true → path_in_text (printed p) ≡ p ∷ []
own_path p is =
    (λ i. elim (prints_path p is i) as (λ _. List (List ℕ)) [ Err fault ↦ [] | Ok path ↦ if same (printed path) (printed p) then path ∷ [] else [] ])
    ∙ ap (λ (b : Bool). if b then p ∷ [] else []) (same-self (printed p))

-- ---- rows without the places of their contents

flat_key : (r : Record) → key_of (unplaced r) ≡ key_of r
flat_key (records.Rev r) = refl
flat_key _ = refl

flat_above : (k : Key) (rows : List Record) → AllAbove k rows → AllAbove k (map unplaced rows)
flat_above k [] above = tt
flat_above k (r ∷ rs) above = (ap (λ (q : Key). key_cmp q k) (flat_key r) ∙ above.0, flat_above k rs above.1)

flat_rise : (rows : List Record) → IsRising rows → IsRising (map unplaced rows)
flat_rise [] up = tt
flat_rise (r ∷ rs) up = (subst (λ (q : Key). AllAbove q (map unplaced rs)) (sym (flat_key r)) (flat_above (key_of r) rs up.0), flat_rise rs up.1)

flat_of : (t : TableId) (rows : List Record) → AllOfTable t rows → AllOfTable t (map unplaced rows)
flat_of t [] of = tt
flat_of t (r ∷ rs) of = (ap key_table (flat_key r) ∙ of.0, flat_of t rs of.1)

flat_at : (key : Key) (rows : List Record) → row_at key (map unplaced rows) ≡ option_map unplaced (row_at key rows)
flat_at key [] = refl
flat_at key (r ∷ rs) = ap (λ (q : Key). cond (is_eq (key_cmp q key)) (Some (unplaced r)) (row_at key (map unplaced rs))) (flat_key r) ∙ go (is_at key r) (flat_at key rs)
  where
    go : (b : Bool) → row_at key (map unplaced rs) ≡ option_map unplaced (row_at key rs)
        → cond b (Some (unplaced r)) (row_at key (map unplaced rs)) ≡ option_map unplaced (cond b (Some r) (row_at key rs))
    go true more = refl
    go false more = more

-- a row is of the change that made its revision
abbrev change_in : Record → ℕ
change_in (records.Rev r) = r.change
change_in _ = 0

of_change : (n m : ℕ) (v : Revision) (r : Record) → unplaced r ≡ rev_record m v → is_of_change n r ≡ made_by n v
of_change n m v (records.Rev r) e = let change : r.change ≡ v.landing.change = ap change_in e in ap (λ (k : ℕ). k == n) change
of_change n m v _ e = absurd cc

above_key : (p q : List ℕ) (m k : ℕ) → path_cmp p q ≡ Less → key_cmp (keys.Rev (printed q) k) (keys.Rev (printed p) m) ≡ Greater
above_key p q m k e = let greater : path_cmp q p ≡ Greater = path_order.antisymm q p ∙ ap ordering_reverse e in rw greater refl

module _ (d : List Deed) (sound : IsSound d) (rows : List Record) (up : IsRising rows) (of : AllOfTable tables.Rev rows)
    (has : (key : Key) → key_table key ≡ tables.Rev → unplaced_at rows key ≡ record_of d key) where
  -- a file with a revision is submitted
  submitted_with : (p : List ℕ) → is_path p ≡ true → (k : ℕ) (v : Revision) → slice_get (revisions d p) k ≡ Some v → list_any (same p) (submitted d) ≡ true
  submitted_with p is k v e =
      ap (list_any (same p)) (sym (files_told Submitted (record { table = tables.Rev; rows = rows }) rows refl refl of up d sound has))
      ∙ in_listed Submitted (own_key Submitted) (each_row Submitted) (in_order Submitted) p is rows of
      ∙ sym (some_mapped unplaced (row_at (keys.Rev (printed p) 1) rows))
      ∙ ap (λ (o : Option Record). is_some o) (has (keys.Rev (printed p) 1) refl ∙ rev_row d p (prints_path p is) 1)
      ∙ some_mapped (rev_record 1) (revision d p 1) ∙ first_there (revisions d p) k v e

  module _ (n : ℕ) where
    abbrev test : Record → Bool
    test row = is_of_change n row

    abbrev made : List Record
    made = map unplaced (filter test rows)

    abbrev told : List (List ℕ) → List Record
    told ps = map numbered_record (filter_map (made_in d n) ps)

    abbrev has_made : List ℕ → Bool
    has_made path = list_any (made_by n) (revisions d path)

    -- the key of the revision that the change made of a file
    made_key : (p : List ℕ) → is_path p ≡ true → (m : ℕ) (v : Revision) → revision d p m ≡ Some v → key_of (rev_record m v) ≡ keys.Rev (printed p) m
    made_key p is m v e =
        go (row_at (keys.Rev (printed p) m) rows) refl (has (keys.Rev (printed p) m) refl ∙ rev_row d p (prints_path p is) m ∙ ap (option_map (rev_record m)) e)
      where
        go : (o : Option Record) → row_at (keys.Rev (printed p) m) rows ≡ o → option_map unplaced o ≡ Some (rev_record m v) → key_of (rev_record m v) ≡ keys.Rev (printed p) m
        go None f k = absurd cc
        go (Some r) f k = ap key_of (sym (one_row (unplaced r) (rev_record m v) k)) ∙ flat_key r ∙ key_found (keys.Rev (printed p) m) rows r f

    key_is : (p : List ℕ) → is_path p ≡ true → (x : Numbered) → made_in d n p ≡ Some x → key_of (numbered_record x) ≡ keys.Rev (printed p) x.number
    key_is p is x e = made_key p is x.number x.made (made_found d n p x e).0

    -- what is told rises
    told_above : (p : List ℕ) (m : ℕ) (ps : List (List ℕ)) → Below p ps → Rise ps → AllAbove (keys.Rev (printed p) m) (told ps)
    told_above p m [] below rise = tt
    told_above p m (q ∷ qs) below rise = go (made_in d n q) refl (told_above p m qs below.1 rise.2)
      where
        go : (o : Option Numbered) → made_in d n q ≡ o → AllAbove (keys.Rev (printed p) m) (told qs)
            → AllAbove (keys.Rev (printed p) m) (map numbered_record (cons_option o (filter_map (made_in d n) qs)))
        go None e more = more
        go (Some x) e more = (ap (λ (k : Key). key_cmp k (keys.Rev (printed p) m)) (key_is q rise.0 x e) ∙ above_key p q m x.number below.0, more)

    told_rise : (ps : List (List ℕ)) → Rise ps → IsRising (told ps)
    told_rise [] rise = tt
    told_rise (q ∷ qs) rise = go (made_in d n q) refl (told_rise qs rise.2)
      where
        go : (o : Option Numbered) → made_in d n q ≡ o → IsRising (told qs) → IsRising (map numbered_record (cons_option o (filter_map (made_in d n) qs)))
        go None e more = more
        go (Some x) e more = (subst (λ (k : Key). AllAbove k (told qs)) (sym (key_is q rise.0 x e)) (told_above q x.number qs rise.1 rise.2), more)

    told_of : (xs : List Numbered) → AllOfTable tables.Rev (map numbered_record xs)
    told_of [] = tt
    told_of (x ∷ xs) = (refl, told_of xs)

    -- what the change made of a file is told at its key
    told_at : (p : List ℕ) → is_path p ≡ true → (x : Numbered) → made_in d n p ≡ Some x → (ps : List (List ℕ)) → Rise ps → list_any (same p) ps ≡ true
        → row_at (keys.Rev (printed p) x.number) (told ps) ≡ Some (numbered_record x)
    told_at p is x e [] rise there = absurd (false≢true there)
    told_at p is x e (q ∷ qs) rise there = go (same p q) refl (made_in d n q) refl there (λ f. told_at p is x e qs rise.2 f)
      where
        go : (b : Bool) → same p q ≡ b → (o : Option Numbered) → made_in d n q ≡ o → (b || list_any (same p) qs) ≡ true
            → (list_any (same p) qs ≡ true → row_at (keys.Rev (printed p) x.number) (told qs) ≡ Some (numbered_record x))
            → row_at (keys.Rev (printed p) x.number) (map numbered_record (cons_option o (filter_map (made_in d n) qs))) ≡ Some (numbered_record x)
        go true s o f h more =
            let one : o ≡ Some x = sym f ∙ ap (made_in d n) (sym (same-is p q s)) ∙ e in
            ap (λ (y : Option Numbered). row_at (keys.Rev (printed p) x.number) (map numbered_record (cons_option y (filter_map (made_in d n) qs)))) one
            ∙ here (keys.Rev (printed p) x.number) (numbered_record x) (told qs)
            (ap (λ (k : Key). key_cmp k (keys.Rev (printed p) x.number)) (key_is p is x e) ∙ itself (keys.Rev (printed p) x.number))
        go false s None f h more = more h
        go false s (Some y) f h more = skip (is_at (keys.Rev (printed p) x.number) (numbered_record y)) refl
          where
            skip : (b : Bool) → is_at (keys.Rev (printed p) x.number) (numbered_record y) ≡ b
                → cond b (Some (numbered_record y)) (row_at (keys.Rev (printed p) x.number) (told qs)) ≡ Some (numbered_record x)
            skip false k = more h
            skip true k =
                let keys_same : keys.Rev (printed q) y.number ≡ keys.Rev (printed p) x.number =
                sym (key_is q rise.0 y f) ∙ at-is (key_of (numbered_record y)) (keys.Rev (printed p) x.number) k in
                let text : printed q ≡ printed p = cc in
                let read : Ok q ≡ Ok p = sym (prints_path q rise.0) ∙ ap path_of text ∙ prints_path p is in
                let one : q ≡ p = cc in
                absurd (false≢true (sym s ∙ ap (same p) one ∙ same-self p))

    -- and so it is made
    made_there : (p : List ℕ) → is_path p ≡ true → (x : Numbered) → made_in d n p ≡ Some x → row_at (keys.Rev (printed p) x.number) made ≡ Some (numbered_record x)
    made_there p is x e =
        let found = made_found d n p x e in
        let key : Key = keys.Rev (printed p) x.number in
        flat_at key (filter test rows) ∙ ap (option_map unplaced) (kept_at test key rows up)
        ∙ go found.1 (row_at key rows) (has key refl ∙ rev_row d p (prints_path p is) x.number ∙ ap (option_map (rev_record x.number)) found.0)
      where
        go : made_by n x.made ≡ true → (o : Option Record) → option_map unplaced o ≡ Some (numbered_record x)
            → option_map unplaced (option_and_then (λ r. pass test (test r) r) o) ≡ Some (numbered_record x)
        go by None h = absurd cc
        go by (Some r) h =
            ap (λ (b : Bool). option_map unplaced (pass test b r)) (of_change n x.number x.made r (one_row (unplaced r) (numbered_record x) h) ∙ by) ∙ h

    to_told : (key : Key) → key_table key ≡ tables.Rev → (r : Record) → row_at key made ≡ Some r → row_at key (told (submitted d)) ≡ Some r
    to_told (keys.Rev text m) k r e =
        go (row_at (keys.Rev text m) rows) (has (keys.Rev text m) refl)
        (sym (flat_at (keys.Rev text m) (filter test rows) ∙ ap (option_map unplaced) (kept_at test (keys.Rev text m) rows up)) ∙ e)
      where
        stands : (y : Record) → test y ≡ true → (read : Result (List ℕ) PathFault) → path_of text ≡ read
            → Some (unplaced y) ≡ (elim read as (λ _. Option Record) [ Err fault ↦ None | Ok p ↦ if same (printed p) text then option_map (rev_record m) (revision d p m) else None ])
            → row_at (keys.Rev text m) (told (submitted d)) ≡ Some (unplaced y)
        stands y by (Err fault) f h = absurd cc
        stands y by (Ok p) f h = own (same (printed p) text) refl h
          where
            at : (number : ℕ) → m ≡ number → (o : Option Revision) → revision d p number ≡ o → same (printed p) text ≡ true → Some (unplaced y) ≡ option_map (rev_record number) o
                → row_at (keys.Rev text m) (told (submitted d)) ≡ Some (unplaced y)
            at number u None g s i = absurd cc
            at zero u (Some v) g s i = absurd cc
            at (suc j) u (Some v) g s i =
                let is : is_path p ≡ true = path_is text p f s in
                let row : unplaced y ≡ rev_record (suc j) v = one_row (unplaced y) (rev_record (suc j) v) i in
                let one = made_once d p (prints_path p is) sound n j v g (sym (of_change n (suc j) v y row) ∙ by) in
                (λ z. row_at (keys.Rev (sym (same-is (printed p) text s) z) (u z)) (told (submitted d)))
                ∙ told_at p is (record { number = suc j; made = v }) one (submitted d) (files_rise Submitted d sound) (submitted_with p is j v g) ∙ ap (λ (t : Record). Some t) (sym row)

            own : (b : Bool) → same (printed p) text ≡ b → Some (unplaced y) ≡ (if b then option_map (rev_record m) (revision d p m) else None)
                → row_at (keys.Rev text m) (told (submitted d)) ≡ Some (unplaced y)
            own true s i = at m refl (revision d p m) refl s i
            own false s i = absurd cc

        go : (o : Option Record) → option_map unplaced o ≡ record_of d (keys.Rev text m) → option_map unplaced (option_and_then (λ y. pass test (test y) y) o) ≡ Some r
            → row_at (keys.Rev text m) (told (submitted d)) ≡ Some r
        go None f h = absurd cc
        go (Some y) f h = by (test y) refl h
          where
            by : (b : Bool) → test y ≡ b → option_map unplaced (pass test b y) ≡ Some r → row_at (keys.Rev text m) (told (submitted d)) ≡ Some r
            by false g i = absurd cc
            by true g i = stands y g (path_of text) refl f ∙ i
    to_told _ k r e = absurd cc

    from_told : (key : Key) (ps : List (List ℕ)) → Rise ps → (s : Record) → row_at key (told ps) ≡ Some s → row_at key made ≡ Some s
    from_told key [] rise s e = absurd cc
    from_told key (q ∷ qs) rise s e = go (made_in d n q) refl e (λ f. from_told key qs rise.2 s f)
      where
        go : (o : Option Numbered) → made_in d n q ≡ o → row_at key (map numbered_record (cons_option o (filter_map (made_in d n) qs))) ≡ Some s
            → (row_at key (told qs) ≡ Some s → row_at key made ≡ Some s) → row_at key made ≡ Some s
        go None f h more = more h
        go (Some x) f h more = at (is_at key (numbered_record x)) refl h
          where
            at : (b : Bool) → is_at key (numbered_record x) ≡ b → cond b (Some (numbered_record x)) (row_at key (told qs)) ≡ Some s → row_at key made ≡ Some s
            at false k i = more i
            at true k i =
                ap (λ (z : Key). row_at z made) (sym (at-is (key_of (numbered_record x)) key k) ∙ key_is q rise.0 x f) ∙ made_there q rise.0 x f ∙ i

    -- the rows that the change made are those that the depot tells
    pub made_rows : made ≡ told (submitted d)
    made_rows =
        rows_alike tables.Rev made (told (submitted d)) (flat_rise (filter test rows) (kept_rise test rows up)) (told_rise (submitted d) (files_rise Submitted d sound))
        (flat_of tables.Rev (filter test rows) (kept_of test tables.Rev rows of)) (told_of (filter_map (made_in d n) (submitted d)))
        (λ key k. each key k (row_at key made) refl (row_at key (told (submitted d))) refl)
      where
        each : (key : Key) → key_table key ≡ tables.Rev → (a : Option Record) → row_at key made ≡ a → (b : Option Record) → row_at key (told (submitted d)) ≡ b → a ≡ b
        each key k (Some r) e b f = sym (to_told key k r e) ∙ f
        each key k None e None f = refl
        each key k None e (Some s) f = absurd (let h : None ≡ Some s = sym e ∙ from_told key (submitted d) (files_rise Submitted d sound) s f in cc)

    -- the path of a row is that of the file
    pub text_made : (p : List ℕ) → is_path p ≡ true → (x : Numbered) → made_in d n p ≡ Some x → printed x.made.entry.path ≡ printed p
    text_made p is x e = let key = key_is p is x e in cc

    flat_paths : (xs : List Record) → flat_map path_revised (map unplaced xs) ≡ flat_map path_revised xs
    flat_paths [] = refl
    flat_paths (records.Rev r ∷ xs) = ap (λ (l : List (List ℕ)). path_in_text r.path ++ l) (flat_paths xs)
    flat_paths (_ ∷ xs) = flat_paths xs

    told_paths : (ps : List (List ℕ)) → Rise ps → flat_map path_revised (told ps) ≡ filter has_made ps
    told_paths [] rise = refl
    told_paths (q ∷ qs) rise = go (made_in d n q) refl (has_made q) (some_is n 1 (revisions d q)) (told_paths qs rise.2)
      where
        go : (o : Option Numbered) → made_in d n q ≡ o → (h : Bool) → is_some (made_in d n q) ≡ h → flat_map path_revised (told qs) ≡ filter has_made qs
            → flat_map path_revised (map numbered_record (cons_option o (filter_map (made_in d n) qs))) ≡ cond h (q ∷ filter has_made qs) (filter has_made qs)
        go None f false e more = more
        go None f true e more = absurd (false≢true (ap is_some (sym f) ∙ e))
        go (Some x) f false e more = absurd (false≢true (sym e ∙ ap is_some f))
        go (Some x) f true e more = (λ i. path_in_text (text_made q rise.0 x f i) ++ more i) ∙ ap (λ (l : List (List ℕ)). l ++ filter has_made qs) (own_path q rise.0)

    -- and so the paths of these rows are the change's files
    pub paths_told : flat_map path_revised (filter test rows) ≡ files_of_change d n
    paths_told = sym (flat_paths (filter test rows)) ∙ ap (flat_map path_revised) made_rows ∙ told_paths (submitted d) (files_rise Submitted d sound)
