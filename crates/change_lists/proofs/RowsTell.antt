-- The rows of the revisions that a change made of files that a caller may list are those of the depot.
use Rattle.std.proofs.Common.{◌≡◌, ℕ, Bool, true, false, cond, List, [], ◌∷◌, Option, Some, None, Ok, Err, refl, sym, ap, ◌∙◌}
use Rattle.std.specs.Prelude.{◌||◌, filter, filter_map, if◌then◌else◌, is_some, map}
use Rattle.std.specs.List.{cons_option, list_any}
use Rattle.std.proofs.lemmas.Bool.{false≢true}
use Rattle.depot_rows.specs.depot_path.Path.{is_path, path_of, printed}
use Rattle.depot_rows.proofs.depot_path.Paths.{prints_path}
use Rattle.depot_rows.specs.protect_table.Rights.{may}
use Rattle.depot_rows.specs.db_records.Key.{key_table}
use Rattle.depot_rows.specs.db_records.declared.key.Key.{Key}
use Rattle.depot_rows.specs.db_records.declared.record.Record.{Record}
use Rattle.depot_rows.specs.db_records.declared.record.Record.TheVariants as records
use Rattle.depot_rows.specs.db_records.declared.table.TableId.TheVariants as tables
use Rattle.depot_rows.specs.table_store.Marks.{is_of_change}
use Rattle.depot_rows.specs.table_store.Rows.{AllOfTable, IsRising}
use Rattle.depot_rows.specs.depot_model.declared.request.Caller.{Caller}
use Rattle.depot_rows.specs.depot_model.Arguments.{submitted}
use Rattle.depot_rows.specs.depot_model.Asking.{may_list}
use Rattle.depot_rows.specs.depot_model.Choice.{made_by}
use Rattle.depot_rows.specs.depot_model.Deeds.{Deed}
use Rattle.depot_rows.specs.depot_model.Records.{record_of, unplaced}
use Rattle.depot_rows.specs.depot_model.Revisions.{revisions}
use Rattle.depot_rows.specs.depot_model.Rules.{IsSound}
use Rattle.depot_rows.specs.depot_model.Steps.Changes.{is_listable}
use Rattle.depot_rows.specs.depot_model.Steps.History.{landed_files, made_in}
use Rattle.depot_rows.specs.depot_model.Steps.Listing.{Numbered}
use Rattle.depot_rows.specs.Standing.{unplaced_at}
use Rattle.revision_reads.specs.History.{numbered_record, seen}
use Rattle.named_files.specs.Asked.{IsAsker}
use Rattle.named_files.specs.declared.asker.Asker.{Asker}
use Rattle.named_files.specs.declared.listing.Listing.TheVariants.{Submitted}
use Rattle.depot_rows.specs.Rising.{Rise}
use Rattle.named_files.proofs.MadeOnce.{some_is}
use Rattle.named_files.proofs.RowsMade.{made_rows, text_made}
use Rattle.named_files.proofs.Told.{files_rise}
use Rattle.change_lists.specs.Files.{is_listable_row, listable_in, may_in_text, rows_made}
use Rattle.change_lists.proofs.Shown.{may_is}

some_if : {A : Type 0} (x : A) (b : Bool) → is_some (if b then Some x else None) ≡ b
some_if x true = refl
some_if x false = refl

may_read : (asker : Asker) (text p : List ℕ) → path_of text ≡ Ok p → may_in_text asker text ≡ may asker.protects asker.who p 1
may_read asker text p read = λ i. elim (read i) as (λ _. Bool) [ Err fault ↦ false | Ok path ↦ may asker.protects asker.who path 1 ]

module _ (d : List Deed) (sound : IsSound d) (rows : List Record) (up : IsRising rows) (of : AllOfTable tables.Rev rows)
    (has : (key : Key) → key_table key ≡ tables.Rev → unplaced_at rows key ≡ record_of d key) (n : ℕ) where
  abbrev told : List (List ℕ) → List Record
  told ps = map numbered_record (filter_map (made_in d n) ps)

  abbrev has_made : List ℕ → Bool
  has_made path = list_any (made_by n) (revisions d path)

  module _ (caller : Caller) (asker : Asker) (asked : IsAsker d caller asker) where
    seen_rows : (xs : List Record) → map seen (filter_map (listable_in asker) xs) ≡ filter (is_listable_row asker) (map unplaced xs)
    seen_rows [] = refl
    seen_rows (records.Rev r ∷ xs) = go (may_in_text asker r.path) (seen_rows xs)
      where
        go : (b : Bool) → map seen (filter_map (listable_in asker) xs) ≡ filter (is_listable_row asker) (map unplaced xs)
            → map seen (cons_option (if b then Some r else None) (filter_map (listable_in asker) xs))
            ≡ cond (is_some (if b then Some (record r { at = 0 }) else None)) (unplaced (records.Rev r) ∷ filter (is_listable_row asker) (map unplaced xs)) (filter (is_listable_row asker) (map unplaced xs))
        go true more = ap (λ (l : List Record). seen r ∷ l) more
        go false more = more
    seen_rows (_ ∷ xs) = seen_rows xs

    any_seen : (xs : List Record) → list_any (is_listable_row asker) xs ≡ list_any (is_listable_row asker) (map unplaced xs)
    any_seen [] = refl
    any_seen (records.Rev r ∷ xs) = go (may_in_text asker r.path) (any_seen xs)
      where
        go : (b : Bool) → list_any (is_listable_row asker) xs ≡ list_any (is_listable_row asker) (map unplaced xs)
            → (is_some (if b then Some r else None) || list_any (is_listable_row asker) xs)
            ≡ (is_some (if b then Some (record r { at = 0 }) else None) || list_any (is_listable_row asker) (map unplaced xs))
        go true more = refl
        go false more = more
    any_seen (_ ∷ xs) = any_seen xs

    -- the row of a file is listable where the caller may list the file
    listable_made : (p : List ℕ) → is_path p ≡ true → (x : Numbered) → made_in d n p ≡ Some x → is_listable_row asker (numbered_record x) ≡ may_list d caller p
    listable_made p is x e =
        some_if _ (may_in_text asker (printed x.made.entry.path)) ∙ ap (may_in_text asker) (text_made d sound rows up of has n p is x e) ∙ may_read asker (printed p) p (prints_path p is) ∙ may_is d caller asker asked p

    abbrev kept : List (List ℕ) → List (List ℕ)
    kept ps = filter (may_list d caller) (filter has_made ps)

    chosen : (ps : List (List ℕ)) → Rise ps → filter (is_listable_row asker) (told ps) ≡ map numbered_record (filter_map (made_in d n) (kept ps))
    chosen [] rise = refl
    chosen (q ∷ qs) rise = go (made_in d n q) refl (has_made q) (some_is n 1 (revisions d q)) (may_list d caller q) refl (chosen qs rise.2)
      where
        go : (o : Option Numbered) → made_in d n q ≡ o → (h : Bool) → is_some (made_in d n q) ≡ h → (m : Bool) → may_list d caller q ≡ m
            → filter (is_listable_row asker) (told qs) ≡ map numbered_record (filter_map (made_in d n) (kept qs))
            → filter (is_listable_row asker) (map numbered_record (cons_option o (filter_map (made_in d n) qs)))
            ≡ map numbered_record (filter_map (made_in d n) (filter (may_list d caller) (cond h (q ∷ filter has_made qs) (filter has_made qs))))
        go None f false e m g more = more
        go None f true e m g more = absurd (false≢true (ap is_some (sym f) ∙ e))
        go (Some x) f false e m g more = absurd (false≢true (sym e ∙ ap is_some f))
        go (Some x) f true e m g more = by m g
          where
            by : (m : Bool) → may_list d caller q ≡ m
                → filter (is_listable_row asker) (numbered_record x ∷ told qs) ≡ map numbered_record (filter_map (made_in d n) (cond (may_list d caller q) (q ∷ kept qs) (kept qs)))
            by true g =
                ap (λ (b : Bool). cond b (numbered_record x ∷ filter (is_listable_row asker) (told qs)) (filter (is_listable_row asker) (told qs))) (listable_made q rise.0 x f ∙ g)
                ∙ ap (λ (l : List Record). numbered_record x ∷ l) more
                ∙ sym (ap (λ (b : Bool). map numbered_record (filter_map (made_in d n) (cond b (q ∷ kept qs) (kept qs)))) g
                ∙ ap (λ (y : Option Numbered). map numbered_record (cons_option y (filter_map (made_in d n) (kept qs)))) f)
            by false g =
                ap (λ (b : Bool). cond b (numbered_record x ∷ filter (is_listable_row asker) (told qs)) (filter (is_listable_row asker) (told qs))) (listable_made q rise.0 x f ∙ g)
                ∙ more ∙ sym (ap (λ (b : Bool). map numbered_record (filter_map (made_in d n) (cond b (q ∷ kept qs) (kept qs)))) g)

    any_chosen : (ps : List (List ℕ)) → Rise ps → list_any (is_listable_row asker) (told ps) ≡ list_any (may_list d caller) (filter has_made ps)
    any_chosen [] rise = refl
    any_chosen (q ∷ qs) rise = go (made_in d n q) refl (has_made q) (some_is n 1 (revisions d q)) (any_chosen qs rise.2)
      where
        go : (o : Option Numbered) → made_in d n q ≡ o → (h : Bool) → is_some (made_in d n q) ≡ h
            → list_any (is_listable_row asker) (told qs) ≡ list_any (may_list d caller) (filter has_made qs)
            → list_any (is_listable_row asker) (map numbered_record (cons_option o (filter_map (made_in d n) qs)))
            ≡ list_any (may_list d caller) (cond h (q ∷ filter has_made qs) (filter has_made qs))
        go None f false e more = more
        go None f true e more = absurd (false≢true (ap is_some (sym f) ∙ e))
        go (Some x) f false e more = absurd (false≢true (sym e ∙ ap is_some f))
        go (Some x) f true e more = λ i. listable_made q rise.0 x f i || more i

    pub made_told : map seen (filter_map (listable_in asker) (rows_made n rows)) ≡ map numbered_record (landed_files d caller n)
    made_told = seen_rows (filter (is_of_change n) rows) ∙ ap (filter (is_listable_row asker)) (made_rows d sound rows up of has n) ∙ chosen (submitted d) (files_rise Submitted d sound)

    pub listed_told : list_any (is_listable_row asker) (rows_made n rows) ≡ is_listable d caller n
    listed_told = any_seen (filter (is_of_change n) rows) ∙ ap (list_any (is_listable_row asker)) (made_rows d sound rows up of has n) ∙ any_chosen (submitted d) (files_rise Submitted d sound)
