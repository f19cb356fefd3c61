-- The rows of changes, by their records and the greatest first, are those of the model.
use Rattle.std.proofs.Common.{◌≡◌, ℕ, zero, suc, ◌≤◌, Bool, true, false, List, [], ◌∷◌, ◌++◌, Option, Some, None, refl, sym, ap, ◌∙◌, subst, arith, append_assoc, append-nil, drop, get_or, length, ◌<◌}
use Rattle.std.specs.Prelude.{IsSome, ◌-◌, codes, nat_le, not, ◌==◌, ◌&&◌, ◌||◌, filter, filter_map, flat_map, if◌then◌else◌, map, option_map, take}
use Rattle.std.specs.List.{cons_option, list_any}
use Rattle.std.specs.Option.{option_or, option_to_list}
use Rattle.std.proofs.lemmas.Bool.{false≢true, true≢false}
use Rattle.std.proofs.lemmas.Bool.Decides.{nat_tests}
use Rattle.std.proofs.lemmas.List.Folds.{list_any-append}
use Rattle.depot_rows.specs.depot_path.Bytes.{same}
use Rattle.depot_rows.specs.db_records.Key.{key_table}
use Rattle.depot_rows.specs.db_records.declared.key.Key.{Key}
use Rattle.depot_rows.specs.db_records.declared.key.Key.TheVariants as keys
use Rattle.depot_rows.specs.db_records.declared.record.Record.{Record}
use Rattle.depot_rows.specs.db_records.declared.record.Record.TheVariants.{Change}
use Rattle.depot_rows.specs.db_records.declared.rows.ChangeRecord.{ChangeRecord}
use Rattle.depot_rows.specs.db_records.declared.table.TableId.TheVariants as tables
use Rattle.depot_rows.specs.table_store.Rows.{row_at}
use Rattle.depot_rows.specs.Standing.{unplaced_at}
use Rattle.depot_rows.specs.depot_model.Rules.{IsSound}
use Rattle.depot_rows.specs.depot_model.declared.reply.Row.{Row}
use Rattle.depot_rows.specs.depot_model.declared.request.Caller.{Caller}
use Rattle.depot_rows.specs.depot_model.declared.command.FileArgument.{FileArgument}
use Rattle.depot_rows.specs.depot_model.declared.refusal.Refusal.TheVariants.{NoSuchFile}
use Rattle.depot_rows.specs.depot_path.Fit.{fits}
use Rattle.depot_rows.specs.depot_model.Arguments.{fits_at, in_client_syntax, is_in, named, names, not_in, submitted}
use Rattle.depot_rows.specs.depot_model.Range.{in_range}
use Rattle.depot_rows.specs.depot_model.Refusals.{refusal_row}
use Rattle.depot_rows.specs.depot_model.Asking.{may_list}
use Rattle.depot_rows.specs.depot_model.Choice.{made_by, shown}
use Rattle.depot_rows.specs.depot_model.Deeds.{Deed, Landing, Pending}
use Rattle.depot_rows.specs.depot_model.Numbers.{landing, pending}
use Rattle.depot_rows.specs.depot_model.Records.{change_record, landed_record, pending_record, record_of, unplaced}
use Rattle.depot_rows.specs.depot_model.Revisions.{Revision, revision, revisions}
use Rattle.depot_rows.specs.depot_model.Steps.Changes.{Listed, at_most, change_at, change_row, is_listable, is_made, listed, listed_landing, listed_pending, made_of, made_over, missing, numbers, passes}
use Rattle.reply_rows.proofs.Bare.{AreBare}
use Rattle.file_steps.proofs.Spelling.{AreAlike, left_alike}
use Rattle.opening_reads.proofs.Onwards.{all_but_first}
use Rattle.change_lists.specs.Listed.{asked_at, asked_of, changes_listed, is_asked, is_pending, is_pending_record, less_by, listed_at, lists_one, made_in_file, row_told, rows_asked}
use Rattle.change_lists.specs.Numbers.{Falls, is_among}
use Rattle.change_lists.proofs.Falling.{alike_among, down, given_among, given_numbers}
use Rattle.named_files.proofs.RowsMade.{made_at}

map_take : {A B : Type 0} (f : A → B) (n : ℕ) (xs : List A) → map f (take n xs) ≡ take n (map f xs)
map_take f zero xs = refl
map_take f (suc n) [] = refl
map_take f (suc n) (x ∷ xs) = ap (λ l. f x ∷ l) (map_take f n xs)

pub map_most : {A B : Type 0} (f : A → B) (most : Option ℕ) (xs : List A) → map f (at_most most xs) ≡ at_most most (map f xs)
map_most f None xs = refl
map_most f (Some n) xs = map_take f n xs

any_both : (f g : List ℕ → Bool) (xs : List (List ℕ)) → list_any f (filter g xs) ≡ list_any (λ x. f x && g x) xs
any_both f g [] = refl
any_both f g (x ∷ xs) = go (g x) (any_both f g xs)
  where
    on : (a c : Bool) → (a || c) ≡ ((a && true) || c)
    on true c = refl
    on false c = refl

    off : (a c : Bool) → c ≡ ((a && false) || c)
    off true c = refl
    off false c = refl

    go : (b : Bool) → list_any f (filter g xs) ≡ list_any (λ y. f y && g y) xs
        → list_any f (if b then x ∷ filter g xs else filter g xs) ≡ ((f x && b) || list_any (λ y. f y && g y) xs)
    go true more = ap (λ (c : Bool). f x || c) more ∙ on (f x) (list_any (λ y. f y && g y) xs)
    go false more = more ∙ off (f x) (list_any (λ y. f y && g y) xs)

module _ (d : List Deed) (caller : Caller) (status user client : Option (List ℕ)) where
  abbrev asked : Listed → Bool
  asked l = passes status l.status && passes user l.user && passes client l.client

  listable_is : (n : ℕ) → is_listable d caller n ≡ list_any (lists_one d caller n) (submitted d)
  listable_is n = any_both (may_list d caller) (λ path. list_any (made_by n) (revisions d path)) (submitted d)

  abbrev found_in : ℕ → Option Pending → Option Landing → Option Listed
  found_in n p l = option_or (option_map listed_pending p)
      (elim l as (λ _. Option Listed) [ None ↦ None | Some l ↦ if is_listable d caller n then Some (listed_landing l) else None ])

  abbrev record_in : Option Pending → Option Landing → Option Record
  record_in p l = elim p as (λ _. Option Record) [ Some x ↦ Some (pending_record x) | None ↦ option_map landed_record l ]

  -- the row of a change that is kept
  abbrev told_if : Bool → Option Listed → List Row
  told_if keep o = if keep then map change_row (filter asked (option_to_list o)) else []

  abbrev kept_told : (ℕ → Bool) → ℕ → List Row
  kept_told keep n = told_if (keep n) (listed d caller n)

  all_told : (keep : ℕ → Bool) (ns : List ℕ) → map change_row (filter asked (filter_map (listed d caller) (filter keep ns))) ≡ flat_map (kept_told keep) ns
  all_told keep [] = refl
  all_told keep (n ∷ ns) = chosen (keep n) (all_told keep ns)
    where
      by : (o : Option Listed) → map change_row (filter asked (filter_map (listed d caller) (filter keep ns))) ≡ flat_map (kept_told keep) ns
          → map change_row (filter asked (cons_option o (filter_map (listed d caller) (filter keep ns)))) ≡ told_if true o ++ flat_map (kept_told keep) ns
      by None more = more
      by (Some l) more = kept (asked l) more
        where
          kept : (b : Bool) → map change_row (filter asked (filter_map (listed d caller) (filter keep ns))) ≡ flat_map (kept_told keep) ns
              → map change_row (if b then l ∷ filter asked (filter_map (listed d caller) (filter keep ns)) else filter asked (filter_map (listed d caller) (filter keep ns)))
              ≡ map change_row (if b then l ∷ [] else []) ++ flat_map (kept_told keep) ns
          kept true more = λ i. change_row l ∷ more i
          kept false more = more

      chosen : (b : Bool) → map change_row (filter asked (filter_map (listed d caller) (filter keep ns))) ≡ flat_map (kept_told keep) ns
          → map change_row (filter asked (filter_map (listed d caller) (if b then n ∷ filter keep ns else filter keep ns))) ≡ told_if b (listed d caller n) ++ flat_map (kept_told keep) ns
      chosen false more = more
      chosen true more = by (listed d caller n) more

  one_told : (l : Listed) (b : Bool) → option_to_list (if b then Some (change_row l) else None) ≡ map change_row (if b then l ∷ [] else [])
  one_told l true = refl
  one_told l false = refl

  -- it is that of the change that is asked for, where the change is pending or may be listed
  told_alike : (n : ℕ) (p : Option Pending) (l : Option Landing) → (is_pending_record (record_in p l) || is_listable d caller n) ≡ true
      → option_to_list (asked_of status user client (record_in p l)) ≡ told_if true (found_in n p l)
  told_alike n (Some p) l e = one_told (listed_pending p) (asked (listed_pending p))
  told_alike n None (Some l) e = go (is_listable d caller n) e
    where
      go : (b : Bool) → b ≡ true
          → option_to_list (if asked (listed_landing l) then Some (change_row (listed_landing l)) else None) ≡ told_if true (if b then Some (listed_landing l) else None)
      go true e = one_told (listed_landing l) (asked (listed_landing l))
      go false e = absurd (false≢true e)
  told_alike n None None e = refl

  -- and else there is none
  none_told : (n : ℕ) (p : Option Pending) (l : Option Landing) → (is_pending_record (record_in p l) || is_listable d caller n) ≡ false → told_if true (found_in n p l) ≡ []
  none_told n (Some p) l e = absurd (true≢false e)
  none_told n None (Some l) e = go (is_listable d caller n) e
    where
      go : (b : Bool) → b ≡ false → told_if true (if b then Some (listed_landing l) else None) ≡ []
      go true e = absurd (true≢false e)
      go false e = refl
  none_told n None None e = refl

  nothing_there : (keep : Bool) (n : ℕ) (p : Option Pending) (l : Option Landing) → p ≡ None → l ≡ None → told_if keep (found_in n p l) ≡ []
  nothing_there true n p l e f = λ i. told_if true (found_in n (e i) (f i))
  nothing_there false n p l e f = refl

  or_with : (a b : Bool) → b ≡ true → (a || b) ≡ true
  or_with true b e = refl
  or_with false b e = e

  none_in : (n : ℕ) (p : Option Pending) (l : Option Landing) → record_in p l ≡ None → told_if true (found_in n p l) ≡ []
  none_in n (Some p) l e = absurd cc
  none_in n None (Some l) e = absurd cc
  none_in n None None e = refl

  -- ---- the row of a number's change

  pub none_listed : (n : ℕ) → change_record d n ≡ None → listed_at d caller status user client n ≡ []
  none_listed n e = none_in n (pending d n) (landing d n) e

  module _ (n : ℕ) (r : ChangeRecord) (is : Some (Change r) ≡ change_record d n) where
    abbrev is_shown : Bool
    is_shown = same r.status (codes "pending") || is_listable d caller n

    seen : (b : Bool) → b ≡ is_shown → (is_pending_record (record_in (pending d n) (landing d n)) || is_listable d caller n) ≡ b
    seen b e = ap (λ (o : Option Record). is_pending_record o || is_listable d caller n) (sym is) ∙ sym e

    asked_so : (b : Bool) → b ≡ is_asked status user client r → (if b then Some (row_told r) else None) ≡ asked_at d status user client n
    asked_so b e = ap (λ (b : Bool). if b then Some (row_told r) else None) e ∙ ap (asked_of status user client) is

    pub one_listed : true ≡ is_asked status user client r → true ≡ is_shown → row_told r ∷ [] ≡ listed_at d caller status user client n
    one_listed e f = ap (λ (o : Option Row). option_to_list o) (asked_so true e) ∙ told_alike n (pending d n) (landing d n) (seen true f)

    pub none_shown : false ≡ is_shown → [] ≡ listed_at d caller status user client n
    none_shown f = sym (none_told n (pending d n) (landing d n) (seen false f))

    pub none_asked : false ≡ is_asked status user client r → [] ≡ listed_at d caller status user client n
    none_asked e = go is_shown refl
      where
        go : (b : Bool) → b ≡ is_shown → [] ≡ listed_at d caller status user client n
        go true f = ap (λ (o : Option Row). option_to_list o) (asked_so false e) ∙ told_alike n (pending d n) (landing d n) (seen true f)
        go false f = none_shown f

  -- the numbers of a depot are all from the newest one in its rows down
  pub newest_down : (rows : List Record) → IsSound d → ((key : Key) → key_table key ≡ tables.Change → unplaced_at rows key ≡ record_of d key) → (newest : ℕ)
      → ((n : ℕ) → newest < n → n ≤ 4294967295 → row_at (keys.Change n) rows ≡ None)
      → flat_map (listed_at d caller status user client) (numbers d) ≡ flat_map (listed_at d caller status user client) (down (suc newest))
  newest_down rows sound has newest above =
      given_numbers (listed_at d caller status user client) d (suc newest) (λ m e f. nothing_there true m (pending d m) (landing d m) e f)
      (λ m h. none_listed m (go m h (nat_le m 4294967295) refl (change_record d m) refl))
    where
      fits : (m : ℕ) → nat_le m 4294967295 ≡ true → m ≤ 4294967295
      fits m e = grind (arith, nat_tests)

      beyond : (m : ℕ) → nat_le m 4294967295 ≡ false → 4294967295 < m
      beyond m e = grind (arith, nat_tests)

      go : (m : ℕ) → suc newest ≤ m → (b : Bool) → nat_le m 4294967295 ≡ b → (o : Option Record) → change_record d m ≡ o → change_record d m ≡ None
      go m h true e o f = sym (has (keys.Change m) refl) ∙ ap (option_map unplaced) (above m (omega (arith, h)) (fits m e))
      go m h false e None f = f
      go m h false e (Some r) f =
          let P : Option Record → Type 0 = λ x. IsSome x in
          let top = sound.rules.top_is m (subst P (sym f) refl) in
          let small = sound.rules.top_fits in
          let large = beyond m e in
          absurd (omega (arith, top, small, large))

  -- ---- the changes that arguments give

  module _ (made : List ℕ) (from : (n : ℕ) → is_among n made ≡ true → list_any (lists_one d caller n) (submitted d) ≡ true) where
    abbrev keeps : ℕ → Bool
    keeps n = is_among n made

    -- the change of a number that is given may be listed
    given_told : (n : ℕ) → is_among n made ≡ true → option_to_list (asked_at d status user client n) ≡ kept_told keeps n
    given_told n e =
        told_alike n (pending d n) (landing d n) (or_with (is_pending d n) (is_listable d caller n) (listable_is n ∙ from n e))
        ∙ ap (λ (b : Bool). told_if b (listed d caller n)) (sym e)

    numbers_told : (ns : List ℕ) → Falls ns → ((n : ℕ) → is_among n ns ≡ is_among n made) → flat_map (kept_told keeps) (numbers d) ≡ rows_asked d status user client ns
    numbers_told ns falls are =
        given_among (kept_told keeps) d ns falls (λ m e f. nothing_there (keeps m) m (pending d m) (landing d m) e f)
        (λ m e. ap (λ (b : Bool). told_if b (listed d caller m)) (sym (are m) ∙ e))
        ∙ sym (alike_among (λ n. option_to_list (asked_at d status user client n)) (kept_told keeps) ns (λ m e. given_told m (sym (are m) ∙ e)))

  -- ---- a change that arguments give may be listed

  chosen_one : (n : ℕ) (path : List ℕ) (revs : List ℕ) → is_among n (filter_map (change_at d path) revs) ≡ true → list_any (made_by n) (revisions d path) ≡ true
  chosen_one n path [] e = absurd (false≢true e)
  chosen_one n path (k ∷ ks) e = go (revision d path k) refl e (λ f. chosen_one n path ks f)
    where
      go : (o : Option Revision) → revision d path k ≡ o → is_among n (cons_option (option_map (λ (r : Revision). r.landing.change) o) (filter_map (change_at d path) ks)) ≡ true
          → (is_among n (filter_map (change_at d path) ks) ≡ true → list_any (made_by n) (revisions d path) ≡ true) → list_any (made_by n) (revisions d path) ≡ true
      go None f e more = more e
      go (Some r) f e more = here (r.landing.change == n) refl e
        where
          here : (b : Bool) → (r.landing.change == n) ≡ b → (b || is_among n (filter_map (change_at d path) ks)) ≡ true → list_any (made_by n) (revisions d path) ≡ true
          here true is e = made_at d n path k r f is
          here false is e = more e

  abbrev placed_at : FileArgument → List ℕ → Bool
  placed_at a path = if in_client_syntax caller.client a.spec.pattern then fits_at a.spec.pattern (shown d caller a.spec.wanted path) else fits a.spec.pattern path

  abbrev left_of : FileArgument → List (List ℕ) → List (List ℕ) → List (List ℕ)
  left_of a taken paths = not_in taken (filter (names false d caller a.spec) paths)

  abbrev its_changes : FileArgument → List ℕ → List ℕ
  its_changes a path = filter_map (change_at d path) (in_range d caller path a.spec.wanted)

  given_by : (n : ℕ) (a : FileArgument) (taken paths : List (List ℕ)) → is_among n (made_of d caller a (not_in taken (filter (names false d caller a.spec) paths))) ≡ true
      → list_any (lists_one d caller n) paths ≡ true
  given_by n a taken [] e = absurd (false≢true e)
  given_by n a taken (path ∷ paths) e = go (may_list d caller path) refl (λ f. given_by n a taken paths f)
    where
      go : (m : Bool) → may_list d caller path ≡ m → (is_among n (made_of d caller a (left_of a taken paths)) ≡ true → list_any (lists_one d caller n) paths ≡ true)
          → ((m && list_any (made_by n) (revisions d path)) || list_any (lists_one d caller n) paths) ≡ true
      go true is more = kept (placed_at a path) refl (subst (λ (b : Bool). is_among n (made_of d caller a (not_in taken (if b && (placed_at a path) then path ∷ filter (names false d caller a.spec) paths else filter (names false d caller a.spec) paths))) ≡ true) is e)
        where
          among : (l : List ℕ) → is_among n ((its_changes a path) ++ l) ≡ (is_among n (its_changes a path) || is_among n l)
          among l = list_any-append (λ (m : ℕ). m == n) (its_changes a path) l

          either : (a b c e : Bool) → (a ≡ true → c ≡ true) → (b ≡ true → e ≡ true) → (a || b) ≡ true → (c || e) ≡ true
          either true b c e f g h = ap (λ (x : Bool). x || e) (f refl)
          either false b c e f g h = or_with c e (g h)

          taken_or : (b : Bool) → is_among n (made_of d caller a (if not b then path ∷ (left_of a taken paths) else (left_of a taken paths))) ≡ true
              → (list_any (made_by n) (revisions d path) || list_any (lists_one d caller n) paths) ≡ true
          taken_or true f = or_with (list_any (made_by n) (revisions d path)) (list_any (lists_one d caller n) paths) (more f)
          taken_or false f =
              either (is_among n (its_changes a path)) (is_among n (made_of d caller a (left_of a taken paths))) (list_any (made_by n) (revisions d path)) (list_any (lists_one d caller n) paths)
              (λ g. chosen_one n path (in_range d caller path a.spec.wanted) g) more (sym (among (made_of d caller a (left_of a taken paths))) ∙ f)

          kept : (b : Bool) → (placed_at a path) ≡ b → is_among n (made_of d caller a (not_in taken (if b then path ∷ filter (names false d caller a.spec) paths else filter (names false d caller a.spec) paths))) ≡ true
              → (list_any (made_by n) (revisions d path) || list_any (lists_one d caller n) paths) ≡ true
          kept true k f = taken_or (is_in taken path) f
          kept false k f = or_with (list_any (made_by n) (revisions d path)) (list_any (lists_one d caller n) paths) (more f)
      go false is more = more (subst (λ (b : Bool). is_among n (made_of d caller a (not_in taken (if b && (placed_at a path) then path ∷ filter (names false d caller a.spec) paths else filter (names false d caller a.spec) paths))) ≡ true) is e)

  given_over : (n : ℕ) (taken : List (List ℕ)) (arguments : List FileArgument) → is_among n (made_over d caller taken arguments) ≡ true
      → list_any (lists_one d caller n) (submitted d) ≡ true
  given_over n taken [] e = absurd (false≢true e)
  given_over n taken (a ∷ arguments) e =
      let files = named false d caller (submitted d) a in
      let rest = made_over d caller (taken ++ files) arguments in
      one_of (is_among n (made_of d caller a (not_in taken files))) (is_among n rest) (λ f. given_by n a taken (submitted d) f) (λ f. given_over n (taken ++ files) arguments f)
      (sym (list_any-append (λ (m : ℕ). m == n) (made_of d caller a (not_in taken files)) rest) ∙ e)
    where
      one_of : (a b : Bool) → (a ≡ true → list_any (lists_one d caller n) (submitted d) ≡ true) → (b ≡ true → list_any (lists_one d caller n) (submitted d) ≡ true) → (a || b) ≡ true
          → list_any (lists_one d caller n) (submitted d) ≡ true
      one_of true b f g h = f refl
      one_of false b f g h = g h

  -- the rows of the numbers that arguments give are the model's, and so are those of all numbers where there are no arguments
  pub rows_are : (most : Option ℕ) (made : List ℕ) (arguments : List FileArgument) (ns : List ℕ) → (arguments ≡ [] → ⊥) → made ≡ made_over d caller [] arguments → Falls ns
      → ((n : ℕ) → is_among n ns ≡ is_among n made)
      → map change_row (changes_listed d caller most status user client arguments) ≡ at_most most (rows_asked d status user client ns)
  rows_are most made [] ns some are falls alike = absurd (some refl)
  rows_are most made (a ∷ arguments) ns some are falls alike =
      map_most change_row most (filter asked (filter_map (listed d caller) (filter (is_made d caller (a ∷ arguments)) (numbers d))))
      ∙ ap (λ (l : List Row). at_most most l)
      (ap (λ (ms : List ℕ). map change_row (filter asked (filter_map (listed d caller) (filter (λ n. is_among n ms) (numbers d))))) (sym are)
      ∙ all_told (λ n. is_among n made) (numbers d)
      ∙ numbers_told made (λ n e. given_over n [] (a ∷ arguments) (ap (is_among n) (sym are) ∙ e)) ns falls alike)

  pub all_are : (most : Option ℕ) → map change_row (changes_listed d caller most status user client []) ≡ at_most most (flat_map (listed_at d caller status user client) (numbers d))
  all_are most =
      map_most change_row most (filter asked (filter_map (listed d caller) (filter (λ n. true) (numbers d))))
      ∙ ap (λ (l : List Row). at_most most l) (all_told (λ n. true) (numbers d))

-- ---- rows one after another, as many as may come

pub most_none : {A : Type 0} (most : Option ℕ) → at_most {A = A} most [] ≡ []
most_none None = refl
most_none (Some zero) = refl
most_none (Some (suc n)) = refl

pub one_on : (rows more : List Row) (told : Option Row) (left : Option ℕ) → (left ≡ Some 0 → ⊥)
    → rows ++ at_most left (option_to_list told ++ more) ≡ (rows ++ option_to_list told) ++ at_most (less_by told left) more
one_on rows more None left some = ap (λ (l : List Row). l ++ at_most left more) (sym (append-nil rows))
one_on rows more (Some row) None some = sym (append_assoc rows (row ∷ []) more)
one_on rows more (Some row) (Some zero) some = absurd (some refl)
one_on rows more (Some row) (Some (suc n)) some =
    let fewer : n ≡ suc n - 1 = omega arith in
    ap (λ (k : ℕ). rows ++ row ∷ take k more) fewer ∙ sym (append_assoc rows (row ∷ []) (take (suc n - 1) more))

pub next_told : (f : ℕ → Option Row) (rows rows2 whole : List Row) (items : List ℕ) (n : ℕ) (told : Option Row) (left left2 : Option ℕ) → 1 ≤ length items → n ≡ get_or items 0 n
    → (left ≡ Some 0 → ⊥) → told ≡ f n → rows2 ≡ rows ++ option_to_list told → left2 ≡ less_by told left
    → rows ++ at_most left (flat_map (λ k. option_to_list (f k)) items) ≡ whole
    → rows2 ++ at_most left2 (flat_map (λ k. option_to_list (f k)) (take (length items - 1) (drop 1 items))) ≡ whole
next_told f rows rows2 whole [] n told left left2 there first some at is by so_far = absurd (omega arith)
next_told f rows rows2 whole (x ∷ items) n told left left2 there first some at is by so_far =
    let more = flat_map (λ k. option_to_list (f k)) items in
    ap (λ (l : List ℕ). rows2 ++ at_most left2 (flat_map (λ k. option_to_list (f k)) l)) (all_but_first x items)
    ∙ (λ i. is i ++ at_most (by i) more) ∙ sym (one_on rows more told left some)
    ∙ ap (λ (t : Option Row). rows ++ at_most left (option_to_list t ++ more)) (at ∙ ap f first) ∙ so_far

pub told_to_end : (f : ℕ → Option Row) (rows whole : List Row) (items : List ℕ) (left : Option ℕ) → length items < 1
    → rows ++ at_most left (flat_map (λ k. option_to_list (f k)) items) ≡ whole → rows ≡ whole
told_to_end f rows whole [] left few so_far = sym (append-nil rows) ∙ ap (λ (l : List Row). rows ++ l) (sym (most_none left)) ∙ so_far
told_to_end f rows whole (x ∷ items) left few so_far = absurd (omega arith)

pub told_in_full : (rows more whole : List Row) (left : Option ℕ) → left ≡ Some 0 → rows ++ at_most left more ≡ whole → rows ≡ whole
told_in_full rows more whole left full so_far = sym (append-nil rows) ∙ ap (λ (k : Option ℕ). rows ++ at_most k more) (sym full) ∙ so_far

rows_bare : (changes : List Listed) → AreBare (map change_row changes)
rows_bare [] = tt
rows_bare (l ∷ changes) = (refl, rows_bare changes)

both_bare : (one other : List Row) → AreBare one → AreBare other → AreBare (one ++ other)
both_bare [] other a b = b
both_bare (row ∷ one) other a b = (a.0, both_bare one other a.1 b)

missing_bare : (d : List Deed) (caller : Caller) (arguments : List FileArgument) → AreBare (flat_map (missing d caller) arguments)
missing_bare d caller [] = tt
missing_bare d caller (a ∷ arguments) = both_bare (missing d caller a) (flat_map (missing d caller) arguments) (go (length (named false d caller (submitted d) a) == 0)) (missing_bare d caller arguments)
  where
    go : (b : Bool) → AreBare (if b then refusal_row (NoSuchFile a.text) ∷ [] else [])
    go true = (refl, tt)
    go false = tt

pub all_bare : (d : List Deed) (caller : Caller) (arguments : List FileArgument) (changes : List Listed) → AreBare (flat_map (missing d caller) arguments ++ map change_row changes)
all_bare d caller arguments changes = both_bare (flat_map (missing d caller) arguments) (map change_row changes) (missing_bare d caller arguments) (rows_bare changes)

-- ---- what arguments give

pub each_given : {A B : Type 0} (f : A → Option B) (xs : List A) → flat_map (λ x. option_to_list (f x)) xs ≡ filter_map f xs
each_given f [] = refl
each_given f (x ∷ xs) = go (f x) (each_given f xs)
  where
    go : (o : Option _) → flat_map (λ y. option_to_list (f y)) xs ≡ filter_map f xs → option_to_list o ++ flat_map (λ y. option_to_list (f y)) xs ≡ cons_option o (filter_map f xs)
    go None more = more
    go (Some y) more = ap (λ l. y ∷ l) more

pub files_give : (d : List Deed) (caller : Caller) (a : FileArgument) (taken paths : List (List ℕ)) → flat_map (made_in_file d caller a taken) paths ≡ made_of d caller a (not_in taken paths)
files_give d caller a taken [] = refl
files_give d caller a taken (path ∷ paths) = go (is_in taken path) (files_give d caller a taken paths)
  where
    go : (b : Bool) → flat_map (made_in_file d caller a taken) paths ≡ made_of d caller a (not_in taken paths)
        → (if b then [] else flat_map (λ rev. option_to_list (change_at d path rev)) (in_range d caller path a.spec.wanted)) ++ flat_map (made_in_file d caller a taken) paths
        ≡ made_of d caller a (if not b then path ∷ not_in taken paths else not_in taken paths)
    go true more = more
    go false more = λ i. each_given (change_at d path) (in_range d caller path a.spec.wanted) i ++ more i

pub argument_gives : (d : List Deed) (caller : Caller) (was now : List ℕ) (taken earlier : List (List ℕ)) (a : FileArgument) (rest arguments : List FileArgument) → a ∷ rest ≡ arguments
    → AreAlike taken earlier → now ≡ was ++ made_of d caller a (not_in taken (named false d caller (submitted d) a))
    → now ++ made_over d caller (earlier ++ named false d caller (submitted d) a) rest ≡ was ++ made_over d caller earlier arguments
argument_gives d caller was now taken earlier a rest arguments are alike is =
    let files = named false d caller (submitted d) a in
    let later = made_over d caller (earlier ++ files) rest in
    ap (λ (l : List ℕ). l ++ later) (is ∙ ap (λ (l : List (List ℕ)). was ++ made_of d caller a l) (left_alike taken earlier files alike))
    ∙ append_assoc was (made_of d caller a (not_in earlier files)) later
    ∙ ap (λ (l : List FileArgument). was ++ made_over d caller earlier l) are
