-- The entries of a submitted change: the rows of revisions that it made.
use Rattle.std.proofs.Common.{◌≡◌, ◌≤◌, ◌<◌, ◌+◌, ◌⊎◌, ℕ, zero, suc, Bool, true, false, not, List, [], ◌∷◌, ◌++◌, map, Option, Some, None, inl, inr, refl, sym, ap, subst, ◌∙◌, arith}
use Rattle.std.specs.Prelude.{◌==◌, if◌then◌else◌, flat_map, is_some, nat_lt, IsSome}
use Rattle.std.specs.List.{list_all, list_any}
use Rattle.std.proofs.lemmas.Bool.Decides.{nat_tests}
use Rattle.std.proofs.lemmas.Bool.{and_from, and_parts}
use Rattle.depot_rows.specs.depot_path.Bytes.{same}
use Rattle.depot_rows.specs.depot_path.Path.{printed, is_path}
use Rattle.depot_rows.specs.db_records.declared.key.Key.{Key}
use Rattle.depot_rows.specs.db_records.declared.key.Key.TheVariants as keys
use Rattle.depot_rows.specs.db_records.declared.record.Record.{Record}
use Rattle.depot_rows.specs.db_records.declared.record.Record.TheVariants as records
use Rattle.depot_rows.specs.depot_model.Deeds as model
use Rattle.depot_rows.specs.depot_model.Records.{record_of}
use Rattle.depot_rows.specs.depot_model.Revisions.{head}
use Rattle.depot_rows.specs.depot_model.Rules.{Rows, HasRev, are_distinct, change_of, has_its_content, entry_paths, path_or_none}
use Rattle.depot_rows.specs.declared.deed.Action.{Action}
use Rattle.depot_rows.specs.declared.deed.Credit.{Credit}
use Rattle.depot_rows.specs.declared.deed.Entry.{Entry}
use Rattle.depot_rows.specs.Deed.{action_of, credit_of, IsStored, AreEntries}
use Rattle.depot_rows.specs.Effects.{rev_row, entry_path}
use Rattle.depot_rows.proofs.Entries.{In}
use Rattle.depot_rows.proofs.Keys.{same-is, number-is, number-self}
use Rattle.depot_facts.proofs.Revisions.{old_number, there_below}
use Rattle.depots_of_rows.specs.Telling.{Contents}
use Rattle.depots_of_rows.proofs.Given.{Given}
use Rattle.depots_of_rows.proofs.Revised.{RevAt, rev_at, from_one, Holds, holds, flat_is}
use Rattle.depots_of_rows.proofs.Credits.{IsGood, AllCredits, all_credits}
use Rattle.depots_of_rows.proofs.Words.{Spells, Moves, path_in, moved_in, action_in, word_of_action, either_true}

-- the entry of the model
abbrev pub model_of : Entry → Option (List ℕ) → model.Entry
model_of e content = record {
  path = e.path;
  action = action_of e.action;
  file_type = e.file_type;
  content = content;
  credits = map credit_of e.credits;
  moved = e.moved;
}

pub all_append : (test : List ℕ → Bool) (xs ys : List (List ℕ)) → list_all test xs ≡ true → list_all test ys ≡ true → list_all test (xs ++ ys) ≡ true
all_append test [] ys e f = f
all_append test (x ∷ xs) ys e f =
    and_from (test x) (list_all test (xs ++ ys)) (and_parts (test x) (list_all test xs) e).0 (all_append test xs ys (and_parts (test x) (list_all test xs) e).1 f)

any_in : (word : List ℕ) (words : List (List ℕ)) → list_any (same word) words ≡ true → In words word
any_in word [] e = absurd cc
any_in word (x ∷ xs) e = go (either_true (same word x) (list_any (same word) xs) e) (any_in word xs)
  where
    go : (same word x ≡ true) ⊎ (list_any (same word) xs ≡ true) → (list_any (same word) xs ≡ true → In xs word) → In (x ∷ xs) word
    go (inl h) later = inl (sym (same-is word x h))
    go (inr h) later = inr (later h)

module _ (rows : Rows) (contents : Contents) (g : Given rows contents) (ks : List Key) (listed : (q : Key) → IsSome (rows q) → In ks q) (c : ℕ) where
  -- an entry that becomes a row
  pub record EntryAt : Type 0 where
    pub entry : Entry
    pub content : Option (List ℕ)
    pub path : is_path entry.path ≡ true
    pub row_is : rows (keys.Rev (printed entry.path) entry.rev) ≡ Some (rev_row c entry)
    pub is_stored : IsStored entry.content content
    pub live_is : has_its_content (model_of entry content) ≡ true
    pub these : (x : List ℕ) → content ≡ Some x → x ≡ contents (printed entry.path) entry.rev
    pub moved : list_all is_path (path_or_none entry.moved) ≡ true
    pub good : (k : Credit) → In entry.credits k → IsGood rows contents g c entry.path entry.rev k
    pub credits : AllCredits rows contents g c entry.path entry.rev
    pub credits_are : entry.credits ≡ credits.credits

  abbrev pub text_of : EntryAt → List ℕ
  text_of e = printed (e.entry.path)

  pub made_in : (e : EntryAt) → change_of (rows (keys.Rev (text_of e) e.entry.rev)) ≡ c
  made_in e = ap change_of e.row_is

  pub there : (e : EntryAt) → HasRev rows (text_of e) e.entry.rev
  there e = ap is_some e.row_is

  pub entry_at : (text : List ℕ) (n : ℕ) (a : RevAt rows contents g text n) → a.row.change ≡ c → (e : EntryAt) × ((text_of e ≡ text) × (e.entry.rev ≡ n))
  entry_at text n a made = (
    record {
      entry = entry;
      content = held.content;
      path = spelled.is;
      row_is = ap (λ (t : List ℕ). rows (keys.Rev t n)) spells ∙ row_is;
      is_stored = held.is_stored;
      live_is = held.live_is;
      these = λ x e. held.these x e ∙ ap (λ (t : List ℕ). contents t n) (sym spells);
      moved = moved.paths;
      good = credits.good;
      credits = credits;
      credits_are = refl;
    },
    (spells, refl),
  )
    where
      spelled : Spells a.row.path
      spelled = path_in a.row.path a.rule.0

      action : (x : Action) × (word_of_action x ≡ a.row.action)
      action = action_in a.row.action a.rule.2

      moved : Moves a.row.moved
      moved = moved_in a.row.action a.row.moved a.rule.5

      held : Holds rows contents g text n a.row action.0
      held = holds rows contents g text n a action.0 action.1

      spells : printed spelled.path ≡ text
      spells = spelled.text_is ∙ a.path

      credits : AllCredits rows contents g c spelled.path n
      credits = all_credits rows contents g c spelled.path n ks listed

      entry : Entry
      entry = record { path = spelled.path; rev = n; action = action.0; file_type = a.row.file_type; content = held.stored; credits = credits.credits; moved = moved.moved }

      row_is : rows (keys.Rev text n) ≡ Some (rev_row c entry)
      row_is = flat_is rows contents g text n a ∙ (λ i. Some (records.Rev (record {
        path = sym spelled.text_is i;
        rev = a.rev i;
        change = made i;
        action = sym action.1 i;
        file_type = a.row.file_type;
        digest = sym held.digest_is i;
        length = sym held.length_is i;
        at = sym held.place_is i;
        moved = sym moved.text_is i;
      })))

  -- ---- all entries, each path once

  abbrev pub entries_of : List EntryAt → List Entry
  entries_of es = map (λ (e : EntryAt). e.entry) es

  abbrev pub models_of : List EntryAt → List model.Entry
  models_of es = map (λ (e : EntryAt). model_of e.entry e.content) es

  pub record Has (es : List EntryAt) (text : List ℕ) (n : ℕ) : Type 0 where
    pub at : EntryAt
    pub among : In es at
    pub text_is : text_of at ≡ text
    pub rev_is : at.entry.rev ≡ n

  pub record Entries (some : List Key) : Type 0 where
    pub list : List EntryAt
    pub distinct : are_distinct (map entry_path (entries_of list)) ≡ true
    pub all : (text : List ℕ) (n : ℕ) → In some (keys.Rev text n) → HasRev rows text n → change_of (rows (keys.Rev text n)) ≡ c → Has list text n

  -- two revisions of one path aren't made in one change
  one_rev : (text : List ℕ) (m n : ℕ) → HasRev rows text m → HasRev rows text n → change_of (rows (keys.Rev text m)) ≡ change_of (rows (keys.Rev text n)) → m ≡ n
  one_rev text m n low high e = go (nat_lt m n) refl (nat_lt n m) refl
    where
      less : (i j : ℕ) → nat_lt i j ≡ true → i < j
      less i j h = grind (arith, nat_tests)

      not_less : (i j : ℕ) → nat_lt i j ≡ false → j ≤ i
      not_less i j h = grind (arith, nat_tests)

      go : (x : Bool) → nat_lt m n ≡ x → (y : Bool) → nat_lt n m ≡ y → m ≡ n
      go true h y k = let up = g.keep.changes_rise text m n (less m n h) low high in absurd (omega (arith, up, e))
      go false h true k = let up = g.keep.changes_rise text n m (less n m k) high low in absurd (omega (arith, up, e))
      go false h false k = let a = not_less m n h in let b = not_less n m k in omega (arith, a, b)

  module _ (key : Key) (some : List Key) (rest : Entries some) where
    -- a key that is none of these revisions' leaves the entries
    passed : ((text : List ℕ) (n : ℕ) → key ≡ keys.Rev text n → HasRev rows text n → change_of (rows (keys.Rev text n)) ≡ c → Has rest.list text n) → Entries (key ∷ some)
    passed known = record { list = rest.list; distinct = rest.distinct; all = all }
      where
        all : (text : List ℕ) (n : ℕ) → In (key ∷ some) (keys.Rev text n) → HasRev rows text n → change_of (rows (keys.Rev text n)) ≡ c → Has rest.list text n
        all text n (inl e) has made = known text n e has made
        all text n (inr h) has made = rest.all text n h has made

    module _ (t : List ℕ) (m : ℕ) (is : key ≡ keys.Rev t m) (a : RevAt rows contents g t m) where
      abbrev has : HasRev rows t m
      has = ap is_some a.is

      known_path : (made : a.row.change ≡ c) (e : EntryAt) → In rest.list e → text_of e ≡ t → Entries (key ∷ some)
      known_path made e h one = passed (λ text n k _ _.
          let two : t ≡ text = let both_are : keys.Rev t m ≡ keys.Rev text n = sym is ∙ k in cc in
          let three : m ≡ n = let both_are : keys.Rev t m ≡ keys.Rev text n = sym is ∙ k in cc in
          let four : e.entry.rev ≡ m = one_rev t (e.entry.rev) m (subst (λ (x : List ℕ). HasRev rows x e.entry.rev) one (there e)) has
          (ap (λ (x : List ℕ). change_of (rows (keys.Rev x e.entry.rev))) (sym one) ∙ made_in e ∙ sym (ap change_of a.is ∙ made)) in
          record { at = e; among = h; text_is = one ∙ two; rev_is = four ∙ three })

      added : (e : EntryAt) → text_of e ≡ t → e.entry.rev ≡ m → list_any (same e.entry.path) (map entry_path (entries_of rest.list)) ≡ false → Entries (key ∷ some)
      added e one number apart = record {
        list = e ∷ rest.list;
        distinct = and_from (not (list_any (same e.entry.path) (map entry_path (entries_of rest.list)))) (are_distinct (map entry_path (entries_of rest.list)))
            (ap not apart) rest.distinct;
        all = all;
      }
        where
          all : (text : List ℕ) (n : ℕ) → In (key ∷ some) (keys.Rev text n) → HasRev rows text n → change_of (rows (keys.Rev text n)) ≡ c → Has (e ∷ rest.list) text n
          all text n (inl k) h made =
              let both_are : keys.Rev t m ≡ keys.Rev text n = sym is ∙ k in
              let two : t ≡ text = cc in
              let three : m ≡ n = cc in
              record { at = e; among = inl refl; text_is = one ∙ two; rev_is = number ∙ three }
          all text n (inr k) h made =
              let old = rest.all text n k h made in
              record { at = old.at; among = inr old.among; text_is = old.text_is; rev_is = old.rev_is }

      path_among : (es : List EntryAt) (p : List ℕ) → In (map entry_path (entries_of es)) p → (e : EntryAt) × (In es e × (e.entry.path ≡ p))
      path_among [] p h = absurd h
      path_among (e ∷ es) p (inl k) = (e, (inl refl, k))
      path_among (e ∷ es) p (inr k) = let rest = path_among es p k in (rest.0, (inr rest.1.0, rest.1.1))

      made_more : a.row.change ≡ c → Entries (key ∷ some)
      made_more made = go (list_any (same new.0.entry.path) (map entry_path (entries_of rest.list))) refl
        where
          new : (e : EntryAt) × ((text_of e ≡ t) × (e.entry.rev ≡ m))
          new = entry_at t m a made

          go : (x : Bool) → list_any (same new.0.entry.path) (map entry_path (entries_of rest.list)) ≡ x → Entries (key ∷ some)
          go false e = added new.0 new.1.0 new.1.1 e
          go true e =
              let old = path_among rest.list new.0.entry.path (any_in new.0.entry.path (map entry_path (entries_of rest.list)) e) in
              known_path made old.0 old.1.0 (ap printed old.1.1 ∙ new.1.0)

      by_change : (x : Bool) → (a.row.change == c) ≡ x → Entries (key ∷ some)
      by_change true e = made_more (number-is a.row.change c e)
      by_change false e = passed (λ text n k _ made. absurd (
          let both_are : keys.Rev t m ≡ keys.Rev text n = sym is ∙ k in
          let one : a.row.change ≡ c = sym (ap change_of a.is) ∙ ap (λ (q : Key). change_of (rows q)) both_are ∙ made in
          let two : true ≡ false = sym (number-self c) ∙ ap (λ (i : ℕ). i == c) (sym one) ∙ e in
          cc))

    by_row : (t : List ℕ) (m : ℕ) → key ≡ keys.Rev t m → (o : Option Record) → rows (keys.Rev t m) ≡ o → Entries (key ∷ some)
    by_row t m is (Some r) e = let a = rev_at rows contents g t m r e in by_change t m is a (a.row.change == c) refl
    by_row t m is None e = passed (λ text n k has made. absurd (
        let one : rows (keys.Rev text n) ≡ None = ap rows (sym k ∙ is) ∙ e in
        let two : true ≡ false = sym has ∙ ap is_some one in
        cc))

    by_key : (k : Key) → key ≡ k → Entries (key ∷ some)
    by_key (keys.Rev t m) is = by_row t m is (rows (keys.Rev t m)) refl
    by_key (keys.Counter x) is = passed (λ text n k _ _. absurd (let e = sym is ∙ k in cc))
    by_key (keys.Group x y) is = passed (λ text n k _ _. absurd (let e = sym is ∙ k in cc))
    by_key (keys.Protect x) is = passed (λ text n k _ _. absurd (let e = sym is ∙ k in cc))
    by_key (keys.Domain x y) is = passed (λ text n k _ _. absurd (let e = sym is ∙ k in cc))
    by_key (keys.Have x y) is = passed (λ text n k _ _. absurd (let e = sym is ∙ k in cc))
    by_key (keys.Label x y) is = passed (λ text n k _ _. absurd (let e = sym is ∙ k in cc))
    by_key (keys.Integed x y p q u v w z) is = passed (λ text n k _ _. absurd (let e = sym is ∙ k in cc))
    by_key (keys.Resolve x y z) is = passed (λ text n k _ _. absurd (let e = sym is ∙ k in cc))
    by_key (keys.Working x y) is = passed (λ text n k _ _. absurd (let e = sym is ∙ k in cc))
    by_key (keys.Change x) is = passed (λ text n k _ _. absurd (let e = sym is ∙ k in cc))

  entries_in : (some : List Key) → Entries some
  entries_in [] = record { list = []; distinct = refl; all = λ text n h has made. absurd h }
  entries_in (key ∷ some) = by_key key some (entries_in some) key refl

  pub all_entries : Entries ks
  all_entries = entries_in ks

  -- ---- over a depot that has the revisions of earlier changes

  abbrev HasEarlier : List model.Deed → Type 0
  HasEarlier d = (text : List ℕ) (n : ℕ) → record_of d (keys.Rev text n) ≡ (if nat_lt (change_of (rows (keys.Rev text n))) c then rows (keys.Rev text n) else None)

  module _ (d : List model.Deed) (earlier : HasEarlier d) where
    has_earlier : (text : List ℕ) (n : ℕ) → HasRev rows text n → change_of (rows (keys.Rev text n)) < c → HasRev (record_of d) text n
    has_earlier text n has low = ap is_some (earlier text n ∙ ap (λ (b : Bool). if b then rows (keys.Rev text n) else None) (less (change_of (rows (keys.Rev text n))) c low)) ∙ has
      where
        less : (i j : ℕ) → i < j → nat_lt i j ≡ true
        less i j h = grind (arith, nat_tests)

    has_not : (text : List ℕ) (n : ℕ) → change_of (rows (keys.Rev text n)) ≡ c → HasRev (record_of d) text n → ⊥
    has_not text n made has =
        let none : record_of d (keys.Rev text n) ≡ None = earlier text n ∙ ap (λ (b : Bool). if b then rows (keys.Rev text n) else None) (never (change_of (rows (keys.Rev text n))) c made) in
        let e : true ≡ false = sym has ∙ ap is_some none in
        cc
      where
        never : (i j : ℕ) → i ≡ j → nat_lt i j ≡ false
        never i j h = grind (arith, nat_tests)

    pub next_rev : (e : EntryAt) → e.entry.rev ≡ head d e.entry.path + 1
    next_rev e = go e.entry.rev refl
      where
        low : (k : ℕ) → e.entry.rev ≡ suc k → head d e.entry.path ≤ k
        low k n = by (nat_lt k (head d e.entry.path)) refl
          where
            less : (i j : ℕ) → nat_lt i j ≡ true → i < j
            less i j h = grind (arith, nat_tests)

            most : (i j : ℕ) → nat_lt i j ≡ false → j ≤ i
            most i j h = grind (arith, nat_tests)

            by : (b : Bool) → nat_lt k (head d e.entry.path) ≡ b → head d e.entry.path ≤ k
            by true h = absurd (has_not (text_of e) e.entry.rev (made_in e)
                (subst (λ (m : ℕ). HasRev (record_of d) (text_of e) m) (sym n) (there_below d e.entry.path k e.path (less k (head d e.entry.path) h))))
            by false h = most k (head d e.entry.path) h

        high : (k : ℕ) → e.entry.rev ≡ suc (suc k) → suc k ≤ head d e.entry.path
        high k n =
            let here : HasRev rows (text_of e) (suc (suc k)) = subst (λ (m : ℕ). HasRev rows (text_of e) m) n (there e) in
            let before : HasRev rows (text_of e) (suc k) = g.keep.revisions_run (text_of e) k here in
            let up = g.keep.changes_rise (text_of e) (suc k) (suc (suc k)) (omega arith) before here in
            let made : change_of (rows (keys.Rev (text_of e) (suc (suc k)))) ≡ c = ap (λ (m : ℕ). change_of (rows (keys.Rev (text_of e) m))) (sym n) ∙ made_in e in
            let less : change_of (rows (keys.Rev (text_of e) (suc k))) < c = omega (arith, up, made) in
            (old_number d e.entry.path (suc k) e.path (has_earlier (text_of e) (suc k) before less)).1

        go : (n : ℕ) → e.entry.rev ≡ n → e.entry.rev ≡ head d e.entry.path + 1
        go zero n = let some = from_one rows contents g (text_of e) e.entry.rev (there e) in absurd (omega (arith, some, n))
        go (suc zero) n = let a = low 0 n in omega (arith, a, n)
        go (suc (suc k)) n = let a = low (suc k) n in let b = high k n in omega (arith, a, b, n)

    pub are_entries : (es : List EntryAt) → AreEntries d (entries_of es) (models_of es)
    are_entries [] = tt
    are_entries (e ∷ es) = (record { path = refl; rev = next_rev e; action = refl; file_type = refl; content = e.is_stored; credits = refl; moved = refl }, are_entries es)

  -- ---- what the entries keep

  pub all_paths : (es : List EntryAt) → list_all is_path (map entry_path (entries_of es)) ≡ true
  all_paths [] = refl
  all_paths (e ∷ es) = and_from (is_path e.entry.path) (list_all is_path (map entry_path (entries_of es))) e.path (all_paths es)

  credit_paths : (path : List ℕ) (n : ℕ) (xs : List Credit) → ((k : Credit) → In xs k → IsGood rows contents g c path n k)
      → list_all is_path (map (λ (k : model.Credit). k.from) (map credit_of xs)) ≡ true
  credit_paths path n [] good = refl
  credit_paths path n (x ∷ xs) good =
      and_from (is_path x.from) (list_all is_path (map (λ (k : model.Credit). k.from) (map credit_of xs))) (good x (inl refl)).from_path
      (credit_paths path n xs (λ k h. good k (inr h)))

  pub entry_has_paths : (e : EntryAt) → list_all is_path (entry_paths (model_of e.entry e.content)) ≡ true
  entry_has_paths e =
      and_from (is_path e.entry.path) _ e.path
      (all_append is_path (path_or_none e.entry.moved) (map (λ (k : model.Credit). k.from) (map credit_of e.entry.credits)) e.moved
      (credit_paths e.entry.path e.entry.rev e.entry.credits e.good))

  pub entries_have_paths : (es : List EntryAt) → list_all is_path (flat_map entry_paths (models_of es)) ≡ true
  entries_have_paths [] = refl
  entries_have_paths (e ∷ es) = all_append is_path (entry_paths (model_of e.entry e.content)) (flat_map entry_paths (models_of es)) (entry_has_paths e) (entries_have_paths es)

  pub entries_are_whole : (es : List EntryAt) → list_all has_its_content (models_of es) ≡ true
  entries_are_whole [] = refl
  entries_are_whole (e ∷ es) = and_from (has_its_content (model_of e.entry e.content)) (list_all has_its_content (models_of es)) e.live_is (entries_are_whole es)
