-- Integration records of a depot: the row of each, and the credits of revisions that they tell.
use Rattle.std.proofs.Common.{◌≡◌, ◌<◌, ◌⊎◌, inl, inr, ℕ, Bool, true, false, List, [], ◌∷◌, map, Option, Some, refl, sym, ap, subst, ◌∙◌, arith}
use Rattle.std.specs.Prelude.{if◌then◌else◌, filter, flat_map, is_some, IsSome, option_map}
use Rattle.std.specs.List.{list_any, list_all}
use Rattle.std.proofs.lemmas.Bool.{true≢false, and_parts}
use Rattle.depot_rows.specs.depot_path.Bytes.{same}
use Rattle.depot_rows.specs.depot_path.Path.{printed, is_path}
use Rattle.depot_rows.specs.db_records.Record.{key_of}
use Rattle.depot_rows.specs.db_records.declared.key.Key.{Key}
use Rattle.depot_rows.specs.db_records.declared.key.Key.TheVariants as keys
use Rattle.depot_rows.specs.db_records.declared.record.Record.{Record}
use Rattle.depot_rows.specs.db_records.declared.record.Record.TheVariants as records
use Rattle.depot_rows.specs.db_records.declared.rows.IntegedRecord.{IntegedRecord}
use Rattle.depot_rows.specs.depot_model.Deeds.{Deed, Land, Landing, Entry, Credit, How, CopyFrom, BranchFrom, DeleteFrom, Ignored, MovedFrom}
use Rattle.depot_rows.specs.depot_model.Records.{record_of, is_at, integrations, pairs_of, pair_of, into_word, rev_record}
use Rattle.depot_rows.specs.depot_model.Revisions.{Revision, revisions, revision, entries_at, head}
use Rattle.depot_rows.specs.depot_model.Rows.{how_word}
use Rattle.depot_rows.specs.depot_model.Rules.{IsSound, change_of, has_paths, entry_paths, path_or_none}
use Rattle.depot_rows.proofs.Entries.{In}
use Rattle.depot_rows.proofs.Keys.{at-is, at-self, same-is, same-self}
use Rattle.depot_rows.proofs.Spelled.{at_path-here}
use Rattle.depot_facts.proofs.Listed.{all_in, append_left, append_right, finds, flat_in, found_in, in_append, in_flat, map_in}

-- ---- the row of a record

abbrev pub test_at : Key → IntegedRecord → Bool
test_at key r = is_at key (key_of (records.Integed r))

abbrev pub integed_key : IntegedRecord → Key
integed_key r = key_of (records.Integed r)

-- a record is what its key says
pub of_key : (r s : IntegedRecord) → integed_key r ≡ integed_key s → r ≡ s
of_key r s e =
    let to : r.to_file ≡ s.to_file = cc in
    let from : r.from_file ≡ s.from_file = cc in
    let a : r.start_from ≡ s.start_from = cc in
    let b : r.end_from ≡ s.end_from = cc in
    let x : r.start_to ≡ s.start_to = cc in
    let y : r.end_to ≡ s.end_to = cc in
    let how : r.how ≡ s.how = cc in
    let change : r.change ≡ s.change = cc in
    λ i. record { to_file = to i; from_file = from i; start_from = a i; end_from = b i; start_to = x i; end_to = y i; how = how i; change = change i }

-- each integration record is the row at its key
pub own_row : (e : List Deed) (s : IntegedRecord) → In (integrations e) s → record_of e (integed_key s) ≡ Some (records.Integed s)
own_row e s h =
    let y = finds (test_at (integed_key s)) (integrations e) s h (at-self (integed_key s) (integed_key s) refl) in
    let f = found_in (test_at (integed_key s)) (integrations e) y.0 y.1 in
    let one : y.0 ≡ s = sym (of_key s y.0 (at-is (integed_key s) (integed_key y.0) f.1)) in
    ap (option_map (λ (r : IntegedRecord). records.Integed r)) y.1 ∙ ap (λ (r : IntegedRecord). Some (records.Integed r)) one

-- ---- the words of a credit, and of the other record of its pair

abbrev pub is_how : List ℕ → Bool
is_how word = list_any (λ how. same (how_word how) word) (CopyFrom ∷ BranchFrom ∷ DeleteFrom ∷ Ignored ∷ MovedFrom ∷ [])

pub own_word : (how : How) → is_how (how_word how) ≡ true
own_word CopyFrom = refl
own_word BranchFrom = refl
own_word DeleteFrom = refl
own_word Ignored = refl
own_word MovedFrom = refl

pub other_word : (how : How) → is_how (into_word how) ≡ false
other_word CopyFrom = refl
other_word BranchFrom = refl
other_word DeleteFrom = refl
other_word Ignored = refl
other_word MovedFrom = refl

abbrev first_of : ℕ → List ℕ → ℕ → Credit → IntegedRecord
first_of change path n c = record {
  to_file = printed path;
  from_file = printed c.from;
  start_from = c.first;
  end_from = c.last;
  start_to = n;
  end_to = n;
  how = how_word c.how;
  change = change;
}

is_first : (change : ℕ) (path : List ℕ) (n : ℕ) (c : Credit) (z : IntegedRecord) → In (pair_of change path n c) z → is_how z.how ≡ true → first_of change path n c ≡ z
is_first change path n c z (inl e) how = e
is_first change path n c z (inr (inl e)) how = absurd (true≢false (sym how ∙ ap (λ (x : IntegedRecord). is_how x.how) (sym e) ∙ other_word c.how))
is_first change path n c z (inr (inr h)) how = absurd h

-- ---- credits and their records

-- a record says this credit of a revision of a path
pub record IsOf (z : IntegedRecord) (path : List ℕ) (r : Revision) (c : Credit) : Type 0 where
  pub to : z.to_file ≡ printed path
  pub from : z.from_file ≡ printed c.from
  pub first : z.start_from ≡ c.first
  pub last : z.end_from ≡ c.last
  pub change : z.change ≡ (r.landing).change
  pub pathed : is_path path ≡ true
  pub from_pathed : is_path c.from ≡ true

pub record Tells (d : List Deed) (z : IntegedRecord) : Type 0 where
  pub path : List ℕ
  pub made : Revision
  pub credit : Credit
  pub there : In (revisions d path) made
  pub listed : In (made.entry).credits credit
  pub of : IsOf z path made credit

abbrev made_by : Landing → Entry → Revision
made_by l e = record { landing = l; entry = e }

module _ (path : List ℕ) (l : Landing) where
  abbrev made_of : List Entry → List Revision
  made_of es = map (made_by l) (filter (λ (e : Entry). same e.path path) es)

  in_entries : (es : List Entry) (x : Entry) → In es x → same x.path path ≡ true → In (made_of es) (made_by l x)
  in_entries [] x h at = absurd h
  in_entries (e ∷ es) x h at = go (same e.path path) refl h (λ k. in_entries es x k at)
    where
      go : (b : Bool) → same e.path path ≡ b → (e ≡ x) ⊎ In es x → (In es x → In (made_of es) (made_by l x))
          → In (map (made_by l) (if b then e ∷ filter (λ (e : Entry). same e.path path) es else filter (λ (e : Entry). same e.path path) es)) (made_by l x)
      go true k (inl one) later = inl (ap (made_by l) one)
      go true k (inr more) later = inr (later more)
      go false k (inl one) later = absurd (true≢false (sym at ∙ ap (λ (y : Entry). same y.path path) (sym one) ∙ k))
      go false k (inr more) later = later more

  from_entries : (es : List Entry) (r : Revision) → In (made_of es) r → (x : Entry) × In es x × (same x.path path ≡ true) × (made_by l x ≡ r)
  from_entries [] r h = absurd h
  from_entries (e ∷ es) r h = go (same e.path path) refl h (from_entries es r)
    where
      go : (b : Bool) → same e.path path ≡ b
          → In (map (made_by l) (if b then e ∷ filter (λ (e : Entry). same e.path path) es else filter (λ (e : Entry). same e.path path) es)) r
          → (In (made_of es) r → (x : Entry) × In es x × (same x.path path ≡ true) × (made_by l x ≡ r))
          → (x : Entry) × In (e ∷ es) x × (same x.path path ≡ true) × (made_by l x ≡ r)
      go true k (inl one) later = (e, inl refl, k, one)
      go true k (inr more) later = let rest = later more in (rest.0, inr rest.1, rest.2, rest.3)
      go false k h later = let rest = later h in (rest.0, inr rest.1, rest.2, rest.3)

-- the paths of a landed change
module _ (l : Landing) (all : has_paths (Land l) ≡ true) (x : Entry) (there : In l.entries x) where
  entry_is : is_path x.path ≡ true
  entry_is = all_in is_path (flat_map entry_paths l.entries) all x.path (flat_in entry_paths l.entries x x.path there (inl refl))

  credit_is : (c : Credit) → In x.credits c → is_path c.from ≡ true
  credit_is c listed = all_in is_path (flat_map entry_paths l.entries) all c.from (flat_in entry_paths l.entries x c.from there
      (inr (append_right (path_or_none x.moved) (map (λ (y : Credit). y.from) x.credits) c.from (map_in (λ (y : Credit). y.from) x.credits c listed))))

abbrev pairs_in : List Deed → Landing → Entry → List IntegedRecord
pairs_in d l x = flat_map (pair_of l.change x.path (head (Land l ∷ d) x.path)) x.credits

told_here : (d : List Deed) (l : Landing) → has_paths (Land l) ≡ true → (z : IntegedRecord) → In (pairs_of d l) z → is_how z.how ≡ true → Tells (Land l ∷ d) z
told_here d l all z h how =
    let entry = in_flat (pairs_in d l) l.entries z h in
    let x : Entry = entry.0 in
    let own = in_flat (pair_of l.change x.path (head (Land l ∷ d) x.path)) x.credits z entry.1.1 in
    let c : Credit = own.0 in
    let one : first_of l.change x.path (head (Land l ∷ d) x.path) c ≡ z = is_first l.change x.path (head (Land l ∷ d) x.path) c z own.1.1 how in
    record {
      path = x.path;
      made = made_by l x;
      credit = c;
      there = append_right (revisions d x.path) (entries_at x.path l) (made_by l x) (in_entries x.path l l.entries x entry.1.0 (same-self x.path));
      listed = own.1.0;
      of = record {
        to = ap (λ (y : IntegedRecord). y.to_file) (sym one);
        from = ap (λ (y : IntegedRecord). y.from_file) (sym one);
        first = ap (λ (y : IntegedRecord). y.start_from) (sym one);
        last = ap (λ (y : IntegedRecord). y.end_from) (sym one);
        change = ap (λ (y : IntegedRecord). y.change) (sym one);
        pathed = entry_is l all x entry.1.0;
        from_pathed = credit_is l all x entry.1.0 c own.1.0;
      };
    }

told_before : (d : List Deed) (l : Landing) (z : IntegedRecord) → Tells d z → Tells (Land l ∷ d) z
told_before d l z t = record {
  path = t.path;
  made = t.made;
  credit = t.credit;
  there = append_left (revisions d t.path) (entries_at t.path l) t.made t.there;
  listed = t.listed;
  of = t.of;
}

-- each record of a credit tells a revision with it
pub tells : (d : List Deed) → list_all has_paths d ≡ true → (z : IntegedRecord) → In (integrations d) z → is_how z.how ≡ true → Tells d z
tells [] paths z h how = absurd h
tells (Land l ∷ d) paths z h how = elim (in_append (pairs_of d l) (integrations d) z h) [
  | inl k ↦ told_here d l (and_parts (has_paths (Land l)) (list_all has_paths d) paths).0 z k how
  | inr k ↦ told_before d l z (tells d (and_parts (has_paths (Land l)) (list_all has_paths d) paths).1 z k how)
]
tells (deed ∷ d) paths z h how =
    let t = tells d (and_parts (has_paths deed) (list_all has_paths d) paths).1 z h how in
    record { path = t.path; made = t.made; credit = t.credit; there = t.there; listed = t.listed; of = t.of }

-- each credit of a revision has its record
pub record Written (d : List Deed) (path : List ℕ) (r : Revision) (c : Credit) : Type 0 where
  pub written : IntegedRecord
  pub there : In (integrations d) written
  pub word : is_how written.how ≡ true
  pub of : IsOf written path r c

written_here : (d : List Deed) (l : Landing) → has_paths (Land l) ≡ true → (path : List ℕ) (r : Revision) (c : Credit) → In (entries_at path l) r → In (r.entry).credits c
    → Written (Land l ∷ d) path r c
written_here d l all path r c h listed =
    let entry = from_entries path l l.entries r h in
    let x : Entry = entry.0 in
    let one : made_by l x ≡ r = entry.3 in
    let own : In x.credits c = subst (λ (y : Revision). In (y.entry).credits c) (sym one) listed in
    let at : x.path ≡ path = same-is x.path path entry.2 in
    let n : ℕ = head (Land l ∷ d) x.path in
    record {
      written = first_of l.change x.path n c;
      there = append_left (pairs_of d l) (integrations d) (first_of l.change x.path n c)
          (flat_in (pairs_in d l) l.entries x (first_of l.change x.path n c) entry.1
          (flat_in (pair_of l.change x.path n) x.credits c (first_of l.change x.path n c) own (inl refl)));
      word = own_word c.how;
      of = record {
        to = ap printed at;
        from = refl;
        first = refl;
        last = refl;
        change = ap (λ (y : Revision). (y.landing).change) one;
        pathed = ap is_path (sym at) ∙ entry_is l all x entry.1;
        from_pathed = credit_is l all x entry.1 c own;
      };
    }

pub writes : (d : List Deed) → list_all has_paths d ≡ true → (path : List ℕ) (r : Revision) (c : Credit) → In (revisions d path) r → In (r.entry).credits c
    → Written d path r c
writes [] paths path r c h listed = absurd h
writes (Land l ∷ d) paths path r c h listed = elim (in_append (revisions d path) (entries_at path l) r h) [
  | inl k ↦ (let w = writes d (and_parts (has_paths (Land l)) (list_all has_paths d) paths).1 path r c k listed in
      record { written = w.written; there = append_right (pairs_of d l) (integrations d) w.written w.there; word = w.word; of = w.of })
  | inr k ↦ written_here d l (and_parts (has_paths (Land l)) (list_all has_paths d) paths).0 path r c k listed
]
writes (deed ∷ d) paths path r c h listed =
    let w = writes d (and_parts (has_paths deed) (list_all has_paths d) paths).1 path r c h listed in
    record { written = w.written; there = w.there; word = w.word; of = w.of }

-- ---- the change of a revision

not_less : (m n : ℕ) → m ≡ n → m < n → ⊥
not_less m n e less = omega arith

not_apart : (m n : ℕ) → (m < n → ⊥) → (n < m → ⊥) → m ≡ n
not_apart m n up down = omega arith

-- no two revisions of a file are of one change
module _ (e : List Deed) (sound : IsSound e) (path : List ℕ) (is : is_path path ≡ true) where
  row_of : (n : ℕ) (r : Revision) → revision e path n ≡ Some r → record_of e (keys.Rev (printed path) n) ≡ Some (rev_record n r)
  row_of n r there = at_path-here path (λ x. option_map (rev_record n) (revision e x n)) is ∙ ap (option_map (rev_record n)) there

  below : (m n : ℕ) (a b : Revision) → revision e path m ≡ Some a → revision e path n ≡ Some b → m < n → (a.landing).change < (b.landing).change
  below m n a b there here less =
      subst (λ (x : Option Record). change_of x < (b.landing).change) (row_of m a there)
      (subst (λ (y : Option Record). change_of (record_of e (keys.Rev (printed path) m)) < change_of y) (row_of n b here)
      (sound.rules.changes_rise (printed path) m n less (some_row (row_of m a there)) (some_row (row_of n b here))))
    where
      some_row : {r : Record} {o : Option Record} → o ≡ Some r → IsSome o
      some_row k = ap is_some k

  pub one_number : (m n : ℕ) (a b : Revision) → revision e path m ≡ Some a → revision e path n ≡ Some b → (a.landing).change ≡ (b.landing).change → m ≡ n
  one_number m n a b there here one =
      not_apart m n (λ less. not_less (a.landing).change (b.landing).change one (below m n a b there here less))
      (λ less. not_less (b.landing).change (a.landing).change (sym one) (below n m b a here there less))
