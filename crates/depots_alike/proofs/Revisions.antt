-- The revisions of sound depots with the same rows and contents.
use Rattle.std.proofs.Common.{◌≡◌, ℕ, zero, suc, ◌⊎◌, inl, inr, Bool, true, false, cond, List, [], ◌∷◌, ◌++◌, map, Option, Some, None, refl, sym, ap, ◌∙◌, subst, arith}
use Rattle.std.specs.Prelude.{if◌then◌else◌, ◌&&◌, ◌==◌, codes, Contains, IfSome, IsSomeAnd, find, filter, flat_map, option_map, option_and_then, slice_get, unwrap_or}
use Rattle.std.specs.List.{list_all}
use Rattle.std.proofs.lemmas.Bool.{true≢false, and_parts}
use Rattle.std.proofs.lemmas.List.Folds.{list_all-append}
use Rattle.depot_rows.specs.depot_path.Bytes.{same}
use Rattle.depot_rows.specs.depot_path.Path.{printed, is_path}
use Rattle.depot_rows.specs.db_records.declared.key.Key.TheVariants as keys
use Rattle.depot_rows.specs.db_records.declared.record.Record.{Record}
use Rattle.depot_rows.specs.db_records.declared.record.Record.TheVariants as records
use Rattle.depot_rows.specs.depot_model.Deeds.{Deed, Land, Landing, Pending, Entry, Credit}
use Rattle.depot_rows.specs.depot_model.Numbers.{landings, landing, pending}
use Rattle.depot_rows.specs.depot_model.Records.{record_of, rev_record, pending_record, landed_record}
use Rattle.depot_rows.specs.depot_model.Revisions.{Revision, revisions, revision, entries_at}
use Rattle.depot_rows.specs.depot_model.Rules.{IsSound, IsSubmitted, IsRow, has_paths, entry_paths, path_or_none, change_of}
use Rattle.depot_rows.specs.depot_model.Steps.Submitting.{content_at}
use Rattle.depot_rows.proofs.Keys.{number-is, same-is}
use Rattle.depot_rows.proofs.Spelled.{at_path-here}
use Rattle.depot_facts.specs.Contents.{bare, seen}
use Rattle.depot_facts.proofs.Nowhere.{no_revisions}
use Rattle.depots_alike.proofs.Searches.{path_in, path_back, action_in, action_back, moved_back, landing_in, by_path}
use Rattle.depots_alike.proofs.Twins.{Twins}

first : (l : Landing) (ls : List Landing) → Contains (l ∷ ls) l
first l ls = (zero, omega arith, refl)

behind : (m : Landing) (ls : List Landing) (l : Landing) → Contains ls l → Contains (m ∷ ls) l
behind m ls l h = (suc h.0, omega (arith, h.1), h.2)

abbrev made : Landing → Entry → Revision
made l e = record { landing = l; entry = e }

one_revision : (r s : Revision) → Some r ≡ Some s → r ≡ s
one_revision r s e = cc

-- what is known of a revision of a path
abbrev IsEntryOf : List ℕ → Entry → Type 0
IsEntryOf path e = (e.path ≡ path) × IfSome e.moved (λ p. is_path p ≡ true)

moved_path : (path : List ℕ) (moved : Option (List ℕ)) (rest : List (List ℕ)) → list_all is_path (path ∷ path_or_none moved ++ rest) ≡ true
    → IfSome moved (λ p. is_path p ≡ true)
moved_path path None rest e = tt
moved_path path (Some p) rest e = (and_parts (is_path p) _ (and_parts (is_path path) _ e).1).0

all_of : (l : Landing) (path : List ℕ) (es : List Entry) (n : ℕ) (r : Revision) → list_all is_path (flat_map entry_paths es) ≡ true
    → slice_get (map (made l) (filter (λ (x : Entry). same x.path path) es)) n ≡ Some r → (l ≡ r.landing) × IsEntryOf path r.entry
all_of l path [] n r all e = absurd cc
all_of l path (x ∷ es) n r all e =
    go (same x.path path) refl n e (λ m h. all_of l path es m r (and_parts (list_all is_path (entry_paths x)) (list_all is_path (flat_map entry_paths es)) parts).1 h)
  where
    parts : (list_all is_path (entry_paths x) && list_all is_path (flat_map entry_paths es)) ≡ true
    parts = sym (list_all-append is_path (entry_paths x) (flat_map entry_paths es)) ∙ all

    own : same x.path path ≡ true → made l x ≡ r → (l ≡ r.landing) × IsEntryOf path r.entry
    own k one =
        let P : Revision → Type 0 = λ s. (l ≡ s.landing) × IsEntryOf path s.entry in
        subst P one (
          refl,
          (
            same-is x.path path k,
            moved_path x.path x.moved (map (λ (c : Credit). c.from) x.credits)
                (and_parts (list_all is_path (entry_paths x)) (list_all is_path (flat_map entry_paths es)) parts).0,
          ),
        )

    go : (b : Bool) → same x.path path ≡ b → (n : ℕ)
        → slice_get (map (made l) (if b then x ∷ filter (λ (x : Entry). same x.path path) es else filter (λ (x : Entry). same x.path path) es)) n ≡ Some r
        → ((m : ℕ) → slice_get (map (made l) (filter (λ (x : Entry). same x.path path) es)) m ≡ Some r → (l ≡ r.landing) × IsEntryOf path r.entry)
        → (l ≡ r.landing) × IsEntryOf path r.entry
    go true k zero e later = own k (one_revision (made l x) r e)
    go true k (suc m) e later = later m e
    go false k n e later = later n e

either : (xs ys : List Revision) (n : ℕ) (r : Revision) → slice_get (xs ++ ys) n ≡ Some r → (slice_get xs n ≡ Some r) ⊎ ((k : ℕ) × (slice_get ys k ≡ Some r))
either [] ys n r e = inr (n, e)
either (x ∷ xs) ys zero r e = inl e
either (x ∷ xs) ys (suc n) r e = either xs ys n r e

-- a revision's change landed
landed : (d : List Deed) → list_all has_paths d ≡ true → (path : List ℕ) (n : ℕ) (r : Revision) → slice_get (revisions d path) n ≡ Some r
    → Contains (landings d) r.landing × IsEntryOf path r.entry
landed [] paths path n r e = absurd cc
landed (Land l ∷ d) paths path n r e =
    go (either (revisions d path) (entries_at path l) n r e) (λ h. landed d (and_parts (has_paths (Land l)) (list_all has_paths d) paths).1 path n r h)
  where
    go : (slice_get (revisions d path) n ≡ Some r) ⊎ ((k : ℕ) × (slice_get (entries_at path l) k ≡ Some r))
        → (slice_get (revisions d path) n ≡ Some r → Contains (landings d) r.landing × IsEntryOf path r.entry)
        → Contains (l ∷ landings d) r.landing × IsEntryOf path r.entry
    go (inl h) before = (behind l (landings d) r.landing (before h).0, (before h).1)
    go (inr h) before =
        let is = all_of l path l.entries h.0 r (and_parts (has_paths (Land l)) (list_all has_paths d) paths).0 h.1 in
        let P : Landing → Type 0 = λ x. Contains (l ∷ landings d) x in
        (subst P is.0 (first l (landings d)), is.1)
landed (deed ∷ d) paths path n r e = landed d (and_parts (has_paths deed) (list_all has_paths d) paths).1 path n r e

one_landing : (l m : Landing) → Some l ≡ Some m → l ≡ m
one_landing l m e = cc

found : (ls : List Landing) (n : ℕ) (l : Landing) → find (λ (m : Landing). m.change == n) ls ≡ Some l → Contains ls l × (l.change ≡ n)
found [] n l e = absurd cc
found (m ∷ ls) n l e = go (m.change == n) refl e (λ f. found ls n l f)
  where
    go : (b : Bool) → (m.change == n) ≡ b → cond b (Some m) (find (λ (x : Landing). x.change == n) ls) ≡ Some l
        → (find (λ (x : Landing). x.change == n) ls ≡ Some l → Contains ls l × (l.change ≡ n)) → Contains (m ∷ ls) l × (l.change ≡ n)
    go true is f later =
        let one : m ≡ l = one_landing m l f in
        let P : Landing → Type 0 = λ x. Contains (m ∷ ls) x in
        (subst P one (first m ls), ap (λ (x : Landing). x.change) (sym one) ∙ number-is m.change n is)
    go false is f later = let rest = later f in (behind m ls l rest.0, rest.1)

not_submitted : codes "pending" ≡ codes "submitted" → ⊥
not_submitted e = let h : true ≡ false = ap (λ (w : List ℕ). same w (codes "pending")) e in true≢false h

abbrev shown : Option Pending → Option Landing → Option Record
shown p o = elim p [ Some x ↦ Some (pending_record x) | None ↦ option_map landed_record o ]

-- a revision by the row of its file, the row of its change and its content
abbrev seen_in : Option Record → Option Record → Option (List ℕ) → Option Revision
seen_in (Some (records.Rev r)) change content = option_map (λ l. record {
  landing = l;
  entry = record {
    path = unwrap_or (path_in r.path) [];
    action = action_in r.action;
    file_type = r.file_type;
    content = content;
    credits = [];
    moved = path_in r.moved;
  };
}) (landing_in change)
seen_in _ change content = None

module _ (d : List Deed) (sound : IsSound d) (path : List ℕ) (is : is_path path ≡ true) (n : ℕ) where
  abbrev row : Option Record
  row = record_of d (keys.Rev (printed path) n)

  row_is : row ≡ option_map (rev_record n) (revision d path n)
  row_is = at_path-here path (λ x. option_map (rev_record n) (revision d x n)) is

  known : (r : Revision) → revision d path n ≡ Some r → Contains (landings d) r.landing × IsEntryOf path r.entry
  known r e = go n e
    where
      go : (m : ℕ) → revision d path m ≡ Some r → Contains (landings d) r.landing × IsEntryOf path r.entry
      go zero e = absurd cc
      go (suc m) e = landed d sound.paths path m r e

  submitted_row : (r : Revision) → revision d path n ≡ Some r → IsSomeAnd (record_of d (keys.Change r.landing.change)) IsSubmitted
  submitted_row r e =
      let own : IfSome row (IsRow (record_of d)) = sound.rules.each (keys.Rev (printed path) n) in
      (subst (λ (o : Option Record). IfSome o (IsRow (record_of d))) (row_is ∙ ap (option_map (rev_record n)) e) own).6

  change_row : (r : Revision) → revision d path n ≡ Some r → record_of d (keys.Change r.landing.change) ≡ Some (landed_record r.landing)
  change_row r e = go (pending d r.landing.change) (landing d r.landing.change) refl (submitted_row r e)
    where
      go : (p : Option Pending) (o : Option Landing) → landing d r.landing.change ≡ o → IsSomeAnd (shown p o) IsSubmitted → shown p o ≡ Some (landed_record r.landing)
      go (Some p) o f h = absurd (not_submitted h)
      go None None f h = absurd h
      go None (Some l) f h =
          let there = found (landings d) r.landing.change l f in
          ap (λ (x : Record). Some x) (sound.landings_agree l r.landing there.0 (known r e).0 there.1)

  pub seen_at : seen_in row (record_of d (keys.Change (change_of row))) (content_at d path n) ≡ option_map seen (revision d path n)
  seen_at = (λ i. seen_in (row_is i) (record_of d (keys.Change (change_of (row_is i)))) (content_at d path n)) ∙ go (revision d path n) refl
    where
      go : (o : Option Revision) → revision d path n ≡ o
          → seen_in (option_map (rev_record n) o) (record_of d (keys.Change (change_of (option_map (rev_record n) o)))) (option_and_then (λ (r : Revision). r.entry.content) o)
          ≡ option_map seen o
      go None e = refl
      go (Some r) e =
          let of = known r e in
          let own = path_back r.entry.path (ap is_path of.1.0 ∙ is) in
          (λ i. seen_in (Some (rev_record n r)) (change_row r e i) r.entry.content)
          ∙ (λ i. Some (record {
            landing = bare r.landing;
            entry = record {
              path = unwrap_or (own i) [];
              action = action_back r.entry.action i;
              file_type = r.entry.file_type;
              content = r.entry.content;
              credits = [];
              moved = moved_back r.entry.moved of.1.1 i;
            };
          }))

-- lists of as many are one where each place has the same
pub one_by_one : {A : Type 0} (xs ys : List A) → ((k : ℕ) → slice_get xs k ≡ slice_get ys k) → xs ≡ ys
one_by_one [] [] alike = refl
one_by_one [] (y ∷ ys) alike = absurd (let e : None ≡ Some y = alike 0 in cc)
one_by_one (x ∷ xs) [] alike = absurd (let e : Some x ≡ None = alike 0 in cc)
one_by_one {A = A} (x ∷ xs) (y ∷ ys) alike =
    let one : x ≡ y = (let e : Some x ≡ Some y = alike 0 in cc) in
    let rest : xs ≡ ys = one_by_one xs ys (λ k. alike (suc k)) in
    λ i. one i ∷ rest i

pub get_seen : (xs : List Revision) (k : ℕ) → slice_get (map seen xs) k ≡ option_map seen (slice_get xs k)
get_seen [] k = refl
get_seen (x ∷ xs) zero = refl
get_seen (x ∷ xs) (suc k) = get_seen xs k

module _ (d e : List Deed) (twins : Twins d e) where
  rows_one : record_of d ≡ record_of e
  rows_one = λ i q. twins.rows q i

  pub revision_same : (path : List ℕ) (n : ℕ) → option_map seen (revision d path n) ≡ option_map seen (revision e path n)
  revision_same path n = by_path path (option_map seen (revision d path n)) (option_map seen (revision e path n))
      (λ is. sym (seen_at d twins.left path is n)
      ∙ (λ i. seen_in (rows_one i (keys.Rev (printed path) n)) (rows_one i (keys.Change (change_of (rows_one i (keys.Rev (printed path) n))))) (twins.contents path n i))
      ∙ seen_at e twins.right path is n)
      (λ not. nowhere n (no_revisions d twins.left.paths path not) (no_revisions e twins.right.paths path not))
    where
      nowhere : (n : ℕ) → revisions d path ≡ [] → revisions e path ≡ [] → option_map seen (revision d path n) ≡ option_map seen (revision e path n)
      nowhere zero f g = refl
      nowhere (suc m) f g = ap (λ rs. option_map seen (slice_get rs m)) f ∙ sym (ap (λ rs. option_map seen (slice_get rs m)) g)

  pub revisions_same : (path : List ℕ) → map seen (revisions d path) ≡ map seen (revisions e path)
  revisions_same path = one_by_one (map seen (revisions d path)) (map seen (revisions e path))
      (λ k. get_seen (revisions d path) k ∙ revision_same path (suc k) ∙ sym (get_seen (revisions e path) k))
