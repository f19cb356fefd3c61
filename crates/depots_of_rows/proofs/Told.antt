-- What is known of the revisions of a sound depot, and that its rows keep all rules.
use Rattle.std.proofs.Common.{◌≡◌, ◌⊎◌, ℕ, zero, suc, Bool, true, false, List, [], ◌∷◌, Option, Some, None, Result, Ok, Err, inl, inr, refl, sym, ap, subst, ◌∙◌}
use Rattle.std.specs.Prelude.{◌&&◌, not, codes, bytes_eq, if◌then◌else◌, length, option_and_then, unwrap_or, is_some, is_none, filter, flat_map}
use Rattle.std.specs.List.{list_all}
use Rattle.std.proofs.lemmas.Bool.{and_parts}
use Rattle.depot_rows.specs.depot_path.Bytes.{same}
use Rattle.depot_rows.specs.depot_path.Path.{path_of, is_path}
use Rattle.depot_rows.specs.depot_path.declared.fault.PathFault.{PathFault}
use Rattle.depot_rows.specs.db_records.Key.{key_table}
use Rattle.depot_rows.specs.db_records.Record.{is_live}
use Rattle.depot_rows.specs.db_records.declared.record.Record.{Record}
use Rattle.depot_rows.specs.db_records.declared.record.Record.TheVariants as records
use Rattle.depot_rows.specs.table_changes.Changed.{AllRows}
use Rattle.depot_rows.specs.depot_model.Deeds.{Deed, Land, Landing, Entry, Action, Add, Edit, Delete, Branch, Integrate, MoveAdd, MoveDelete}
use Rattle.depot_rows.specs.depot_model.Numbers.{landings}
use Rattle.depot_rows.specs.depot_model.Records.{record_of, digest, rev_record}
use Rattle.depot_rows.specs.depot_model.Revisions.{Revision, revision, revisions, entries_at, is_live_action}
use Rattle.depot_rows.specs.depot_model.Rows.{action_word}
use Rattle.depot_rows.specs.depot_model.Rules.{Rows, has_paths, entry_paths, has_its_content, have_their_contents}
use Rattle.depot_rows.specs.Standing.{Stand}
use Rattle.depot_rows.proofs.Entries.{In}
use Rattle.depot_rows.proofs.Keys.{same-is}
use Rattle.depot_facts.proofs.Listed.{flat_in, in_append, in_filter, in_map, get_in}
use Rattle.depot_facts.proofs.Revisions.{Shown, shown}
use Rattle.depots_of_rows.specs.Telling.{all_unplaced, Contents, TellOf, KeepAllRules}

all_true : {A : Type 0} (test : A → Bool) (xs : List A) (x : A) → list_all test xs ≡ true → In xs x → test x ≡ true
all_true test [] x all h = absurd h
all_true test (y ∷ ys) x all (inl e) = ap test (sym e) ∙ (and_parts (test y) (list_all test ys) all).0
all_true test (y ∷ ys) x all (inr h) = all_true test ys x (and_parts (test y) (list_all test ys) all).1 h

-- ---- the entry of a revision

entry_in : (path : List ℕ) (l : Landing) (r : Revision) → In (entries_at path l) r → (e : Entry) × (In l.entries e × (e.path ≡ path) × (r.entry ≡ e))
entry_in path l r h =
    let e = in_map (λ (x : Entry). let made : Revision = record { landing = l; entry = x } in made) (filter (λ (x : Entry). same x.path path) l.entries) r h in
    let f = in_filter (λ (x : Entry). same x.path path) l.entries e.0 e.1.0 in
    (e.0, (f.0, same-is e.0.path path f.1, ap (λ (x : Revision). x.entry) (sym e.1.1)))

-- a test of landings that says something of each entry holds of each revision
by_entry : (P : List ℕ → Entry → Type 0) (test : Landing → Bool) → ((l : Landing) (e : Entry) → test l ≡ true → In l.entries e → P e.path e) → (d : List Deed) (path : List ℕ) (r : Revision)
    → list_all test (landings d) ≡ true → In (revisions d path) r → P path r.entry
by_entry P test each [] path r all h = absurd h
by_entry P test each (Land l ∷ d) path r all h =
    go (in_append (revisions d path) (entries_at path l) r h) (by_entry P test each d path r (and_parts (test l) (list_all test (landings d)) all).1)
  where
    go : In (revisions d path) r ⊎ In (entries_at path l) r → (In (revisions d path) r → P path r.entry) → P path r.entry
    go (inl k) later = later k
    go (inr k) later =
        let e = entry_in path l r k in
        subst (P path) (sym e.1.2) (subst (λ (p : List ℕ). P p e.0) e.1.1 (each l e.0 (and_parts (test l) (list_all test (landings d)) all).0 e.1.0))
by_entry P test each (deed ∷ d) path r all h = by_entry P test each d path r all h

own : (d : List Deed) (path : List ℕ) (n : ℕ) (r : Revision) → list_all have_their_contents (landings d) ≡ true → revision d path n ≡ Some r → has_its_content r.entry ≡ true
own d path zero r all e = absurd cc
own d path (suc n) r all e =
    by_entry (λ p (x : Entry). has_its_content x ≡ true) have_their_contents (λ l x h there. all_true has_its_content l.entries x h there) d path r all (get_in (revisions d path) n r e)

-- the paths of all landings are paths
landed_paths : (d : List Deed) → list_all has_paths d ≡ true → list_all (λ (l : Landing). has_paths (Land l)) (landings d) ≡ true
landed_paths [] all = refl
landed_paths (Land l ∷ d) all =
    let rest = landed_paths d (and_parts (has_paths (Land l)) (list_all has_paths d) all).1 in
    let one = (and_parts (has_paths (Land l)) (list_all has_paths d) all).0 in
    λ i. one i && rest i
landed_paths (deed ∷ d) all = landed_paths d (and_parts (has_paths deed) (list_all has_paths d) all).1

pub revision_path : (d : List Deed) (path : List ℕ) (n : ℕ) (r : Revision) → list_all has_paths d ≡ true → revision d path n ≡ Some r → is_path path ≡ true
revision_path d path zero r all e = absurd cc
revision_path d path (suc n) r all e =
    by_entry (λ p (x : Entry). is_path p ≡ true) (λ (l : Landing). has_paths (Land l))
    (λ l x h there. all_true is_path (flat_map entry_paths l.entries) x.path h (flat_in entry_paths l.entries x x.path there (inl refl)))
    d path r (landed_paths d all) (get_in (revisions d path) n r e)

abbrev pub is_live_word : List ℕ → Bool
is_live_word word = not (bytes_eq word (codes "delete")) && not (bytes_eq word (codes "move/delete"))

-- a content stands exactly where the word of the action is that of a live revision
pub live_where : (action : Action) (content : Option (List ℕ)) → (if is_live_action action then is_some content else is_none content) ≡ true
    → is_live_word (action_word action) ≡ is_some content
live_where Add content e = sym e
live_where Edit content e = sym e
live_where Branch content e = sym e
live_where Integrate content e = sym e
live_where MoveAdd content e = sym e
live_where Delete None e = refl
live_where Delete (Some c) e = absurd cc
live_where MoveDelete None e = refl
live_where MoveDelete (Some c) e = absurd cc

pub live_revision : (d : List Deed) (path : List ℕ) (n : ℕ) (r : Revision) → list_all have_their_contents (landings d) ≡ true → revision d path n ≡ Some r
    → is_live_word (action_word r.entry.action) ≡ is_some r.entry.content
live_revision d path n r all e = live_where r.entry.action r.entry.content (own d path n r all e)

-- ---- the contents of a depot

abbrev content_of : Option Revision → List ℕ
content_of r = unwrap_or (option_and_then (λ (x : Revision). x.entry.content) r) []

abbrev contents_of : List Deed → Contents
contents_of d text n = elim (path_of text) [ Err fault ↦ [] | Ok path ↦ content_of (revision d path n) ]

content_read : (d : List Deed) (text : List ℕ) (n : ℕ) (path : List ℕ) → path_of text ≡ Ok path → contents_of d text n ≡ content_of (revision d path n)
content_read d text n path e = go (path_of text) e
  where
    go : (r : Result (List ℕ) PathFault) → r ≡ Ok path → (elim r as (λ _. List ℕ) [ Err fault ↦ [] | Ok x ↦ content_of (revision d x n) ]) ≡ content_of (revision d path n)
    go (Err fault) e = absurd cc
    go (Ok x) e = let one : x ≡ path = cc in ap (λ (p : List ℕ). content_of (revision d p n)) one

module _ (rows : AllRows) (d : List Deed) (stand : Stand rows d) where
  alike : ◌≡◌ {A = Rows} (all_unplaced rows) (record_of d)
  alike = λ i key. stand.each (key_table key) key refl i

  tell : TellOf (contents_of d) (record_of d)
  tell text n row e live = go s.rev.entry.content refl
    where
      s : Shown d text n
      s = shown d text n (ap is_some e)

      is : rev_record n s.rev ≡ records.Rev row
      is = let both : Some (rev_record n s.rev) ≡ Some (records.Rev row) = sym s.row ∙ e in cc

      digest_in : Record → List ℕ
      digest_in (records.Rev x) = x.digest
      digest_in _ = []

      length_in : Record → ℕ
      length_in (records.Rev x) = x.length
      length_in _ = 0

      live_is : is_some s.rev.entry.content ≡ true
      live_is = sym (live_revision d s.path n s.rev stand.sound.contents s.got) ∙ ap is_live is ∙ live

      go : (c : Option (List ℕ)) → s.rev.entry.content ≡ c → (row.digest ≡ digest (contents_of d text n)) × (row.length ≡ length (contents_of d text n))
      go None h = absurd (let two : false ≡ true = sym (ap is_some h) ∙ live_is in cc)
      go (Some c) h =
          let here : contents_of d text n ≡ c =
          content_read d text n s.path s.read ∙ ap content_of s.got ∙ ap (λ (x : Option (List ℕ)). unwrap_or x []) h in (
            ap digest_in (sym is) ∙ ap (λ (x : Option (List ℕ)). elim x as (λ _. List ℕ) [ None ↦ [] | Some y ↦ digest y ]) h ∙ ap digest (sym here),
            ap length_in (sym is) ∙ ap (λ (x : Option (List ℕ)). elim x as (λ _. ℕ) [ None ↦ 0 | Some y ↦ length y ]) h ∙ ap (λ (xs : List ℕ). length xs) (sym here),
          )

  pub keep_all : (contents : Contents) × KeepAllRules contents (all_unplaced rows)
  keep_all = (contents_of d, subst (KeepAllRules (contents_of d)) (sym alike) (record { rules = stand.sound.rules; lines = refl; tell = tell }))
