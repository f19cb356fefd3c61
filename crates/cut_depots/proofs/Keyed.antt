-- The row of a depot at a key has that key.
use Rattle.std.proofs.Common.{◌≡◌, ℕ, zero, suc, Bool, true, false, cond, List, [], ◌∷◌, ◌++◌, map, Option, Some, None, refl, sym, ap, ◌∙◌}
use Rattle.std.specs.Prelude.{◌==◌, IfSome, if◌then◌else◌, option_map, option_and_then, filter, find, slice_get}
use Rattle.std.specs.List.{list_any}
use Rattle.std.specs.Option.{option_or, option_flatten}
use Rattle.depot_rows.specs.depot_path.Bytes.{same}
use Rattle.depot_rows.specs.depot_path.Path.{printed}
use Rattle.depot_rows.specs.protect_table.Words.{words_of}
use Rattle.depot_rows.specs.db_records.Record.{key_of}
use Rattle.depot_rows.specs.db_records.declared.key.Key.{Key}
use Rattle.depot_rows.specs.db_records.declared.key.Key.TheVariants as keys
use Rattle.depot_rows.specs.db_records.declared.record.Record.{Record}
use Rattle.depot_rows.specs.db_records.declared.record.Record.TheVariants as records
use Rattle.depot_rows.specs.db_records.declared.rows.IntegedRecord.{IntegedRecord}
use Rattle.depot_rows.specs.depot_model.Deeds.{Deed, Pend, Drop, Land, SpecKind, Pending, Landing, Entry}
use Rattle.depot_rows.specs.depot_model.Latest.{latest, when, users, have, labelled, guard_lines}
use Rattle.depot_rows.specs.depot_model.Numbers.{pending, pending_said, landing, landings}
use Rattle.depot_rows.specs.depot_model.Opened.{opened, owed, Resolve}
use Rattle.depot_rows.specs.depot_model.Records.{record_of, kind_of, form_text, numbered_record, protect_record, integrations, is_at, resolve_record, working_record, rev_record}
use Rattle.depot_rows.specs.depot_model.Revisions.{Revision, revision, revisions, entries_at}
use Rattle.depot_rows.specs.depot_model.Steps.Counters.{counter_of}
use Rattle.depot_rows.specs.Effects.{counter_row, group_row, form_row, have_row, label_row}
use Rattle.depot_rows.proofs.ChangeCounter.{change_of}
use Rattle.depot_rows.proofs.Keys.{at-is, number-is, same-is}
use Rattle.depot_rows.proofs.Lists.{found_passes}
use Rattle.depot_rows.proofs.Locks.{IsOf, opened-is}
use Rattle.depot_facts.proofs.PathTexts.{at_each}
use Rattle.depot_facts.proofs.Resolves.{owed_is, IsOwed}

abbrev pub HasKey : Key → Record → Type 0
HasKey q r = key_of r ≡ q

mapped : {A : Type 0} (q : Key) (made : A → Record) (o : Option A) → ((x : A) → o ≡ Some x → key_of (made x) ≡ q) → IfSome (option_map made o) (HasKey q)
mapped q made None h = tt
mapped q made (Some x) h = h x refl

numbered : (q : Key) (made : ℕ → Record) → ((n : ℕ) → key_of (made n) ≡ q) → (n : ℕ) → IfSome (numbered_record made n) (HasKey q)
numbered q made h n = go (n == 0)
  where
    go : (b : Bool) → IfSome (if b then None else Some (made n)) (HasKey q)
    go true = tt
    go false = h n

line_keyed : (n : ℕ) (words : List (List ℕ)) → IfSome (protect_record n words) (HasKey (keys.Protect n))
line_keyed n [] = tt
line_keyed n (a ∷ []) = tt
line_keyed n (a ∷ b ∷ []) = tt
line_keyed n (a ∷ b ∷ c ∷ []) = tt
line_keyed n (a ∷ b ∷ c ∷ d ∷ []) = tt
line_keyed n (a ∷ b ∷ c ∷ d ∷ e ∷ []) = refl
line_keyed n (a ∷ b ∷ c ∷ d ∷ e ∷ f ∷ g) = tt

lines_keyed : (n : ℕ) (o : Option (List ℕ)) → IfSome (option_and_then (λ line. protect_record n (words_of line)) o) (HasKey (keys.Protect n))
lines_keyed n None = tt
lines_keyed n (Some line) = line_keyed n (words_of line)

user_keyed : (group user : List ℕ) (b : Bool) → IfSome (if b then Some (group_row group user) else None) (HasKey (keys.Group group user))
user_keyed group user true = refl
user_keyed group user false = tt

form_keyed : (d : List Deed) (word name : List ℕ) → IfSome (record_of d (keys.Domain word name)) (HasKey (keys.Domain word name))
form_keyed d word name = go (kind_of word)
  where
    go : (o : Option SpecKind) → IfSome (option_and_then (λ kind. option_map (λ text. form_row word name text) (form_text kind d name)) o) (HasKey (keys.Domain word name))
    go None = tt
    go (Some kind) = mapped (keys.Domain word name) (λ text. form_row word name text) (form_text kind d name) (λ text e. refl)

-- a pending change has its number
number_is : (n : ℕ) (p : Pending) (d : List Deed) → pending d n ≡ Some p → p.change ≡ n
number_is n p [] e = absurd cc
number_is n p (Pend x ∷ d) e = go (x.change == n) refl e (number_is n p d)
  where
    go : (b : Bool) → (x.change == n) ≡ b → option_flatten (option_or (when b (Some x)) (latest (pending_said n) d)) ≡ Some p → (pending d n ≡ Some p → p.change ≡ n) → p.change ≡ n
    go true k h rest = let one : x ≡ p = cc in ap (λ (y : Pending). y.change) (sym one) ∙ number-is x.change n k
    go false k h rest = rest h
number_is n p (Drop m ∷ d) e = go (m == n) e (number_is n p d)
  where
    go : (b : Bool) → option_flatten (option_or (when b (let none : Option Pending = None in none)) (latest (pending_said n) d)) ≡ Some p → (pending d n ≡ Some p → p.change ≡ n) → p.change ≡ n
    go true h rest = absurd cc
    go false h rest = rest h
number_is n p (Land l ∷ d) e = go (l.change == n) e (number_is n p d)
  where
    go : (b : Bool) → option_flatten (option_or (when b (let none : Option Pending = None in none)) (latest (pending_said n) d)) ≡ Some p → (pending d n ≡ Some p → p.change ≡ n) → p.change ≡ n
    go true h rest = absurd cc
    go false h rest = rest h
number_is n p (_ ∷ d) e = number_is n p d e

change_keyed : (d : List Deed) (n : ℕ) → IfSome (record_of d (keys.Change n)) (HasKey (keys.Change n))
change_keyed d n = go (pending d n) (landing d n) (λ p e. number_is n p d e) (λ l e. number-is l.change n (found_passes (λ (l : Landing). l.change == n) (landings d) l e))
  where
    go : (p : Option Pending) (l : Option Landing) → ((x : Pending) → p ≡ Some x → x.change ≡ n) → ((x : Landing) → l ≡ Some x → x.change ≡ n)
        → IfSome (change_of p l) (HasKey (keys.Change n))
    go (Some p) l is landed = ap (λ (m : ℕ). keys.Change m) (is p refl)
    go None (Some l) is landed = ap (λ (m : ℕ). keys.Change m) (landed l refl)
    go None None is landed = tt

pair_keyed : (q : Key) (rs : List IntegedRecord) → IfSome (option_map (λ r. records.Integed r) (find (λ (r : IntegedRecord). is_at q (key_of (records.Integed r))) rs)) (HasKey q)
pair_keyed q rs = mapped q (λ r. records.Integed r) (find (λ (r : IntegedRecord). is_at q (key_of (records.Integed r))) rs)
    (λ r e. sym (at-is q (key_of (records.Integed r)) (found_passes (λ (r : IntegedRecord). is_at q (key_of (records.Integed r))) rs r e)))

-- a revision of a path has the path
abbrev AreAt : List ℕ → List Revision → Type 0
AreAt x [] = Unit {0}
AreAt x (r ∷ rs) = (r.entry.path ≡ x) × AreAt x rs

at_both : (x : List ℕ) (a b : List Revision) → AreAt x a → AreAt x b → AreAt x (a ++ b)
at_both x [] b h k = k
at_both x (r ∷ rs) b h k = (h.0, at_both x rs b h.1 k)

entries_there : (x : List ℕ) (l : Landing) (es : List Entry) → AreAt x (map (λ (e : Entry). record { landing = l; entry = e }) (filter (λ (e : Entry). same e.path x) es))
entries_there x l [] = tt
entries_there x l (e ∷ es) = go (same e.path x) refl (entries_there x l es)
  where
    go : (b : Bool) → same e.path x ≡ b → AreAt x (map (λ (e : Entry). record { landing = l; entry = e }) (filter (λ (e : Entry). same e.path x) es))
        → AreAt x (map (λ (e : Entry). record { landing = l; entry = e }) (cond b (e ∷ filter (λ (e : Entry). same e.path x) es) (filter (λ (e : Entry). same e.path x) es)))
    go true h rest = (same-is e.path x h, rest)
    go false h rest = rest

all_there : (d : List Deed) (x : List ℕ) → AreAt x (revisions d x)
all_there [] x = tt
all_there (Land l ∷ d) x = at_both x (revisions d x) (entries_at x l) (all_there d x) (entries_there x l l.entries)
all_there (_ ∷ d) x = all_there d x

got : (x : List ℕ) (rs : List Revision) (n : ℕ) (r : Revision) → AreAt x rs → slice_get rs n ≡ Some r → r.entry.path ≡ x
got x [] n r all e = absurd cc
got x (y ∷ ys) zero r all e = let one : y ≡ r = cc in ap (λ (z : Revision). z.entry.path) (sym one) ∙ all.0
got x (y ∷ ys) (suc n) r all e = got x ys n r all.1 e

revision_path : (d : List Deed) (x : List ℕ) (n : ℕ) (r : Revision) → revision d x n ≡ Some r → r.entry.path ≡ x
revision_path d x zero r e = absurd cc
revision_path d x (suc n) r e = got x (revisions d x) n r (all_there d x) e

pub keyed : (d : List Deed) (q : Key) → IfSome (record_of d q) (HasKey q)
keyed d (keys.Counter name) = mapped (keys.Counter name) (λ value. counter_row name value) (counter_of d name) (λ value e. refl)
keyed d (keys.Group group user) = user_keyed group user (list_any (same user) (users d group))
keyed d (keys.Protect zero) = tt
keyed d (keys.Protect (suc n)) = lines_keyed (suc n) (slice_get (guard_lines d) n)
keyed d (keys.Domain word name) = form_keyed d word name
keyed d (keys.Have client text) =
    at_each (HasKey (keys.Have client text)) text _ (λ x spelled. numbered (keys.Have client text) (have_row client text) (λ n. refl) (have d client x))
keyed d (keys.Label label text) =
    at_each (HasKey (keys.Label label text)) text _ (λ x spelled. numbered (keys.Label label text) (label_row label text) (λ n. refl) (labelled d label x))
keyed d (keys.Integed to from a b x y how change) = pair_keyed (keys.Integed to from a b x y how change) (integrations d)
keyed d (keys.Resolve client text from) =
    let q : Key = keys.Resolve client text from in
    at_each (HasKey q) text _ (λ x spelled. at_each (HasKey q) from _ (λ y source. go x y spelled source (owed d client x y) (owed_is d client x y)))
  where
    go : (x y : List ℕ) → printed x ≡ text → printed y ≡ from → (o : Option Resolve) → IfSome o (IsOwed client x y)
        → IfSome (option_map resolve_record o) (HasKey (keys.Resolve client text from))
    go x y spelled source None h = tt
    go x y spelled source (Some r) h = λ i. keys.Resolve (h.0 i) ((ap printed h.1 ∙ spelled) i) ((ap printed h.2 ∙ source) i)
keyed d (keys.Working text client) =
    at_each (HasKey (keys.Working text client)) text _ (λ x spelled. mapped (keys.Working text client) (working_record d) (opened d client x)
    (λ o e. let of : IsOf client x o = opened-is d client x o e in λ i. keys.Working ((ap printed of.1 ∙ spelled) i) (of.0 i)))
keyed d (keys.Change n) = change_keyed d n
keyed d (keys.Rev text n) =
    at_each (HasKey (keys.Rev text n)) text _ (λ x spelled. mapped (keys.Rev text n) (rev_record n) (revision d x n)
    (λ r e. ap (λ (t : List ℕ). keys.Rev t n) (ap printed (revision_path d x n r e) ∙ spelled)))
