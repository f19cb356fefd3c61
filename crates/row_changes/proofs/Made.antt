-- The changes that entries make of rows are exactly what differs.
use Rattle.std.proofs.Common.{◌≡◌, Bool, true, false, cond, List, [], ◌∷◌, ◌++◌, map, Option, Some, None, refl, ap, sym, subst, ◌∙◌, append_assoc}
use Rattle.std.specs.Prelude.{unwrap_or}
use Rattle.std.specs.List.{AllByRecursion}
use Rattle.std.specs.List.Sorted.{IsStrictlySortedBy}
use Rattle.std.specs.Map.{lookup, keys_of}
use Rattle.std.specs.Ordering.{is_eq}
use Rattle.std.specs.declared.cmp.Ordering.{Ordering}
use Rattle.std.specs.declared.cmp.Ordering.TheVariants.{Less, Equal, Greater}
use Rattle.depot_rows.specs.db_records.declared.change.Change.{Change}
use Rattle.depot_rows.specs.db_records.declared.change.Op.TheVariants.{Put, Remove}
use Rattle.depot_rows.specs.db_records.declared.key.Key.{Key}
use Rattle.depot_rows.specs.db_records.declared.record.Record.{Record}
use Rattle.depot_rows.specs.db_records.Key.{key_cmp}
use Rattle.depot_rows.proofs.db_records.Order.{keys_equal}
use Rattle.depot_rows.specs.depot_model.Records.{is_at}
use Rattle.depot_rows.specs.depot_model.Rules.{Rows}
use Rattle.row_changes.specs.Stored.{HasKey}
use Rattle.row_changes.specs.Overlay.{Entries}
use Rattle.row_changes.specs.Difference.{IsDifference, listed, AreMade}
use Rattle.row_changes.specs.Differences.{changed_key, change_at}

-- one entry more
pub AreMade-push : (rows : Rows) (es : Entries) (cs : List Change) (e : Key × Option Record) (first : Option Change) → AreMade rows es cs → IsDifference (rows e.0) e.1 first → AreMade rows (es ++ e ∷ []) (cs ++ listed first)
unfolding AreMade
AreMade-push rows [] cs e None m d = (None, [], d, ap (λ (x : List Change). x ++ []) m, refl)
AreMade-push rows [] cs e (Some c) m d = (Some c, [], d, ap (λ (x : List Change). x ++ c ∷ []) m, refl)
AreMade-push rows (x ∷ xs) cs e first m d =
    (m.0, m.1 ++ listed first, m.2, ap (λ (x : List Change). x ++ listed first) m.3 ∙ append_assoc (listed m.0) m.1 (listed first), AreMade-push rows xs m.1 e first m.4 d)

-- a change has the key of the rows between which it is
pub changed-key : (q : Key) (before after : Option Record) (c : Change) → HasKey before q → HasKey after q → IsDifference before after (Some c) → changed_key c ≡ q
changed-key q None None c b a d = absurd cc
changed-key q None (Some new) c b a d = let one : c ≡ record { op = Put; row = new } = cc in ap changed_key one ∙ a
changed-key q (Some old) None c b a d = let one : c ≡ record { op = Remove; row = old } = cc in ap changed_key one ∙ b
changed-key q (Some old) (Some new) c b a d = ap changed_key d.1 ∙ a

pub difference-same : (row : Option Record) → IsDifference row row None
difference-same None = refl
difference-same (Some r) = refl

-- each entry has a row of its key alone
abbrev pub AreKeyed : Entries → Type 0
AreKeyed es = AllByRecursion (λ e. HasKey e.1 e.0) es

-- what holds of the entries' keys holds of the changes' keys
pub changed-all : (P : Key → Type 0) (rows : Rows) (es : Entries) (cs : List Change) → ((q : Key) → HasKey (rows q) q) → AreKeyed es → AreMade rows es cs → AllByRecursion P (keys_of es) → AllByRecursion P (map changed_key cs)
unfolding AreMade
changed-all P rows [] cs k j m all = subst (λ (x : List Change). AllByRecursion P (map changed_key x)) (sym m) tt
changed-all P rows (e ∷ es) cs k j m all = subst (λ (x : List Change). AllByRecursion P (map changed_key x)) (sym m.3) (go m.0 m.2 (changed-all P rows es m.1 k j.1 m.4 all.1))
  where
    go : (first : Option Change) → IsDifference (rows e.0) e.1 first → AllByRecursion P (map changed_key m.1) → AllByRecursion P (map changed_key (listed first ++ m.1))
    go None d rest = rest
    go (Some c) d rest = (subst P (sym (changed-key e.0 (rows e.0) e.1 c (k e.0) j.0 d)) all.0, rest)

pub changed-rising : (rows : Rows) (es : Entries) (cs : List Change) → ((q : Key) → HasKey (rows q) q) → AreKeyed es → AreMade rows es cs → IsStrictlySortedBy key_cmp (keys_of es) → IsStrictlySortedBy key_cmp (map changed_key cs)
unfolding AreMade IsStrictlySortedBy
changed-rising rows [] cs k j m s = subst (λ (x : List Change). IsStrictlySortedBy key_cmp (map changed_key x)) (sym m) tt
changed-rising rows (e ∷ es) cs k j m s = subst (λ (x : List Change). IsStrictlySortedBy key_cmp (map changed_key x)) (sym m.3) (go m.0 m.2 (changed-all (λ y. key_cmp e.0 y ≡ Less) rows es m.1 k j.1 m.4 s.0) (changed-rising rows es m.1 k j.1 m.4 s.1))
  where
    go : (first : Option Change) → IsDifference (rows e.0) e.1 first → AllByRecursion (λ y. key_cmp e.0 y ≡ Less) (map changed_key m.1)
        → IsStrictlySortedBy key_cmp (map changed_key m.1) → IsStrictlySortedBy key_cmp (map changed_key (listed first ++ m.1))
    go None d above rest = rest
    go (Some c) d above rest = (subst (λ (x : Key). AllByRecursion (λ y. key_cmp x y ≡ Less) (map changed_key m.1)) (sym (changed-key e.0 (rows e.0) e.1 c (k e.0) j.0 d)) above, rest)

-- no change has a key below all of them
pub change_at-none : (q : Key) (cs : List Change) → AllByRecursion (λ y. key_cmp q y ≡ Less) (map changed_key cs) → change_at cs q ≡ None
change_at-none q [] all = refl
change_at-none q (c ∷ cs) all = ap (λ (b : Bool). cond b (Some c) (change_at cs q)) (ap is_eq all.0) ∙ change_at-none q cs all.1

abbrev pub found : Entries → Key → Option (Option Record)
found es q = lookup (λ x. is_eq (key_cmp q x)) es

pub equal-keys : (q x : Key) → is_at q x ≡ true → q ≡ x
equal-keys q x h = (keys_equal q x).0 (go (key_cmp q x) h)
  where
    go : (o : Ordering) → is_eq o ≡ true → o ≡ Equal
    go Less h = absurd cc
    go Equal h = refl
    go Greater h = absurd cc

itself : (q : Key) → is_eq (key_cmp q q) ≡ true
itself q = ap is_eq ((keys_equal q q).1 refl)

pub differences-each : (rows : Rows) (es : Entries) (cs : List Change) → ((q : Key) → HasKey (rows q) q) → AreKeyed es → AreMade rows es cs → IsStrictlySortedBy key_cmp (keys_of es)
    → (q : Key) → IsDifference (rows q) (unwrap_or (found es q) (rows q)) (change_at cs q)
unfolding AreMade IsStrictlySortedBy
differences-each rows [] cs k j m s q = subst (λ (x : List Change). IsDifference (rows q) (rows q) (change_at x q)) (sym m) (difference-same (rows q))
differences-each rows (e ∷ es) cs k j m s q =
    subst (λ (x : List Change). IsDifference (rows q) (unwrap_or (cond (is_eq (key_cmp q e.0)) (Some e.1) (found es q)) (rows q)) (change_at x q)) (sym m.3)
    (go m.0 m.2 (is_eq (key_cmp q e.0)) refl (differences-each rows es m.1 k j.1 m.4 s.1 q)
    (changed-all (λ y. key_cmp e.0 y ≡ Less) rows es m.1 k j.1 m.4 s.0))
  where
    here : (first : Option Change) → IsDifference (rows e.0) e.1 first → AllByRecursion (λ y. key_cmp e.0 y ≡ Less) (map changed_key m.1)
        → IsDifference (rows e.0) e.1 (change_at (listed first ++ m.1) e.0)
    here None d above = subst (λ (x : Option Change). IsDifference (rows e.0) e.1 x) (sym (change_at-none e.0 m.1 above)) d
    here (Some c) d above =
        let is : changed_key c ≡ e.0 = changed-key e.0 (rows e.0) e.1 c (k e.0) j.0 d in
        let at : is_at e.0 (changed_key c) ≡ true = ap (λ (x : Key). is_at e.0 x) is ∙ itself e.0 in
        subst (λ (b : Bool). IsDifference (rows e.0) e.1 (cond b (Some c) (change_at m.1 e.0))) (sym at) d

    there : (first : Option Change) → IsDifference (rows e.0) e.1 first → is_eq (key_cmp q e.0) ≡ false
        → IsDifference (rows q) (unwrap_or (found es q) (rows q)) (change_at m.1 q) → IsDifference (rows q) (unwrap_or (found es q) (rows q)) (change_at (listed first ++ m.1) q)
    there None d n rest = rest
    there (Some c) d n rest =
        let at : is_at q (changed_key c) ≡ false = ap (λ (x : Key). is_at q x) (changed-key e.0 (rows e.0) e.1 c (k e.0) j.0 d) ∙ n in
        subst (λ (b : Bool). IsDifference (rows q) (unwrap_or (found es q) (rows q)) (cond b (Some c) (change_at m.1 q))) (sym at) rest

    go : (first : Option Change) → IsDifference (rows e.0) e.1 first → (b : Bool) → is_eq (key_cmp q e.0) ≡ b
        → IsDifference (rows q) (unwrap_or (found es q) (rows q)) (change_at m.1 q) → AllByRecursion (λ y. key_cmp e.0 y ≡ Less) (map changed_key m.1)
        → IsDifference (rows q) (unwrap_or (cond (is_eq (key_cmp q e.0)) (Some e.1) (found es q)) (rows q)) (change_at (listed first ++ m.1) q)
    go first d true is rest above =
        let one : e.0 ≡ q = sym (equal-keys q e.0 is) in
        subst (λ (b : Bool). IsDifference (rows q) (unwrap_or (cond b (Some e.1) (found es q)) (rows q)) (change_at (listed first ++ m.1) q)) (sym is)
        (subst (λ (x : Key). IsDifference (rows x) e.1 (change_at (listed first ++ m.1) x)) one (here first d above))
    go first d false is rest above =
        subst (λ (b : Bool). IsDifference (rows q) (unwrap_or (cond b (Some e.1) (found es q)) (rows q)) (change_at (listed first ++ m.1) q)) (sym is) (there first d is rest)
