-- Rows that differ at most in places of contents, before a deed and after it.
use Rattle.std.proofs.Common.{◌≡◌, ℕ, Bool, true, false, List, Option, Some, None, refl, sym, ap, ◌∙◌}
use Rattle.std.specs.Prelude.{codes, max, if◌then◌else◌, option_map}
use Rattle.std.specs.List.{list_any}
use Rattle.depot_model.specs.depot_path.Bytes.{same}
use Rattle.depot_model.specs.depot_path.Path.{printed}
use Rattle.depot_model.specs.db_records.declared.key.Key.{Key}
use Rattle.depot_model.specs.db_records.declared.key.Key.TheVariants as keys
use Rattle.depot_model.specs.db_records.declared.record.Record.{Record}
use Rattle.depot_model.specs.db_records.declared.record.Record.TheVariants as rows
use Rattle.depot_model.specs.Records.{is_at, unplaced, numbered_record}
use Rattle.depot_model.specs.Rules.{Rows, value_of, lock_of, top_in}
use Rattle.depot_model.specs.Latest.{kind_word}
use Rattle.depot_model.specs.Records.{pending_record}
use Rattle.depot_model.specs.Rows.{how_word}
use Rattle.depot_rows.specs.Deed.{kind_of, how_of, pending_of}
use Rattle.depot_rows.specs.Effects.{effect, put_at, raised, counter_row, form_row, have_row, label_row, counted, grouped, guarded, group_row, ended, is_ended, locked, landed, added, or_before, with_lock, with_how, working_row, working_key, owed_key, owed_row, paid_key}
use Rattle.depot_rows.proofs.Keys.{at-is}
use Rattle.depot_rows.specs.declared.deed.How.{How}
use Rattle.depot_model.specs.spec_form.Printing.{printed_form}
use Rattle.depot_model.specs.db_records.Key.{key_table}
use Rattle.depot_model.specs.db_records.declared.table.TableId.{TableId}
use Rattle.depot_rows.specs.declared.deed.Held.{Held}
use Rattle.depot_rows.specs.declared.deed.Opening.{Opening}
use Rattle.depot_rows.specs.declared.deed.Landing.{Landing}
use Rattle.depot_rows.specs.declared.deed.Deed.{Deed}
use Rattle.depot_rows.specs.declared.deed.Deed.TheVariants.{Spec, Guard, Group, Count, Pend, Drop, Open, Shut, Hold, Free, Got, Tag, Owe, Paid, Land}

abbrev pub AreAlike : Option Record → Option Record → Type 0
AreAlike a b = option_map unplaced a ≡ option_map unplaced b

-- rows of one table that are alike
abbrev pub AlikeIn : TableId → Rows → Rows → Type 0
AlikeIn table f g = (q : Key) → key_table q ≡ table → AreAlike (f q) (g q)

either : (b : Bool) (u v x y : Option Record) → AreAlike u v → AreAlike x y → AreAlike (if b then u else x) (if b then v else y)
either true u v x y e h = e
either false u v x y e h = h

put-alike : (table : TableId) (key : Key) (u v : Option Record) (f g : Rows) → (key_table key ≡ table → AreAlike u v) → AlikeIn table f g
    → AlikeIn table (put_at key u f) (put_at key v g)
put-alike table key u v f g here h q e = go (is_at key q) refl
  where
    go : (b : Bool) → is_at key q ≡ b → AreAlike (if b then u else f q) (if b then v else g q)
    go true is = here (ap key_table (at-is key q is) ∙ e)
    go false is = h q e

put-same : (table : TableId) (key : Key) (there : Option Record) (f g : Rows) → AlikeIn table f g → AlikeIn table (put_at key there f) (put_at key there g)
put-same table key there f g h = put-alike table key there there f g (λ e. refl) h

-- a place tells nothing of a lock or a counter's value, and a row is changed apart from it
value-unplaced : (o : Option Record) → value_of (option_map unplaced o) ≡ value_of o
value-unplaced None = refl
value-unplaced (Some r) = of r
  where
    of : (r : Record) → value_of (Some (unplaced r)) ≡ value_of (Some r)
    of (rows.Counter r) = refl
    of _ = refl

lock-unplaced : (o : Option Record) → lock_of (option_map unplaced o) ≡ lock_of o
lock-unplaced None = refl
lock-unplaced (Some r) = of r
  where
    of : (r : Record) → lock_of (Some (unplaced r)) ≡ lock_of (Some r)
    of (rows.Working r) = refl
    of _ = refl

same-value : (a b : Option Record) → AreAlike a b → value_of a ≡ value_of b
same-value a b e = sym (value-unplaced a) ∙ ap value_of e ∙ value-unplaced b

same-lock : (a b : Option Record) → AreAlike a b → lock_of a ≡ lock_of b
same-lock a b e = sym (lock-unplaced a) ∙ ap lock_of e ∙ lock-unplaced b

lock-changed : (n : ℕ) (o : Option Record) → option_map unplaced (option_map (with_lock n) o) ≡ option_map (with_lock n) (option_map unplaced o)
lock-changed n None = refl
lock-changed n (Some r) = of r
  where
    of : (r : Record) → Some (unplaced (with_lock n r)) ≡ Some (with_lock n (unplaced r))
    of (rows.Working r) = refl
    of (rows.Rev r) = refl
    of _ = refl

how-changed : (how : List ℕ) (o : Option Record) → option_map unplaced (option_map (with_how how) o) ≡ option_map (with_how how) (option_map unplaced o)
how-changed how None = refl
how-changed how (Some r) = of r
  where
    of : (r : Record) → Some (unplaced (with_how how r)) ≡ Some (with_how how (unplaced r))
    of (rows.Resolve r) = refl
    of (rows.Rev r) = refl
    of _ = refl

lock-alike : (n : ℕ) (a b : Option Record) → AreAlike a b → AreAlike (option_map (with_lock n) a) (option_map (with_lock n) b)
lock-alike n a b e = lock-changed n a ∙ ap (option_map (with_lock n)) e ∙ sym (lock-changed n b)

how-alike : (how : List ℕ) (a b : Option Record) → AreAlike a b → AreAlike (option_map (with_how how) a) (option_map (with_how how) b)
how-alike how a b e = how-changed how a ∙ ap (option_map (with_how how)) e ∙ sym (how-changed how b)

abbrev change_key : Key
change_key = keys.Counter (codes "change")

module _ (table : TableId) (f g : Rows) (h : AlikeIn table f g) where
  counted-alike : (name : List ℕ) (value : Option ℕ) → AlikeIn table (counted name value f) (counted name value g)
  counted-alike name value q e =
      let key : Key = keys.Counter name in
      let there : Option Record = option_map (counter_row name) value in
      either (same name (codes "change")) (f q) (g q) (put_at key there f q) (put_at key there g q) (h q e) (put-same table key there f g h q e)

  grouped-alike : (group : List ℕ) (users : List (List ℕ)) → AlikeIn table (grouped group users f) (grouped group users g)
  grouped-alike group users (keys.Group x user) e =
      let there : Option Record = if list_any (same user) users then Some (group_row x user) else None in
      either (same group x) there there (f (keys.Group x user)) (g (keys.Group x user)) refl (h (keys.Group x user) e)
  grouped-alike group users q e = h q e

  guarded-alike : (lines : List (List ℕ)) → AlikeIn table (guarded lines f) (guarded lines g)
  guarded-alike lines (keys.Protect n) e = refl
  guarded-alike lines q e = h q e

  ended-alike : (held : Held) → AlikeIn table (ended held f) (ended held g)
  ended-alike held q e = either (is_ended held q) None None (f q) (g q) refl (h q e)

  locked-alike : (held : Held) → AlikeIn table (locked held f) (locked held g)
  locked-alike held (keys.Working text client) e =
      let q : Key = keys.Working text client in
      let n : ℕ = if same held.client client then 1 else 0 in
      either (same (printed held.path) text) (option_map (with_lock n) (f q)) (option_map (with_lock n) (g q)) (f q) (g q)
      (lock-alike n (f q) (g q) (h q e)) (h q e)
  locked-alike held q e = h q e

  landed-alike : (l : Landing) → AlikeIn table (landed l f) (landed l g)
  landed-alike l q e = go (added l q)
    where
      go : (o : Option Record) → AreAlike (or_before o (f q)) (or_before o (g q))
      go None = h q e
      go (Some r) = refl

  opened-alike : (o : Opening) → AlikeIn table (effect (Open o) f) (effect (Open o) g)
  opened-alike o =
      let key : Key = keys.Working (printed o.path) o.client in
      put-alike table key (Some (working_row (lock_of (f key)) o)) (Some (working_row (lock_of (g key)) o)) f g
      (λ e. ap (λ (n : ℕ). option_map unplaced (Some (working_row n o))) (same-lock (f key) (g key) (h key e))) h

  freed-alike : (held : Held) → AlikeIn table (effect (Free held) f) (effect (Free held) g)
  freed-alike held =
      let key : Key = working_key held in
      put-alike table key (option_map (with_lock 0) (f key)) (option_map (with_lock 0) (g key)) f g (λ e. lock-alike 0 (f key) (g key) (h key e)) h

  paid-alike : (held : Held) (from : List ℕ) (how : How) → AlikeIn table (effect (Paid held from how) f) (effect (Paid held from how) g)
  paid-alike held from how =
      let key : Key = paid_key held from in
      let word : List ℕ = how_word (how_of how) in
      put-alike table key (option_map (with_how word) (f key)) (option_map (with_how word) (g key)) f g
      (λ e. how-alike word (f key) (g key) (h key e)) h

raised-alike : (table : TableId) (n : ℕ) (f g : Rows) → AlikeIn table f g → AlikeIn table (raised n f) (raised n g)
raised-alike table n f g h =
    let row : ℕ → Option Record = λ m. numbered_record (counter_row (codes "change")) (max n m) in
    put-alike table change_key (row (top_in f)) (row (top_in g)) f g
    (λ e. ap (λ (m : ℕ). option_map unplaced (row m)) (same-value (f change_key) (g change_key) (h change_key e))) h

-- a deed leaves rows of a table alike that were so
pub effect-alike : (table : TableId) (done : Deed) (f g : Rows) → AlikeIn table f g → AlikeIn table (effect done f) (effect done g)
effect-alike table (Spec kind name form) f g h =
    put-same table (keys.Domain (kind_word (kind_of kind)) name) (Some (form_row (kind_word (kind_of kind)) name (printed_form form))) f g h
effect-alike table (Guard lines) f g h = guarded-alike table f g h lines
effect-alike table (Group name users) f g h = grouped-alike table f g h name users
effect-alike table (Count name value) f g h = counted-alike table f g h name value
effect-alike table (Pend p) f g h =
    let key : Key = keys.Change p.change in
    let row : Option Record = Some (pending_record (pending_of p)) in
    raised-alike table p.change (put_at key row f) (put_at key row g) (put-same table key row f g h)
effect-alike table (Drop n) f g h = put-same table (keys.Change n) None f g h
effect-alike table (Open o) f g h = opened-alike table f g h o
effect-alike table (Shut held) f g h = ended-alike table f g h held
effect-alike table (Hold held) f g h = locked-alike table f g h held
effect-alike table (Free held) f g h = freed-alike table f g h held
effect-alike table (Got held rev) f g h =
    put-same table (keys.Have held.client (printed held.path)) (numbered_record (have_row held.client (printed held.path)) rev) f g h
effect-alike table (Tag label path rev) f g h =
    put-same table (keys.Label label (printed path)) (numbered_record (label_row label (printed path)) rev) f g h
effect-alike table (Owe o) f g h = put-same table (owed_key o) (Some (owed_row o)) f g h
effect-alike table (Paid held from how) f g h = paid-alike table f g h held from how
effect-alike table (Land l) f g h = raised-alike table l.change (landed l f) (landed l g) (landed-alike table f g h l)
