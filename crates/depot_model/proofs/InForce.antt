-- The contents in force behind lines of a script, by a look-up of a file.
use Rattle.std.proofs.Common.{◌≡◌, ◌≤◌, ℕ, zero, suc, ◌+◌, Bool, true, false, List, [], ◌∷◌, Option, Some, None, refl, sym, ap, subst, ◌∙◌, true≢false, arith, add-one}
use Rattle.std.specs.Prelude.{◌==◌, ◌&&◌, if◌then◌else◌, map, option_map, find, IfSome, IsTrue}
use Rattle.std.specs.List.{list_all}
use Rattle.std.specs.Map.{lookup}
use Rattle.std.specs.Option.{unwrap_or}
use Rattle.std.proofs.lemmas.Bool.Decides.{Decides-eqb}
use Rattle.indexmap.specs.IndexMap.{insert_entry, shift_remove_entry}
use Rattle.db_records.specs.depot_path.Bytes.{same}
use Rattle.depot_model.specs.declared.contents.FileLine.{FileLine}
use Rattle.depot_model.specs.declared.request.Content.{Content}
use Rattle.depot_model.specs.Contents.{Files, Said, said_at, said_to, lines_of, with_line, named, after_line, contents_after, content_of, are_bytes, newest, AreTold, IsOneMore}
use Rattle.depot_model.specs.Steps.Submitting.{block_at}
use Rattle.depot_model.proofs.Lines.{same-is, said_other, said_new, stays, newest_step}

abbrev Held : Type 0
Held = List (List ℕ × List ℕ)

abbrev held : List ℕ → Held → Option (List ℕ)
held q contents = block_at (map content_of contents) q

abbrev held_if : Bool → List ℕ × List ℕ → List ℕ → Held → Option (List ℕ)
held_if b e q contents = if b then Some e.1 else held q contents

held_first : (e : List ℕ × List ℕ) (contents : Held) (q : List ℕ) → held q (e ∷ contents) ≡ held_if (same e.0 q) e q contents
held_first e contents q = go (same e.0 q)
  where
    go : (b : Bool) → option_map (λ (c : Content). c.bytes) (if b then Some (content_of e) else find (λ (c : Content). same c.path q) (map content_of contents)) ≡ held_if b e q contents
    go true = refl
    go false = refl

apart_from : (p e q : List ℕ) → same p e ≡ false → same e q ≡ true → same p q ≡ false
apart_from p e q differs is = ap (same p) (sym (same-is e q is)) ∙ differs

-- ---- a content is put

inserted : (contents : Held) (path bytes q : List ℕ) → held q (insert_entry same contents path bytes) ≡ (if same path q then Some bytes else held q contents)
inserted [] path bytes q = held_first (path, bytes) [] q
inserted (e ∷ contents) path bytes q = go (same path e.0) refl (inserted contents path bytes q)
  where
    both : (b : Bool) → held_if b (e.0, bytes) q contents ≡ (if b then Some bytes else held_if b e q contents)
    both true = refl
    both false = refl

    other : (a b : Bool) → same path e.0 ≡ false → same e.0 q ≡ a → same path q ≡ b
        → held q (insert_entry same contents path bytes) ≡ (if b then Some bytes else held q contents)
        → held_if a e q (insert_entry same contents path bytes) ≡ (if b then Some bytes else held_if a e q contents)
    other true true differs f g later = absurd (true≢false (sym g ∙ apart_from path e.0 q differs f))
    other true false differs f g later = refl
    other false b differs f g later = later

    go : (b : Bool) → same path e.0 ≡ b → held q (insert_entry same contents path bytes) ≡ (if same path q then Some bytes else held q contents)
        → held q (if b then (e.0, bytes) ∷ contents else e ∷ insert_entry same contents path bytes) ≡ (if same path q then Some bytes else held q (e ∷ contents))
    go true is later =
        held_first (e.0, bytes) contents q
        ∙ (both (same e.0 q)
        ∙ sym ((λ i. if same (same-is path e.0 is i) q then Some bytes else held_first e contents q i)))
    go false differs later =
        held_first e (insert_entry same contents path bytes) q
        ∙ (other (same e.0 q) (same path q) differs refl refl later
        ∙ sym (ap (λ (o : Option (List ℕ)). if same path q then Some bytes else o) (held_first e contents q)))

-- ---- a file is cleared

-- no file is named twice
abbrev pub AreApart : Held → Type 0
AreApart [] = Unit {0}
AreApart (e ∷ contents) = (held e.0 contents ≡ None) × AreApart contents

removed : (contents : Held) (path q : List ℕ) → AreApart contents → held q (shift_remove_entry (same path) contents) ≡ (if same path q then None else held q contents)
removed [] path q apart = go (same path q)
  where
    go : (b : Bool) → held q [] ≡ (if b then None else held q [])
    go true = refl
    go false = refl
removed (e ∷ contents) path q apart = go (same path e.0) refl (removed contents path q apart.1)
  where
    both : (b : Bool) → same e.0 q ≡ b → held q contents ≡ (if b then None else held_if b e q contents)
    both true f = sym (ap (λ (p : List ℕ). held p contents) (same-is e.0 q f)) ∙ apart.0
    both false f = refl

    other : (a b : Bool) → same path e.0 ≡ false → same e.0 q ≡ a → same path q ≡ b
        → held q (shift_remove_entry (same path) contents) ≡ (if b then None else held q contents)
        → held_if a e q (shift_remove_entry (same path) contents) ≡ (if b then None else held_if a e q contents)
    other true true differs f g later = absurd (true≢false (sym g ∙ apart_from path e.0 q differs f))
    other true false differs f g later = refl
    other false b differs f g later = later

    go : (b : Bool) → same path e.0 ≡ b → held q (shift_remove_entry (same path) contents) ≡ (if same path q then None else held q contents)
        → held q (if b then contents else e ∷ shift_remove_entry (same path) contents) ≡ (if same path q then None else held q (e ∷ contents))
    go true is later =
        both (same e.0 q) refl
        ∙ sym ((λ i. if same (same-is path e.0 is i) q then None else held_first e contents q i))
    go false differs later =
        held_first e (shift_remove_entry (same path) contents) q
        ∙ (other (same e.0 q) (same path q) differs refl refl later
        ∙ sym (ap (λ (o : Option (List ℕ)). if same path q then None else o) (held_first e contents q)))

apart_inserted : (contents : Held) (path bytes : List ℕ) → AreApart contents → AreApart (insert_entry same contents path bytes)
apart_inserted [] path bytes apart = (refl, tt)
apart_inserted (e ∷ contents) path bytes apart = go (same path e.0) refl (apart_inserted contents path bytes apart.1)
  where
    go : (b : Bool) → same path e.0 ≡ b → AreApart (insert_entry same contents path bytes)
        → AreApart (if b then (e.0, bytes) ∷ contents else e ∷ insert_entry same contents path bytes)
    go true is later = apart
    go false differs later = (inserted contents path bytes e.0 ∙ (ap (λ (b : Bool). if b then Some bytes else held e.0 contents) differs ∙ apart.0), later)

apart_removed : (contents : Held) (path : List ℕ) → AreApart contents → AreApart (shift_remove_entry (same path) contents)
apart_removed [] path apart = tt
apart_removed (e ∷ contents) path apart = go (same path e.0) refl (apart_removed contents path apart.1)
  where
    go : (b : Bool) → same path e.0 ≡ b → AreApart (shift_remove_entry (same path) contents)
        → AreApart (if b then contents else e ∷ shift_remove_entry (same path) contents)
    go true is later = apart.1
    go false differs later = (removed contents path e.0 apart.1 ∙ (ap (λ (b : Bool). if b then None else held e.0 contents) differs ∙ apart.0), later)

-- ---- a line is passed

after_named : (contents : Held) (said : Said) (q : List ℕ) → AreApart contents
    → (held q (named said.0 said.1 contents) ≡ unwrap_or (said_to q (Some said)) (held q contents)) × AreApart (named said.0 said.1 contents)
after_named contents said q apart = go said.1
  where
    put : (b : Bool) (o : Option (List ℕ)) → (if b then o else held q contents) ≡ unwrap_or (if b then Some o else None) (held q contents)
    put true o = refl
    put false o = refl

    go : (bytes : Option (List ℕ))
        → (held q (named said.0 bytes contents) ≡ unwrap_or (if same said.0 q then Some bytes else None) (held q contents)) × AreApart (named said.0 bytes contents)
    go (Some bytes) = (inserted contents said.0 bytes q ∙ put (same said.0 q) (Some bytes), apart_inserted contents said.0 bytes apart)
    go None = (removed contents said.0 q apart ∙ put (same said.0 q) None, apart_removed contents said.0 apart)

after_said : (contents : Held) (said : Option Said) (q : List ℕ) → AreApart contents
    → (held q (after_line said contents) ≡ unwrap_or (said_to q said) (held q contents)) × AreApart (after_line said contents)
after_said contents None q apart = (refl, apart)
after_said contents (Some said) q apart = after_named contents said q apart

-- a look-up finds what the last line says that names the file
found : (lines : ℕ) (files : Files) → AreTold lines files → (n : ℕ) (q : List ℕ)
    → (held q (contents_after n files) ≡ newest None n (lines_of files q)) × AreApart (contents_after n files)
found lines files told zero q = (sym (stays None 0 0 (lines_of files q) (told.rising q) (omega arith)), tt)
found lines files told (suc n) q =
    let was = found lines files told n q in
    let now = after_said (contents_after n files) (said_at n files) q was.1 in (
      now.0
          ∙ ((λ i. unwrap_or (sym (told.told q n) i) (was.0 i))
          ∙ sym (newest_step None 0 n (lines_of files q) (told.rising q))),
      now.1,
    )

pub look_up : (lines : ℕ) (files : Files) → AreTold lines files → (n : ℕ) (q : List ℕ) (said : Option (List FileLine)) → said ≡ lookup (same q) files
    → newest None n (unwrap_or said []) ≡ held q (contents_after n files)
look_up lines files told n q said is = ap (λ (o : Option (List FileLine)). newest None n (unwrap_or o [])) is ∙ sym (found lines files told n q).0

-- ---- one line more

earlier : (files : Files) (path : List ℕ) (x : FileLine) (n : ℕ) → n ≤ x.line → contents_after n (with_line files path x) ≡ contents_after n files
earlier files path x zero le = refl
earlier files path x (suc n) le = λ i. after_line (said_other n files path x (apart (x.line == n) refl) i) (earlier files path x n (omega arith) i)
  where
    apart : (b : Bool) → (x.line == n) ≡ b → b ≡ false
    apart true e = absurd (let is = (Decides-eqb x.line n).0 e in omega arith)
    apart false e = refl

pub one_more : (lines : ℕ) (files : Files) → AreTold lines files → (path : List ℕ) (x : FileLine) → x.line ≡ lines
    → IsOneMore (record { lines = lines; files = files }) (record { lines = lines + 1; files = with_line files path x }) path x.bytes
one_more lines files told path x is = record {
  lines = refl;
  earlier = λ n le. earlier files path x n (omega arith);
  last = subst (λ (n : ℕ). contents_after n (with_line files path x) ≡ named path x.bytes (contents_after lines files)) (sym (add-one lines)) last;
}
  where
    now : said_at lines (with_line files path x) ≡ Some (path, x.bytes)
    now = subst (λ (n : ℕ). said_at n (with_line files path x) ≡ Some (path, x.bytes)) is (said_new files path x (told.ahead x.line (omega arith)))

    last : contents_after (suc lines) (with_line files path x) ≡ named path x.bytes (contents_after lines files)
    last = λ i. after_line (now i) (earlier files path x lines (omega arith) i)

-- ---- a test that all contents pass

module _ (test : Content → Bool) where
  abbrev all_pass : Held → Bool
  all_pass contents = list_all test (map content_of contents)

  left_true : (a b : Bool) → (a && b) ≡ true → a ≡ true
  left_true true b e = refl
  left_true false b e = absurd cc

  right_true : (a b : Bool) → (a && b) ≡ true → b ≡ true
  right_true true b e = e
  right_true false b e = absurd cc

  pub all_inserted : (contents : Held) (path bytes : List ℕ) → test (content_of (path, bytes)) ≡ true → all_pass contents ≡ true
      → all_pass (insert_entry same contents path bytes) ≡ true
  all_inserted [] path bytes one all = λ i. one i && true
  all_inserted (e ∷ contents) path bytes one all =
      go (same path e.0) refl (all_inserted contents path bytes one (right_true (test (content_of e)) (all_pass contents) all))
    where
      go : (b : Bool) → same path e.0 ≡ b → all_pass (insert_entry same contents path bytes) ≡ true
          → all_pass (if b then (e.0, bytes) ∷ contents else e ∷ insert_entry same contents path bytes) ≡ true
      go true is later =
          λ i. subst (λ (p : List ℕ). test (content_of (p, bytes)) ≡ true) (same-is path e.0 is) one i && right_true (test (content_of e)) (all_pass contents) all i
      go false differs later = λ i. left_true (test (content_of e)) (all_pass contents) all i && later i

  pub all_removed : (contents : Held) (path : List ℕ) → all_pass contents ≡ true → all_pass (shift_remove_entry (same path) contents) ≡ true
  all_removed [] path all = refl
  all_removed (e ∷ contents) path all = go (same path e.0) (all_removed contents path (right_true (test (content_of e)) (all_pass contents) all))
    where
      go : (b : Bool) → all_pass (shift_remove_entry (same path) contents) ≡ true
          → all_pass (if b then contents else e ∷ shift_remove_entry (same path) contents) ≡ true
      go true later = right_true (test (content_of e)) (all_pass contents) all
      go false later = λ i. left_true (test (content_of e)) (all_pass contents) all i && later i

-- all bytes are below 256
abbrev has_bytes : Content → Bool
has_bytes content = are_bytes content.bytes

pub all_bytes : (lines : ℕ) (files : Files) → AreTold lines files → (n : ℕ) → list_all has_bytes (map content_of (contents_after n files)) ≡ true
all_bytes lines files told zero = refl
all_bytes lines files told (suc n) = go (said_at n files) (told.bytes n) (all_bytes lines files told n)
  where
    go : (said : Option Said) → IfSome said (λ (s : Said). IfSome s.1 (λ (bs : List ℕ). IsTrue (are_bytes bs)))
        → list_all has_bytes (map content_of (contents_after n files)) ≡ true → list_all has_bytes (map content_of (after_line said (contents_after n files))) ≡ true
    go None h all = all
    go (Some said) h all = by said.1 h
      where
        by : (bytes : Option (List ℕ)) → IfSome bytes (λ (bs : List ℕ). IsTrue (are_bytes bs))
            → list_all has_bytes (map content_of (named said.0 bytes (contents_after n files))) ≡ true
        by (Some bytes) small = all_inserted has_bytes (contents_after n files) said.0 bytes small all
        by None small = all_removed has_bytes (contents_after n files) said.0 all
