-- What the lines of a script say of files, where one more names a file, and what the last of some first lines says.
use Rattle.std.proofs.Common.{◌≡◌, ◌≤◌, ◌<◌, ℕ, zero, suc, ◌+◌, Bool, true, false, List, [], ◌∷◌, ◌++◌, length, get_or, Option, Some, None, refl, sym, ap, subst, ◌∙◌, true≢false, arith}
use Rattle.std.specs.Prelude.{◌==◌, nat_lt, if◌then◌else◌, option_map, IfSome, IsTrue}
use Rattle.std.specs.List.{AllWithin}
use Rattle.std.specs.List.Sorted.{IsNonDecreasingBy}
use Rattle.std.specs.Map.{lookup, set_value}
use Rattle.std.specs.Option.{option_or, unwrap_or}
use Rattle.std.proofs.lemmas.Bool.Decides.{Decides-eqb, nat_tests}
use Rattle.std.proofs.lemmas.Slice.Eq.{bytes_eq-Decides}
use Rattle.indexmap.specs.IndexMap.{insert_entry}
use Rattle.db_records.specs.depot_path.Bytes.{same}
use Rattle.depot_model.specs.declared.contents.FileLine.{FileLine}
use Rattle.depot_model.specs.Contents.{Files, Said, line_at, said_of, said_at, said_to, lines_of, with_line, AreRising, AreTold, newest, are_bytes}

pub same-is : (a b : List ℕ) → same a b ≡ true → a ≡ b
same-is a b e = (bytes_eq-Decides a b).0 e

pub same-turned : (a b : List ℕ) → same a b ≡ same b a
same-turned a b = go (same a b) (same b a) refl refl
  where
    go : (r s : Bool) → same a b ≡ r → same b a ≡ s → r ≡ s
    go true true e f = refl
    go false false e f = refl
    go true false e f = absurd (true≢false (sym ((bytes_eq-Decides b a).1 (sym (same-is a b e))) ∙ f))
    go false true e f = absurd (true≢false (sym ((bytes_eq-Decides a b).1 (sym (same-is b a f))) ∙ e))

or_none : {A : Type 0} (x : Option A) → option_or x None ≡ x
or_none None = refl
or_none (Some x) = refl

-- ---- lines of a file

pushed : (n : ℕ) (lines : List FileLine) (x : FileLine) → line_at n (lines ++ x ∷ []) ≡ option_or (line_at n lines) (line_at n (x ∷ []))
pushed n [] x = refl
pushed n (l ∷ lines) x = go (l.line == n) (pushed n lines x)
  where
    go : (b : Bool) → line_at n (lines ++ x ∷ []) ≡ option_or (line_at n lines) (line_at n (x ∷ [])) → (if b then Some l else line_at n (lines ++ x ∷ [])) ≡ option_or (if b then Some l else line_at n lines) (line_at n (x ∷ []))
    go true later = refl
    go false later = later

pub pushed_other : (n : ℕ) (lines : List FileLine) (x : FileLine) → (x.line == n) ≡ false → line_at n (lines ++ x ∷ []) ≡ line_at n lines
pushed_other n lines x e =
    pushed n lines x ∙ (ap (λ (b : Bool). option_or (line_at n lines) (if b then Some x else None)) e ∙ or_none (line_at n lines))

pub pushed_new : (lines : List FileLine) (x : FileLine) → line_at x.line lines ≡ None → line_at x.line (lines ++ x ∷ []) ≡ Some x
pushed_new lines x none =
    pushed x.line lines x
    ∙ (ap (λ (o : Option FileLine). option_or o (line_at x.line (x ∷ []))) none ∙ ap (λ (b : Bool). if b then Some x else None) ((Decides-eqb x.line x.line).1 refl))

-- ---- what lines say, where one more names a file

said_none : (path : List ℕ) (o : Option FileLine) → said_of path o ≡ None → o ≡ None
said_none path None e = refl
said_none path (Some l) e = absurd cc

or_left : {A : Type 0} (x y : Option A) → option_or x y ≡ None → x ≡ None
or_left None y e = refl
or_left (Some x) y e = absurd cc

or_right : {A : Type 0} (x y : Option A) → option_or x y ≡ None → y ≡ None
or_right None y e = e
or_right (Some x) y e = absurd cc

pub said_other : (n : ℕ) (files : Files) (path : List ℕ) (x : FileLine) → (x.line == n) ≡ false → said_at n (with_line files path x) ≡ said_at n files
said_other n [] path x e = ap (λ (b : Bool). option_or (said_of path (if b then Some x else None)) None) e
said_other n (file ∷ files) path x e = go (same path file.0) (said_other n files path x e)
  where
    go : (b : Bool) → said_at n (with_line files path x) ≡ said_at n files
        → said_at n (if b then (file.0, file.1 ++ x ∷ []) ∷ files else file ∷ with_line files path x) ≡ said_at n (file ∷ files)
    go true later = ap (λ (o : Option FileLine). option_or (said_of file.0 o) (said_at n files)) (pushed_other n file.1 x e)
    go false later = ap (λ (o : Option Said). option_or (said_of file.0 (line_at n file.1)) o) later

pub said_new : (files : Files) (path : List ℕ) (x : FileLine) → said_at x.line files ≡ None → said_at x.line (with_line files path x) ≡ Some (path, x.bytes)
said_new [] path x none = ap (λ (b : Bool). option_or (said_of path (if b then Some x else None)) None) ((Decides-eqb x.line x.line).1 refl)
said_new (file ∷ files) path x none =
    go (same path file.0) refl (said_new files path x (or_right (said_of file.0 (line_at x.line file.1)) (said_at x.line files) none))
  where
    here : line_at x.line file.1 ≡ None
    here = said_none file.0 (line_at x.line file.1) (or_left (said_of file.0 (line_at x.line file.1)) (said_at x.line files) none)

    go : (b : Bool) → same path file.0 ≡ b → said_at x.line (with_line files path x) ≡ Some (path, x.bytes)
        → said_at x.line (if b then (file.0, file.1 ++ x ∷ []) ∷ files else file ∷ with_line files path x) ≡ Some (path, x.bytes)
    go true e later =
        ap (λ (o : Option FileLine). option_or (said_of file.0 o) (said_at x.line files)) (pushed_new file.1 x here)
        ∙ ap (λ (p : List ℕ). Some (p, x.bytes)) (sym (same-is path file.0 e))
    go false e later = ap (λ (o : Option FileLine). option_or (said_of file.0 o) (said_at x.line (with_line files path x))) here ∙ later

-- ---- the lines of each file, where one more names a file

pub lines_pushed : (files : Files) (path : List ℕ) (x : FileLine) (q : List ℕ)
    → lines_of (with_line files path x) q ≡ (if same q path then lines_of files q ++ x ∷ [] else lines_of files q)
lines_pushed [] path x q = go (same q path)
  where
    go : (b : Bool) → unwrap_or (if b then Some (x ∷ []) else None) [] ≡ (if b then [] ++ x ∷ [] else [])
    go true = refl
    go false = refl
lines_pushed (file ∷ files) path x q = go (same path file.0) refl (lines_pushed files path x q)
  where
    both : (b : Bool) → unwrap_or (if b then Some (file.1 ++ x ∷ []) else lookup (same q) files) []
        ≡ (if b then unwrap_or (if b then Some file.1 else lookup (same q) files) [] ++ x ∷ [] else unwrap_or (if b then Some file.1 else lookup (same q) files) [])
    both true = refl
    both false = refl

    other : (a b : Bool) → same path file.0 ≡ false → same q file.0 ≡ a → same q path ≡ b
        → unwrap_or (lookup (same q) (with_line files path x)) [] ≡ (if b then unwrap_or (lookup (same q) files) [] ++ x ∷ [] else unwrap_or (lookup (same q) files) [])
        → unwrap_or (if a then Some file.1 else lookup (same q) (with_line files path x)) []
        ≡ (if b then unwrap_or (if a then Some file.1 else lookup (same q) files) [] ++ x ∷ [] else unwrap_or (if a then Some file.1 else lookup (same q) files) [])
    other true true apart e f later = absurd (true≢false (sym e ∙ (ap (λ (p : List ℕ). same p file.0) (same-is q path f) ∙ apart)))
    other true false apart e f later = refl
    other false b apart e f later = later

    go : (b : Bool) → same path file.0 ≡ b → lines_of (with_line files path x) q ≡ (if same q path then lines_of files q ++ x ∷ [] else lines_of files q)
        → lines_of (if b then (file.0, file.1 ++ x ∷ []) ∷ files else file ∷ with_line files path x) q
        ≡ (if same q path then lines_of (file ∷ files) q ++ x ∷ [] else lines_of (file ∷ files) q)
    go true e later = subst (λ (p : List ℕ). lines_of ((file.0, file.1 ++ x ∷ []) ∷ files) q ≡ (if same q p then lines_of (file ∷ files) q ++ x ∷ [] else lines_of (file ∷ files) q))
        (sym (same-is path file.0 e)) (both (same q file.0))
    go false e later = other (same q file.0) (same q path) e refl refl later

-- ---- how a line is added

pub set_line : (files : Files) (path : List ℕ) (lines : List FileLine) (x : FileLine) → lookup (same path) files ≡ Some lines
    → set_value (same path) files (lines ++ x ∷ []) ≡ with_line files path x
set_line [] path lines x e = absurd cc
set_line (file ∷ files) path lines x e = go (same path file.0) e (set_line files path lines x)
  where
    go : (b : Bool) → (if b then Some file.1 else lookup (same path) files) ≡ Some lines
        → (lookup (same path) files ≡ Some lines → set_value (same path) files (lines ++ x ∷ []) ≡ with_line files path x)
        → (if b then (file.0, lines ++ x ∷ []) ∷ files else file ∷ set_value (same path) files (lines ++ x ∷ []))
        ≡ (if b then (file.0, file.1 ++ x ∷ []) ∷ files else file ∷ with_line files path x)
    go true is later = ap (λ (o : Option (List FileLine)). (file.0, unwrap_or o [] ++ x ∷ []) ∷ files) (sym is)
    go false is later = ap (λ (fs : Files). file ∷ fs) (later is)

pub insert_line : (files : Files) (path : List ℕ) (x : FileLine) → lookup (same path) files ≡ None → insert_entry same files path (x ∷ []) ≡ with_line files path x
insert_line [] path x e = refl
insert_line (file ∷ files) path x e = go (same path file.0) e (insert_line files path x)
  where
    go : (b : Bool) → (if b then Some file.1 else lookup (same path) files) ≡ None
        → (lookup (same path) files ≡ None → insert_entry same files path (x ∷ []) ≡ with_line files path x)
        → (if b then (file.0, x ∷ []) ∷ files else file ∷ insert_entry same files path (x ∷ []))
        ≡ (if b then (file.0, file.1 ++ x ∷ []) ∷ files else file ∷ with_line files path x)
    go true is later = absurd cc
    go false is later = ap (λ (fs : Files). file ∷ fs) (later is)

-- ---- lines in their order

not_at : (a b : ℕ) → a < b → (a == b) ≡ false
not_at a b h = go (a == b) refl
  where
    go : (r : Bool) → (a == b) ≡ r → r ≡ false
    go true e = absurd (let is = (Decides-eqb a b).0 e in omega arith)
    go false e = refl

not_behind : (a b : ℕ) → b < a → (a == b) ≡ false
not_behind a b h = go (a == b) refl
  where
    go : (r : Bool) → (a == b) ≡ r → r ≡ false
    go true e = absurd (let is = (Decides-eqb a b).0 e in omega arith)
    go false e = refl

-- no line has a number before the first
pub none_before : (from n : ℕ) (lines : List FileLine) → AreRising from lines → n < from → line_at n lines ≡ None
none_before from n [] up h = refl
none_before from n (l ∷ lines) up h =
    ap (λ (b : Bool). if b then Some l else line_at n lines) (not_behind l.line n (let first = up.0 in omega arith))
    ∙ none_before (suc l.line) n lines up.1 (let first = up.0 in omega arith)

-- a line behind all others
pub rising_pushed : (from : ℕ) (lines : List FileLine) (x : FileLine) → AreRising from lines → from ≤ x.line → ((n : ℕ) → x.line ≤ n → line_at n lines ≡ None)
    → AreRising from (lines ++ x ∷ [])
rising_pushed from [] x up h none = (h, tt)
rising_pushed from (l ∷ lines) x up h none =
    (up.0, rising_pushed (suc l.line) lines x up.1 (below (nat_lt l.line x.line) refl) (λ n le. later n le))
  where
    below : (b : Bool) → nat_lt l.line x.line ≡ b → suc l.line ≤ x.line
    below true e = grind (arith, nat_tests)
    below false e =
        let at : x.line ≤ l.line = grind (arith, nat_tests) in
        let some : Some l ≡ None = sym (ap (λ (b : Bool). if b then Some l else line_at l.line lines) ((Decides-eqb l.line l.line).1 refl)) ∙ none l.line at in
        absurd cc

    later : (n : ℕ) → x.line ≤ n → line_at n lines ≡ None
    later n le =
        let lower = below (nat_lt l.line x.line) refl in
        sym (ap (λ (b : Bool). if b then Some l else line_at n lines) (not_at l.line n (omega arith))) ∙ none n le

-- ---- what the last of some first lines says

pub stays : (bytes : Option (List ℕ)) (from n : ℕ) (lines : List FileLine) → AreRising from lines → n ≤ from → newest bytes n lines ≡ bytes
stays bytes from n [] up h = refl
stays bytes from n (l ∷ lines) up h = go (nat_lt l.line n) refl
  where
    go : (b : Bool) → nat_lt l.line n ≡ b → (if b then newest l.bytes n lines else bytes) ≡ bytes
    go true e = absurd (let first = up.0 in let less : l.line < n = grind (arith, nat_tests) in omega arith)
    go false e = refl

-- of one line more it is what that line says, where it names the file
pub newest_step : (bytes : Option (List ℕ)) (from n : ℕ) (lines : List FileLine) → AreRising from lines
    → newest bytes (suc n) lines ≡ unwrap_or (option_map (λ (l : FileLine). l.bytes) (line_at n lines)) (newest bytes n lines)
newest_step bytes from n [] up = refl
newest_step bytes from n (l ∷ lines) up = go (nat_lt l.line (suc n)) (nat_lt l.line n) (l.line == n) refl refl refl (newest_step l.bytes (suc l.line) n lines up.1)
  where
    go : (a b c : Bool) → nat_lt l.line (suc n) ≡ a → nat_lt l.line n ≡ b → (l.line == n) ≡ c
        → newest l.bytes (suc n) lines ≡ unwrap_or (option_map (λ (x : FileLine). x.bytes) (line_at n lines)) (newest l.bytes n lines)
        → (if a then newest l.bytes (suc n) lines else bytes)
        ≡ unwrap_or (option_map (λ (x : FileLine). x.bytes) (if c then Some l else line_at n lines)) (if b then newest l.bytes n lines else bytes)
    go true true true e f g later = absurd (let is = (Decides-eqb l.line n).0 g in let less : l.line < n = grind (arith, nat_tests) in omega arith)
    go true true false e f g later = later
    go true false true e f g later = stays l.bytes (suc l.line) (suc n) lines up.1 (let is = (Decides-eqb l.line n).0 g in omega arith)
    go true false false e f g later =
        let is : l.line ≡ n = grind (arith, nat_tests) in absurd (true≢false (sym ((Decides-eqb l.line n).1 is) ∙ g))
    go false true c e f g later = absurd (let less : l.line < n = grind (arith, nat_tests) in let more : suc n ≤ l.line = grind (arith, nat_tests) in omega arith)
    go false false true e f g later = absurd (let is = (Decides-eqb l.line n).0 g in let more : suc n ≤ l.line = grind (arith, nat_tests) in omega arith)
    go false false false e f g later =
        let more : suc n ≤ l.line = grind (arith, nat_tests) in
        ap (λ (o : Option FileLine). unwrap_or (option_map (λ (x : FileLine). x.bytes) o) bytes) (sym (none_before (suc l.line) n lines up.1 (omega arith)))

-- ---- by a search

pub newest_none : (bytes : Option (List ℕ)) (n : ℕ) (lines : List FileLine) → AllWithin (λ (l : FileLine). nat_lt l.line n ≡ false) lines 0 (length lines)
    → newest bytes n lines ≡ bytes
newest_none bytes n [] upper = refl
newest_none bytes n (l ∷ lines) upper = ap (λ (b : Bool). if b then newest l.bytes n lines else bytes) (upper 0 l (omega arith) (omega arith))

pub newest_last : (bytes : Option (List ℕ)) (n : ℕ) (lines : List FileLine) (at : ℕ) (d : FileLine) → at < length lines
    → AllWithin (λ (l : FileLine). nat_lt l.line n ≡ true) lines 0 (suc at) → AllWithin (λ (l : FileLine). nat_lt l.line n ≡ false) lines (suc at) (length lines)
    → newest bytes n lines ≡ (get_or lines at d).bytes
newest_last bytes n [] at d lt lower upper = absurd (omega arith)
newest_last bytes n (l ∷ lines) zero d lt lower upper =
    ap (λ (b : Bool). if b then newest l.bytes n lines else bytes) (lower 0 l (omega arith) (omega arith))
    ∙ newest_none l.bytes n lines (λ k e h i. upper (suc k) e (omega arith) (omega arith))
newest_last bytes n (l ∷ lines) (suc at) d lt lower upper =
    ap (λ (b : Bool). if b then newest l.bytes n lines else bytes) (lower 0 l (omega arith) (omega arith))
    ∙ newest_last l.bytes n lines at d (omega arith) (λ k e h i. lower (suc k) e (omega arith) (omega arith)) (λ k e h i. upper (suc k) e (omega arith) (omega arith))

above : (from : ℕ) (lines : List FileLine) (j : ℕ) (d : FileLine) → AreRising from lines → j < length lines → from ≤ (get_or lines j d).line
above from [] j d up h = absurd (omega arith)
above from (l ∷ lines) zero d up h = up.0
above from (l ∷ lines) (suc j) d up h = let first = up.0 in let later = above (suc l.line) lines j d up.1 (omega arith) in omega arith

pub not_falling : (from : ℕ) (lines : List FileLine) → AreRising from lines → IsNonDecreasingBy (λ (l : FileLine). l.line) lines
not_falling from [] up i j d le h = absurd (omega arith)
not_falling from (l ∷ lines) up zero zero d le h = omega arith
not_falling from (l ∷ lines) up zero (suc j) d le h = let later = above (suc l.line) lines j d up.1 (omega arith) in omega arith
not_falling from (l ∷ lines) up (suc i) zero d le h = absurd (omega arith)
not_falling from (l ∷ lines) up (suc i) (suc j) d le h = not_falling (suc l.line) lines up.1 i j d (omega arith) (omega arith)

-- ---- what is kept

no_bytes : (o : Option FileLine) → option_map (λ (l : FileLine). l.bytes) o ≡ None → o ≡ None
no_bytes None e = refl
no_bytes (Some l) e = absurd cc

module _ (lines : ℕ) (files : Files) (was : AreTold lines files) (path : List ℕ) (x : FileLine) (is : x.line ≡ lines) where
  new_none : said_at x.line files ≡ None
  new_none = was.ahead x.line (omega arith)

  -- no line from here on names a file
  none_ahead : (q : List ℕ) (n : ℕ) → x.line ≤ n → line_at n (lines_of files q) ≡ None
  none_ahead q n le = no_bytes (line_at n (lines_of files q)) (was.told q n ∙ ap (said_to q) (was.ahead n (omega arith)))

  told_now : (q : List ℕ) (n : ℕ) → option_map (λ (l : FileLine). l.bytes) (line_at n (lines_of (with_line files path x) q)) ≡ said_to q (said_at n (with_line files path x))
  told_now q n = ap (λ (ls : List FileLine). option_map (λ (l : FileLine). l.bytes) (line_at n ls)) (lines_pushed files path x q) ∙ at (x.line == n) (same q path) refl refl
    where
      at : (a b : Bool) → (x.line == n) ≡ a → same q path ≡ b
          → option_map (λ (l : FileLine). l.bytes) (line_at n (if b then lines_of files q ++ x ∷ [] else lines_of files q)) ≡ said_to q (said_at n (with_line files path x))
      at false true e f = ap (option_map (λ (l : FileLine). l.bytes)) (pushed_other n (lines_of files q) x e) ∙ (was.told q n ∙ ap (said_to q) (sym (said_other n files path x e)))
      at false false e f = was.told q n ∙ ap (said_to q) (sym (said_other n files path x e))
      at true b e f = subst (λ (m : ℕ). option_map (λ (l : FileLine). l.bytes) (line_at m (if b then lines_of files q ++ x ∷ [] else lines_of files q)) ≡ said_to q (said_at m (with_line files path x)))
          ((Decides-eqb x.line n).0 e) (new b f)
        where
          new : (r : Bool) → same q path ≡ r
              → option_map (λ (l : FileLine). l.bytes) (line_at x.line (if r then lines_of files q ++ x ∷ [] else lines_of files q)) ≡ said_to q (said_at x.line (with_line files path x))
          new true g =
              ap (option_map (λ (l : FileLine). l.bytes)) (pushed_new (lines_of files q) x (none_ahead q x.line (omega arith)))
              ∙ sym (ap (said_to q) (said_new files path x new_none) ∙ ap (λ (r : Bool). if r then Some x.bytes else None) (same-turned path q ∙ g))
          new false g =
              ap (option_map (λ (l : FileLine). l.bytes)) (none_ahead q x.line (omega arith))
              ∙ sym (ap (said_to q) (said_new files path x new_none) ∙ ap (λ (r : Bool). if r then Some x.bytes else None) (same-turned path q ∙ g))

  rising_now : (q : List ℕ) → AreRising 0 (lines_of (with_line files path x) q)
  rising_now q = subst (AreRising 0) (sym (lines_pushed files path x q)) (at (same q path))
    where
      at : (b : Bool) → AreRising 0 (if b then lines_of files q ++ x ∷ [] else lines_of files q)
      at true = rising_pushed 0 (lines_of files q) x (was.rising q) (omega arith) (λ n le. none_ahead q n le)
      at false = was.rising q

  abbrev IsOfBytes : Said → Type 0
  IsOfBytes said = IfSome said.1 (λ (bs : List ℕ). IsTrue (are_bytes bs))

  pub told_more : IsOfBytes (path, x.bytes) → AreTold (lines + 1) (with_line files path x)
  told_more small = record {
    ahead = λ n le. said_other n files path x (not_at x.line n (omega arith)) ∙ was.ahead n (omega arith);
    told = told_now;
    rising = rising_now;
    bytes = λ n. at n (x.line == n) refl;
  }
    where
      at : (n : ℕ) (b : Bool) → (x.line == n) ≡ b → IfSome (said_at n (with_line files path x)) IsOfBytes
      at n true e = subst (λ (m : ℕ). IfSome (said_at m (with_line files path x)) IsOfBytes) ((Decides-eqb x.line n).0 e)
          (subst (λ (o : Option Said). IfSome o IsOfBytes) (sym (said_new files path x new_none)) small)
      at n false e = subst (λ (o : Option Said). IfSome o IsOfBytes) (sym (said_other n files path x e)) (was.bytes n)
