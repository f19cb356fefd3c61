-- How the search from the last line of a view goes on by one line.
use Rattle.std.proofs.Common.{◌≡◌, ℕ, zero, suc, ◌+◌, ◌<◌, ◌≤◌, Bool, true, false, cond, List, [], ◌∷◌, ◌++◌, length, drop, get_or, Option, Some, None, refl, sym, ap, subst, ◌∙◌, arith}
use Rattle.std.specs.Prelude.{◌&&◌, ◌||◌, not, is_some, option_and_then}
use Rattle.std.specs.List.{list_any}
use Rattle.std.proofs.lemmas.List.{append-nil}
use Rattle.std.proofs.lemmas.Bool.{or_parts}
use Rattle.depot_path.specs.Fit.{fits, texts}
use Rattle.depot_path.specs.declared.piece.Piece.{Piece}
use Rattle.view_map.specs.Specifiers.{answering}
use Rattle.view_map.specs.Carry.{client_path, depot_file, carried, made_of, takes, is_exclusion, is_overlay, some_client_fits, some_depot_fits}
use Rattle.view_map.specs.Mapping.{hides, taken_by_some, hidden_by_some, unhidden, given_by, path_in, file_by, files_at, after_deciding, at_path, mapped}
use Rattle.view_map.specs.declared.line.ViewLine.{ViewLine}
use Rattle.view_map.specs.declared.mapped.Mapped.TheVariants.{Nothing}

-- no line from one on takes the file
pub record IsUntaken (lines : List ViewLine) (file : List ℕ) (at : ℕ) : Type 0 where
  pub low : at ≤ length lines
  pub none : taken_by_some (drop at lines) file ≡ false

-- the files that the lines from one on put at a path, which none of these hides
pub record HasFiles (lines : List ViewLine) (path : List ℕ) (files : List (List ℕ)) (at : ℕ) : Type 0 where
  pub low : at ≤ length lines
  pub is : files ≡ files_at (drop at lines) path
  pub shown : hidden_by_some (drop at lines) path ≡ false

-- a list from a place on
from_place : {A : Type 0} (xs : List A) (at next : ℕ) (d : A) → next ≡ at + 1 → at < length xs → drop at xs ≡ get_or xs at d ∷ drop next xs
from_place [] at next d e low = absurd (omega arith)
from_place (x ∷ xs) zero next d e low = subst (λ n. x ∷ xs ≡ x ∷ drop n (x ∷ xs)) (sym e) refl
from_place (x ∷ xs) (suc at) next d e low =
    let f : suc (at + 1) ≡ next = omega arith in
    subst (λ n. drop at xs ≡ get_or xs at d ∷ drop n (x ∷ xs)) f (from_place xs at (at + 1) d refl (omega arith))

-- ---- which line decides

pub some_of : {A : Type 0} (test : A → Bool) (xs : List A) (at : ℕ) (d : A) → at < length xs → test (get_or xs at d) ≡ true → list_any test xs ≡ true
some_of test [] at d low e = absurd (omega arith)
some_of test (x ∷ xs) zero d low e = rw e refl
some_of test (x ∷ xs) (suc at) d low e = or_true (test x) (list_any test xs) (some_of test xs at d (omega arith) e)
  where
    or_true : (a b : Bool) → b ≡ true → (a || b) ≡ true
    or_true true b e = refl
    or_true false b e = e

decides : (lines : List ViewLine) (file : List ℕ) (at next : ℕ) (d : ViewLine) → next ≡ at + 1 → at < length lines → takes file (get_or lines at d) ≡ true →
    taken_by_some (drop next lines) file ≡ false → mapped lines file ≡ at_path (drop next lines) (given_by (get_or lines at d) (drop next lines) file)
decides [] file at next d is low e f = absurd (omega arith)
decides (line ∷ lines) file zero next d is low e f =
    let g : taken_by_some lines file ≡ false = subst (λ n. taken_by_some (drop n (line ∷ lines)) file ≡ false) is f in
    subst (λ n. mapped (line ∷ lines) file ≡ at_path (drop n (line ∷ lines)) (given_by line (drop n (line ∷ lines)) file)) (sym is)
    (rw g refl)
decides (line ∷ lines) file (suc at) next d is low e f =
    let m : next ≡ suc (at + 1) = omega arith in
    let g : taken_by_some lines file ≡ true = some_of (takes file) lines at d (omega arith) e in
    let h = decides lines file at (at + 1) d refl (omega arith) e (subst (λ n. taken_by_some (drop n (line ∷ lines)) file ≡ false) m f) in
    subst (λ n. mapped (line ∷ lines) file ≡ at_path (drop n (line ∷ lines)) (given_by (get_or lines at d) (drop n (line ∷ lines)) file)) (sym m)
    (rw g h)

not_given : (line : ViewLine) (later : List ViewLine) (file : List ℕ) → takes file line ≡ false → given_by line later file ≡ None
not_given line later file e = go (is_exclusion line.sign) (client_path line file) e
  where
    go : (b : Bool) (o : Option (List ℕ)) → cond b (fits line.depot file) (is_some o) ≡ false → cond b None (unhidden later o) ≡ None
    go true o e = refl
    go false None e = refl
    go false (Some path) e = absurd cc

pub untaken : (lines : List ViewLine) (file : List ℕ) → taken_by_some lines file ≡ false → path_in lines file ≡ None
untaken [] file e = refl
untaken (line ∷ lines) file e =
    let f = (or_parts (takes file line) (taken_by_some lines file) e).1 in
    rw f (not_given line lines file (or_parts (takes file line) (taken_by_some lines file) e).0)

nothing_there : (lines : List ViewLine) (file : List ℕ) → taken_by_some lines file ≡ false → mapped lines file ≡ Nothing
nothing_there lines file e = ap (at_path (after_deciding lines file)) (untaken lines file e)

-- ---- the files at a path

pub hidden_has_none : (line : ViewLine) (later : List ViewLine) (path : List ℕ) (o : Option (List ℕ)) → hidden_by_some later path ≡ true → file_by line later path o ≡ []
hidden_has_none line later path None e = refl
hidden_has_none line later path (Some file) e = rw e (go (is_exclusion line.sign) (taken_by_some later file))
  where
    go : (a b : Bool) → cond ((a || b) || true) [] (file ∷ []) ≡ []
    go true b = refl
    go false true = refl
    go false false = refl

-- a line that hides a path hides all that earlier lines put there
all_hidden : (lines : List ViewLine) (path : List ℕ) (at : ℕ) → hidden_by_some (drop at lines) path ≡ true → files_at lines path ≡ files_at (drop at lines) path
all_hidden lines path zero e = refl
all_hidden [] path (suc at) e = refl
all_hidden (line ∷ lines) path (suc at) e =
    ap (λ (fs : List (List ℕ)). files_at lines path ++ fs) (hidden_has_none line lines path (depot_file line path) (passed_on lines at e))
    ∙ append-nil (files_at lines path) ∙ all_hidden lines path at e
  where
    or_true : (a b : Bool) → b ≡ true → (a || b) ≡ true
    or_true true b e = refl
    or_true false b e = e

    passed_on : (lines : List ViewLine) (at : ℕ) → hidden_by_some (drop at lines) path ≡ true → hidden_by_some lines path ≡ true
    passed_on lines zero e = e
    passed_on [] (suc at) e = absurd cc
    passed_on (line ∷ lines) (suc at) e = or_true (hides path line) (hidden_by_some lines path) (passed_on lines at e)

abbrev pub with_line : List (List ℕ) → ViewLine → List ViewLine → List ℕ → List (List ℕ)
with_line files line later path = files ++ file_by line later path (depot_file line path)

-- one line more
pub one_line : (lines : List ViewLine) (path : List ℕ) (files more : List (List ℕ)) (at next : ℕ) (d : ViewLine) → next ≡ at + 1 → at < length lines →
    files ≡ files_at (drop next lines) path → more ≡ with_line files (get_or lines at d) (drop next lines) path → more ≡ files_at (drop at lines) path
one_line lines path files more at next d is low e f =
    f ∙ ap (λ fs. with_line fs (get_or lines at d) (drop next lines) path) e ∙ sym (ap (λ ls. files_at ls path) (from_place lines at next d is low))

-- no earlier line puts a file there
pub finished : (lines : List ViewLine) (path : List ℕ) (more : List (List ℕ)) (at next : ℕ) (d : ViewLine) → next ≡ at + 1 → at < length lines →
    more ≡ files_at (drop at lines) path → hides path (get_or lines at d) ≡ true → more ≡ files_at lines path
finished lines path more at next d is low e h =
    e ∙ sym (all_hidden lines path at (ap (λ ls. hidden_by_some ls path) (from_place lines at next d is low) ∙ first_is (hides path (get_or lines at d)) (hidden_by_some (drop next lines) path) h))
  where
    first_is : (a b : Bool) → a ≡ true → (a || b) ≡ true
    first_is true b e = refl
    first_is false b e = absurd cc

-- ---- where the deciding line puts the file

given_out : (line : ViewLine) (later : List ViewLine) (file : List ℕ) → is_exclusion line.sign ≡ true → given_by line later file ≡ None
given_out line later file e = rw e refl

taken_out : (line : ViewLine) (file : List ℕ) → is_exclusion line.sign ≡ true → fits line.depot file ≡ true → takes file line ≡ true
taken_out line file e f = rw e f

pub is_excluded : (lines : List ViewLine) (file : List ℕ) (at next : ℕ) (d : ViewLine) → next ≡ at + 1 → at < length lines → taken_by_some (drop next lines) file ≡ false →
    is_exclusion (get_or lines at d).sign ≡ true → fits (get_or lines at d).depot file ≡ true → mapped lines file ≡ Nothing
is_excluded lines file at next d is low none e f =
    decides lines file at next d is low (taken_out (get_or lines at d) file e f) none
    ∙ ap (at_path (drop next lines)) (given_out (get_or lines at d) (drop next lines) file e)

given_path : (line : ViewLine) (later : List ViewLine) (file path : List ℕ) → is_exclusion line.sign ≡ false → client_path line file ≡ Some path → given_by line later file ≡ unhidden later (Some path)
given_path line later file path e f = rw e (ap (unhidden later) f)

taken_there : (line : ViewLine) (file path : List ℕ) → is_exclusion line.sign ≡ false → client_path line file ≡ Some path → takes file line ≡ true
taken_there line file path e f = rw e (ap is_some f)

pub is_placed : (lines : List ViewLine) (file path : List ℕ) (at next : ℕ) (d : ViewLine) → next ≡ at + 1 → at < length lines → taken_by_some (drop next lines) file ≡ false →
    is_exclusion (get_or lines at d).sign ≡ false → client_path (get_or lines at d) file ≡ Some path → mapped lines file ≡ at_path (drop next lines) (unhidden (drop next lines) (Some path))
is_placed lines file path at next d is low none e f =
    decides lines file at next d is low (taken_there (get_or lines at d) file path e f) none
    ∙ ap (at_path (drop next lines)) (given_path (get_or lines at d) (drop next lines) file path e f)

-- ---- the steps of the search, from the line before `at`

abbrev pub IsLine : List ViewLine → ℕ → ViewLine → Type 0
IsLine lines k line = line ≡ get_or lines k line

pub with_this : (lines : List ViewLine) (later : List ViewLine) (path : List ℕ) (files more : List (List ℕ)) (at before : ℕ) (line : ViewLine) → before + 1 ≡ at →
    IsLine lines before line → later ≡ drop (before + 1) lines → HasFiles lines path files at → more ≡ with_line files line later path → more ≡ files_at (drop before lines) path
with_this lines later path files more at before line is e f h m =
    one_line lines path files more before at line (omega (arith, is)) (omega (arith, is, h.low)) h.is (
    m ∙ ap (λ ls. with_line files line ls path) (f ∙ ap (λ n. drop n lines) is) ∙ ap (λ l. with_line files l (drop at lines) path) e
    )

pub all_files : (lines : List ViewLine) (later : List ViewLine) (path : List ℕ) (files more : List (List ℕ)) (at before : ℕ) (line : ViewLine) → before + 1 ≡ at →
    IsLine lines before line → later ≡ drop (before + 1) lines → HasFiles lines path files at → more ≡ with_line files line later path → is_overlay line.sign ≡ false →
    fits line.client path ≡ true → more ≡ files_at lines path
all_files lines later path files more at before line is e f h m o t =
    finished lines path more before at line (omega (arith, is)) (omega (arith, is, h.low)) (with_this lines later path files more at before line is e f h m)
    (subst (λ l. hides path l ≡ true) e (hiding line o t))
  where
    hiding : (line : ViewLine) → is_overlay line.sign ≡ false → fits line.client path ≡ true → hides path line ≡ true
    hiding line o t = rw o t

shown_still : (lines : List ViewLine) (path : List ℕ) (at before : ℕ) (line : ViewLine) → before + 1 ≡ at → at ≤ length lines → IsLine lines before line → hides path line ≡ false →
    hidden_by_some (drop at lines) path ≡ false → hidden_by_some (drop before lines) path ≡ false
shown_still lines path at before line is low e h none =
    ap (λ ls. hidden_by_some ls path) (from_place lines before at line (omega (arith, is)) (omega (arith, is, low)))
    ∙ neither (hides path (get_or lines before line)) (hidden_by_some (drop at lines) path) (subst (λ l. hides path l ≡ false) e h) none
  where
    neither : (a b : Bool) → a ≡ false → b ≡ false → (a || b) ≡ false
    neither true b e f = e
    neither false b e f = f

pub files_of_overlay : (lines : List ViewLine) (later : List ViewLine) (path : List ℕ) (files more : List (List ℕ)) (at before : ℕ) (line : ViewLine) → before + 1 ≡ at →
    IsLine lines before line → later ≡ drop (before + 1) lines → HasFiles lines path files at → more ≡ with_line files line later path → is_overlay line.sign ≡ true →
    HasFiles lines path more before
files_of_overlay lines later path files more at before line is e f h m o = record {
  low = omega (arith, is, h.low);
  is = with_this lines later path files more at before line is e f h m;
  shown = shown_still lines path at before line is h.low e (shows line o) h.shown;
}
  where
    shows : (line : ViewLine) → is_overlay line.sign ≡ true → hides path line ≡ false
    shows line o = rw o refl

pub unfit_carried : (from to : List Piece) (path : List ℕ) → fits from path ≡ false → carried from to path ≡ None
unfit_carried from to path e = go (texts from path) e
  where
    go : (o : Option (List (List ℕ))) → is_some o ≡ false → option_and_then (λ ts. made_of to (answering from to ts)) o ≡ None
    go None e = refl
    go (Some ts) e = absurd cc

unfit_adds : (files : List (List ℕ)) (line : ViewLine) (later : List ViewLine) (path : List ℕ) → fits line.client path ≡ false → files ≡ with_line files line later path
unfit_adds files line later path e =
    sym (ap (λ o. files ++ file_by line later path o) (unfit_carried line.client line.depot path e) ∙ append-nil files)

unfit_shows : (line : ViewLine) (path : List ℕ) → fits line.client path ≡ false → hides path line ≡ false
unfit_shows line path e = rw e (go (is_overlay line.sign))
  where
    go : (b : Bool) → (not b && false) ≡ false
    go true = refl
    go false = refl

pub files_without : (lines : List ViewLine) (path : List ℕ) (files : List (List ℕ)) (at before : ℕ) (line : ViewLine) → before + 1 ≡ at →
    IsLine lines before line → HasFiles lines path files at → fits line.client path ≡ false → HasFiles lines path files before
files_without lines path files at before line is e h t = record {
  low = omega (arith, is, h.low);
  is = with_this lines (drop (before + 1) lines) path files files at before line is e refl h (unfit_adds files line (drop (before + 1) lines) path t);
  shown = shown_still lines path at before line is h.low e (unfit_shows line path t) h.shown;
}

pub client_fits : (lines : List ViewLine) (path : List ℕ) (at before : ℕ) (line : ViewLine) → before + 1 ≡ at → at ≤ length lines → IsLine lines before line →
    fits line.client path ≡ true → some_client_fits lines path ≡ true
client_fits lines path at before line is low e t =
    some_of (λ (l : ViewLine). fits l.client path) lines before line (omega (arith, is, low)) (subst (λ (l : ViewLine). fits l.client path ≡ true) e t)

pub depot_fits : (lines : List ViewLine) (file : List ℕ) (at before : ℕ) (line : ViewLine) → before + 1 ≡ at → at ≤ length lines → IsLine lines before line →
    fits line.depot file ≡ true → some_depot_fits lines file ≡ true
depot_fits lines file at before line is low e t =
    some_of (λ (l : ViewLine). fits l.depot file) lines before line (omega (arith, is, low)) (subst (λ (l : ViewLine). fits l.depot file ≡ true) e t)

pub path_fits : (line : ViewLine) (file path : List ℕ) → client_path line file ≡ Some path → fits line.depot file ≡ true
path_fits line file path e = go (texts line.depot file) e
  where
    go : (o : Option (List (List ℕ))) → option_and_then (λ ts. made_of line.client (answering line.depot line.client ts)) o ≡ Some path → is_some o ≡ true
    go None e = absurd cc
    go (Some ts) e = refl

pub excluded : (lines : List ViewLine) (file : List ℕ) (at before : ℕ) (line : ViewLine) → before + 1 ≡ at → IsLine lines before line → IsUntaken lines file at →
    is_exclusion line.sign ≡ true → fits line.depot file ≡ true → mapped lines file ≡ Nothing
excluded lines file at before line is e h x t =
    is_excluded lines file before at line (omega (arith, is)) (omega (arith, is, h.low)) h.none
    (subst (λ (l : ViewLine). is_exclusion l.sign ≡ true) e x) (subst (λ (l : ViewLine). fits l.depot file ≡ true) e t)

pub placed : (lines : List ViewLine) (later : List ViewLine) (file path : List ℕ) (at before : ℕ) (line : ViewLine) → before + 1 ≡ at → IsLine lines before line →
    later ≡ drop (before + 1) lines → IsUntaken lines file at → is_exclusion line.sign ≡ false → client_path line file ≡ Some path →
    mapped lines file ≡ at_path later (unhidden later (Some path))
placed lines later file path at before line is e f h x t =
    is_placed lines file path before at line (omega (arith, is)) (omega (arith, is, h.low)) h.none
    (subst (λ (l : ViewLine). is_exclusion l.sign ≡ false) e x) (subst (λ (l : ViewLine). client_path l file ≡ Some path) e t)
    ∙ ap (λ ls. at_path ls (unhidden ls (Some path))) (sym (f ∙ ap (λ n. drop n lines) is))

pub none_takes : (lines : List ViewLine) (file : List ℕ) (at : ℕ) → at ≤ 0 → IsUntaken lines file at → mapped lines file ≡ Nothing
none_takes lines file zero low h = nothing_there lines file h.none
none_takes lines file (suc at) low h = absurd (omega (arith, low))

pub is_hidden : (lines : List ViewLine) (path : List ℕ) (at before : ℕ) (line : ViewLine) → before + 1 ≡ at → at ≤ length lines → IsLine lines before line →
    is_overlay line.sign ≡ false → fits line.client path ≡ true → true ≡ hidden_by_some lines path
is_hidden lines path at before line is low e o t =
    sym (some_of (hides path) lines before line (omega (arith, is, low)) (subst (λ l. hides path l ≡ true) e (hiding line o t)))
  where
    hiding : (line : ViewLine) → is_overlay line.sign ≡ false → fits line.client path ≡ true → hides path line ≡ true
    hiding line o t = rw o t
