-- Each kept file that an `unshelve` names has its answer.
use Rattle.std.proofs.Common.{◌≡◌, ◌≢◌, ℕ, Bool, true, false, not, List, [], ◌∷◌, ◌++◌, Option, Some, None, Ok, Err, inl, inr, refl, sym, ap, subst, ◌∙◌, append_assoc}
use Rattle.std.specs.Prelude.{◌||◌, codes, filter, if◌then◌else◌, is_none, is_some, unwrap_or}
use Rattle.std.specs.List.{AllByRecursion, list_any}
use Rattle.std.specs.Ordering.{ordering_reverse}
use Rattle.std.specs.declared.cmp.Ordering.{Ordering}
use Rattle.std.specs.declared.cmp.Ordering.TheVariants.{Less, Equal, Greater}
use Rattle.std.proofs.lemmas.Bool.{true≢false}
use Rattle.depot_model.specs.depot_path.Bytes.{same}
use Rattle.depot_model.specs.depot_path.Order.{path_cmp}
use Rattle.depot_model.specs.depot_path.Path.{is_path, path_fault, printed, unescaped, unless as path_unless}
use Rattle.depot_model.specs.depot_path.declared.fault.PathFault.{PathFault}
use Rattle.depot_model.specs.depot_path.declared.revision.Wanted.TheVariants.{Head}
use Rattle.depot_model.proofs.depot_path.Paths.{reads_path}
use Rattle.depot_model.specs.spec_form.Form.{FormValue}
use Rattle.depot_model.specs.Arguments.{each_or, is_in, named, names, no_file, not_in, over, over_all, paths_of, within_files}
use Rattle.depot_model.specs.Asking.{to_open}
use Rattle.depot_model.specs.Choice.{shown}
use Rattle.depot_model.specs.Deeds.{Deed, Open, ShelfForm, Spec}
use Rattle.depot_model.specs.Opened.{opened}
use Rattle.depot_model.specs.Shelves.{kept, kept_paths, kept_opening, kept_block, paths_in, is_of_change, shelf_paths}
use Rattle.depot_model.specs.Sorted.{all_inserted}
use Rattle.depot_model.specs.Values.{value_of}
use Rattle.depot_model.specs.Step.{Step, nothing, both, all_of, does, refuses, refuse_if}
use Rattle.depot_model.specs.Steps.Opening.{named_change_refusal, right_refusal, exclusive_refusal}
use Rattle.depot_model.specs.Steps.Shelving.{unshelve, unshelve_file, unshelve_opening, unshelved_row, shelf_refusal}
use Rattle.depot_model.specs.declared.command.FileArgument.{FileArgument}
use Rattle.depot_model.specs.declared.refusal.Refusal.{Refusal}
use Rattle.depot_model.specs.declared.refusal.Refusal.TheVariants.{AlreadyOpen, NotInView}
use Rattle.depot_model.specs.declared.request.Caller.{Caller}
use Rattle.depot_rows.proofs.Keys.{same-is, same-self}
use Rattle.depot_rows.proofs.Sorted.{insert_rises, path_order}
use Rattle.depot_rows.specs.Rising.{Below, Rise}
use Rattle.shelf_laws.specs.Unshelving.{IsAnswerIn, OpensNot, RefusesOrAnswersEach, arguments_of, is_named}
use Rattle.step_forms.proofs.Parts.{good_unless, good_within}

-- ---- parts of steps

pub all_joined : {A : Type 0} (P : A → Type 0) (xs ys : List A) → AllByRecursion P xs → AllByRecursion P ys → AllByRecursion P (xs ++ ys)
all_joined P [] ys h k = k
all_joined P (x ∷ xs) ys h k = (h.0, all_joined P xs ys h.1 k)

both_assoc : (a b c : Step) → both (both a b) c ≡ both a (both b c)
both_assoc a b c = λ i. record { deeds = append_assoc a.deeds b.deeds c.deeds i; rows = append_assoc a.rows b.rows c.rows i }

abbrev Apart : List ℕ → Step → Type 0
Apart path step = AllByRecursion (OpensNot path) step.deeds

none_of_both : (path : List ℕ) (a b : Step) → Apart path a → Apart path b → Apart path (both a b)
none_of_both path a b h k = all_joined (OpensNot path) a.deeds b.deeds h k

part_first : (path : List ℕ) (a b : Step) → Apart path b → IsAnswerIn path a (both a b)
part_first path a b none = record { front = nothing; behind = b; is = refl; once = none }

part_behind : (path : List ℕ) (first part whole : Step) → Apart path first → IsAnswerIn path part whole → IsAnswerIn path part (both first whole)
part_behind path first part whole none of = record {
  front = both first of.front;
  behind = of.behind;
  is = ap (both first) of.is ∙ sym (both_assoc first of.front (both part of.behind));
  once = subst (AllByRecursion (OpensNot path)) (sym (append_assoc first.deeds of.front.deeds of.behind.deeds))
      (all_joined (OpensNot path) first.deeds (of.front.deeds ++ of.behind.deeds) none of.once);
}

part_before : (path : List ℕ) (part whole last : Step) → Apart path last → IsAnswerIn path part whole → IsAnswerIn path part (both whole last)
part_before path part whole last none of = record {
  front = of.front;
  behind = both of.behind last;
  is = ap (λ (s : Step). both s last) of.is ∙ both_assoc of.front (both part of.behind) last ∙ ap (both of.front) (both_assoc part of.behind last);
  once = subst (AllByRecursion (OpensNot path)) (append_assoc of.front.deeds of.behind.deeds last.deeds)
      (all_joined (OpensNot path) (of.front.deeds ++ of.behind.deeds) last.deeds of.once none);
}

-- ---- paths in lists

-- each path stands once
abbrev Once : List (List ℕ) → Type 0
Once [] = Unit {0}
Once (p ∷ ps) = (is_in ps p ≡ false) × Once ps

module _ (act : List ℕ → Step) (path : List ℕ) (acts : (other : List ℕ) → same path other ≡ false → Apart path (act other)) where
  none_all : (paths : List (List ℕ)) → is_in paths path ≡ false → Apart path (all_of act paths)
  none_all [] out = tt
  none_all (x ∷ xs) out = go (none_all xs) (same path x) refl out
    where
      go : (is_in xs path ≡ false → Apart path (all_of act xs)) → (s : Bool) → same path x ≡ s → (s || is_in xs path) ≡ false → Apart path (both (act x) (all_of act xs))
      go later true e h = absurd (true≢false h)
      go later false e h = none_of_both path (act x) (all_of act xs) (acts x e) (later h)

  part_all : (paths : List (List ℕ)) → Once paths → is_in paths path ≡ true → IsAnswerIn path (act path) (all_of act paths)
  part_all [] once is = absurd (true≢false (sym is))
  part_all (x ∷ xs) once is = go (part_all xs once.1) (same path x) refl is
    where
      go : (is_in xs path ≡ true → IsAnswerIn path (act path) (all_of act xs)) → (s : Bool) → same path x ≡ s → (s || is_in xs path) ≡ true → IsAnswerIn path (act path) (both (act x) (all_of act xs))
      go later true e h =
          let here = same-is path x e in
          subst (λ (p : List ℕ). IsAnswerIn path (act p) (both (act x) (all_of act xs))) (sym here)
          (part_first path (act x) (all_of act xs) (none_all xs (ap (is_in xs) here ∙ once.0)))
      go later false e h = part_behind path (act x) (act path) (all_of act xs) (acts x e) (later h)

in_not_in : (taken paths : List (List ℕ)) (path : List ℕ) → is_in taken path ≡ false → is_in paths path ≡ true → is_in (not_in taken paths) path ≡ true
in_not_in taken [] path out is = is
in_not_in taken (x ∷ xs) path out is = go (in_not_in taken xs path out) (same path x) refl (not (is_in taken x)) refl is
  where
    go : (is_in xs path ≡ true → is_in (not_in taken xs) path ≡ true) → (s : Bool) → same path x ≡ s → (t : Bool) → not (is_in taken x) ≡ t → (s || is_in xs path) ≡ true → is_in (if t then x ∷ not_in taken xs else not_in taken xs) path ≡ true
    go later true e true f h = ap (λ (b : Bool). b || is_in (not_in taken xs) path) e
    go later true e false f h = absurd (true≢false (ap not (sym out) ∙ ap (λ (p : List ℕ). not (is_in taken p)) (same-is path x e) ∙ f))
    go later false e true f h = ap (λ (b : Bool). b || is_in (not_in taken xs) path) e ∙ later h
    go later false e false f h = later h

out_of_both : (xs ys : List (List ℕ)) (path : List ℕ) → is_in xs path ≡ false → is_in ys path ≡ false → is_in (xs ++ ys) path ≡ false
out_of_both [] ys path out other = other
out_of_both (x ∷ xs) ys path out other = go (λ h. out_of_both xs ys path h other) (same path x) refl out
  where
    go : (is_in xs path ≡ false → is_in (xs ++ ys) path ≡ false) → (s : Bool) → same path x ≡ s → (s || is_in xs path) ≡ false → (same path x || is_in (xs ++ ys) path) ≡ false
    go later true e h = absurd (true≢false h)
    go later false e h = ap (λ (b : Bool). b || is_in (xs ++ ys) path) e ∙ later h

passes : (test : List ℕ → Bool) (paths : List (List ℕ)) (path : List ℕ) → is_in (filter test paths) path ≡ true → test path ≡ true
passes test [] path is = absurd (true≢false (sym is))
passes test (x ∷ xs) path is = go (passes test xs path) (test x) refl is
  where
    here : (is_in (filter test xs) path ≡ true → test path ≡ true) → (s : Bool) → same path x ≡ s → test x ≡ true → (s || is_in (filter test xs) path) ≡ true → test path ≡ true
    here later true e f h = ap test (same-is path x e) ∙ f
    here later false e f h = later h

    go : (is_in (filter test xs) path ≡ true → test path ≡ true) → (t : Bool) → test x ≡ t → is_in (if t then x ∷ filter test xs else filter test xs) path ≡ true → test path ≡ true
    go later true f h = here later (same path x) refl f h
    go later false f h = later h

in_whole : (test : List ℕ → Bool) (paths : List (List ℕ)) (path : List ℕ) → is_in (filter test paths) path ≡ true → is_in paths path ≡ true
in_whole test [] path is = is
in_whole test (x ∷ xs) path is = go (in_whole test xs path) (test x) is
  where
    here : (is_in (filter test xs) path ≡ true → is_in xs path ≡ true) → (s : Bool) → (s || is_in (filter test xs) path) ≡ true → (s || is_in xs path) ≡ true
    here later true h = refl
    here later false h = later h

    behind : (s : Bool) → is_in xs path ≡ true → (s || is_in xs path) ≡ true
    behind true h = refl
    behind false h = h

    go : (is_in (filter test xs) path ≡ true → is_in xs path ≡ true) → (t : Bool) → is_in (if t then x ∷ filter test xs else filter test xs) path ≡ true → is_in (x ∷ xs) path ≡ true
    go later true h = here later (same path x) h
    go later false h = behind (same path x) (later h)

out_of_some : (test : List ℕ → Bool) (paths : List (List ℕ)) (path : List ℕ) → is_in paths path ≡ false → is_in (filter test paths) path ≡ false
out_of_some test paths path out = go (is_in (filter test paths) path) refl
  where
    go : (b : Bool) → is_in (filter test paths) path ≡ b → b ≡ false
    go true e = absurd (true≢false (sym (in_whole test paths path e) ∙ out))
    go false e = refl

some_once : (test : List ℕ → Bool) (paths : List (List ℕ)) → Once paths → Once (filter test paths)
some_once test [] once = tt
some_once test (x ∷ xs) once = go (test x) (some_once test xs once.1)
  where
    go : (t : Bool) → Once (filter test xs) → Once (if t then x ∷ filter test xs else filter test xs)
    go true rest = (out_of_some test xs x once.0, rest)
    go false rest = rest

in_front : (xs ys : List (List ℕ)) (path : List ℕ) → is_in xs path ≡ true → is_in (xs ++ ys) path ≡ true
in_front [] ys path is = absurd (true≢false (sym is))
in_front (x ∷ xs) ys path is = go (in_front xs ys path) (same path x) is
  where
    go : (is_in xs path ≡ true → is_in (xs ++ ys) path ≡ true) → (s : Bool) → (s || is_in xs path) ≡ true → (s || is_in (xs ++ ys) path) ≡ true
    go later true h = refl
    go later false h = later h

in_behind : (xs ys : List (List ℕ)) (path : List ℕ) → is_in ys path ≡ true → is_in (xs ++ ys) path ≡ true
in_behind [] ys path is = is
in_behind (x ∷ xs) ys path is = go (same path x) (in_behind xs ys path is)
  where
    go : (s : Bool) → is_in (xs ++ ys) path ≡ true → (s || is_in (xs ++ ys) path) ≡ true
    go true h = refl
    go false h = h

taken_out : (taken paths : List (List ℕ)) (path : List ℕ) → is_in taken path ≡ true → is_in (not_in taken paths) path ≡ false
taken_out taken paths path is = go (is_in (not_in taken paths) path) refl
  where
    go : (b : Bool) → is_in (not_in taken paths) path ≡ b → b ≡ false
    go true e = absurd (true≢false (sym (passes (λ p. not (is_in taken p)) paths path e) ∙ ap not is))
    go false e = refl

-- ---- files that are named

module _ (files : FileArgument → List (List ℕ)) (each_once : (a : FileArgument) → Once (files a)) (missing : FileArgument → Step) (act : List ℕ → Step) (path : List ℕ)
    (misses : (a : FileArgument) → Apart path (missing a)) (acts : (other : List ℕ) → same path other ≡ false → Apart path (act other)) where
  none_or : (a : FileArgument) (paths left : List (List ℕ)) → is_in left path ≡ false → Apart path (each_or (missing a) act paths left)
  none_or a [] left out = misses a
  none_or a (x ∷ xs) left out = none_all act path acts left out

  none_over : (taken : List (List ℕ)) (arguments : List FileArgument) → is_in taken path ≡ true → Apart path (over files missing (λ _. act) taken arguments)
  none_over taken [] is = tt
  none_over taken (a ∷ arguments) is =
      none_of_both path (each_or (missing a) act (files a) (not_in taken (files a))) (over files missing (λ _. act) (taken ++ files a) arguments)
      (none_or a (files a) (not_in taken (files a)) (taken_out taken (files a) path is)) (none_over (taken ++ files a) arguments (in_front taken (files a) path is))

  part_over : (taken : List (List ℕ)) (arguments : List FileArgument) → is_in taken path ≡ false → list_any (λ (a : FileArgument). is_in (files a) path) arguments ≡ true
      → IsAnswerIn path (act path) (over files missing (λ _. act) taken arguments)
  part_over taken [] out is = absurd (true≢false (sym is))
  part_over taken (a ∷ arguments) out is =
      go (λ e h. part_over (taken ++ files a) arguments (out_of_both taken (files a) path out e) h) (is_in (files a) path) refl is
    where
      first : Step
      first = each_or (missing a) act (files a) (not_in taken (files a))

      rest : Step
      rest = over files missing (λ _. act) (taken ++ files a) arguments

      one : (paths : List (List ℕ)) → Once paths → is_in paths path ≡ true → IsAnswerIn path (act path) (each_or (missing a) act paths (not_in taken paths))
      one [] once h = absurd (true≢false (sym h))
      one (x ∷ xs) once h = part_all act path acts (not_in taken (x ∷ xs)) (some_once (λ p. not (is_in taken p)) (x ∷ xs) once) (in_not_in taken (x ∷ xs) path out h)

      go : (is_in (files a) path ≡ false → list_any (λ (a : FileArgument). is_in (files a) path) arguments ≡ true → IsAnswerIn path (act path) rest) → (b : Bool) → is_in (files a) path ≡ b
          → (b || list_any (λ (a : FileArgument). is_in (files a) path) arguments) ≡ true → IsAnswerIn path (act path) (both first rest)
      go later true e h = part_before path (act path) first rest (none_over (taken ++ files a) arguments (in_behind taken (files a) path e)) (one (files a) (each_once a) e)
      go later false e h = part_behind path first (act path) rest (none_or a (files a) (not_in taken (files a)) (out_of_some (λ p. not (is_in taken p)) (files a) path e)) (later e h)

-- ---- kept files

below_out : (p : List ℕ) (ps : List (List ℕ)) → Below p ps → is_in ps p ≡ false
below_out p [] below = refl
below_out p (q ∷ qs) below = go (same p q) refl (below_out p qs below.1)
  where
    never : (o : Ordering) → o ≡ ordering_reverse o → o ≡ Less → ⊥
    never Less h f = absurd cc
    never Equal h f = absurd cc
    never Greater h f = absurd cc

    go : (s : Bool) → same p q ≡ s → is_in qs p ≡ false → (s || is_in qs p) ≡ false
    go true e rest = absurd (never (path_cmp p p) (path_order.antisymm p p) (ap (path_cmp p) (same-is p q e) ∙ below.0))
    go false e rest = rest

rise_once : (ps : List (List ℕ)) → Rise ps → Once ps
rise_once [] rise = tt
rise_once (p ∷ ps) rise = (below_out p ps rise.1, rise_once ps rise.2)

spelled_path : (text : List ℕ) → AllByRecursion (λ (p : List ℕ). is_path p ≡ true) (paths_in text)
spelled_path text = go (path_fault text) refl
  where
    go : (o : Option PathFault) → path_fault text ≡ o
        → AllByRecursion (λ (p : List ℕ). is_path p ≡ true) (elim (path_unless o (unescaped 0 text)) as (λ _. List (List ℕ)) [ Err fault ↦ [] | Ok path ↦ path ∷ [] ])
    go None e = (reads_path text e, tt)
    go (Some fault) e = tt

shelf_are_paths : (n : ℕ) (deed : Deed) → AllByRecursion (λ (p : List ℕ). is_path p ≡ true) (shelf_paths n deed)
shelf_are_paths n (Spec ShelfForm name form) = go (is_of_change n form)
  where
    go : (b : Bool) → AllByRecursion (λ (p : List ℕ). is_path p ≡ true) (if b then paths_in (value_of form (codes "Path")) else [])
    go true = spelled_path (value_of form (codes "Path"))
    go false = tt
shelf_are_paths n _ = tt

all_rise : (more ps : List (List ℕ)) → AllByRecursion (λ (p : List ℕ). is_path p ≡ true) more → Rise ps → Rise (all_inserted more ps)
all_rise [] ps are rise = rise
all_rise (p ∷ more) ps are rise = insert_rises p (all_inserted more ps) are.0 (all_rise more ps are.1 rise)

shelved_rise : (n : ℕ) (d : List Deed) → Rise (paths_of (shelf_paths n) d)
shelved_rise n [] = tt
shelved_rise n (deed ∷ d) = all_rise (shelf_paths n deed) (paths_of (shelf_paths n) d) (shelf_are_paths n deed) (shelved_rise n d)

kept_once : (n : ℕ) (d : List Deed) → Once (kept_paths d n)
kept_once n d = some_once (λ path. is_some (kept d n path)) (paths_of (shelf_paths n) d) (rise_once (paths_of (shelf_paths n) d) (shelved_rise n d))

module _ (shelved : List ℕ → Option FormValue) (d : List Deed) (caller : Caller) (n : ℕ) (change : Option ℕ) (files : List FileArgument)
    (known : (path : List ℕ) (form : FormValue) → kept d n path ≡ Some form → shelved path ≡ Some form) where
  abbrev number : ℕ
  number = unwrap_or change 0

  abbrev pub Whole : Step → Type 0
  Whole step = RefusesOrAnswersEach shelved d caller n number files step

  pub wholly : (why : Refusal) → Whole (refuses why)
  wholly why = inl (why, refl)

  named_once : (a : FileArgument) → Once (named false d caller (kept_paths d n) a)
  named_once a = some_once (names false d caller a.spec) (kept_paths d n) (kept_once n d)

  -- a file that is named is kept
  is_kept : (path : List ℕ) (arguments : List FileArgument) → list_any (λ (a : FileArgument). is_in (named false d caller (kept_paths d n) a) path) arguments ≡ true → is_some (kept d n path) ≡ true
  is_kept path [] is = absurd (true≢false (sym is))
  is_kept path (a ∷ arguments) is = go (is_kept path arguments) (is_in (named false d caller (kept_paths d n) a) path) refl is
    where
      go : (list_any (λ (a : FileArgument). is_in (named false d caller (kept_paths d n) a) path) arguments ≡ true → is_some (kept d n path) ≡ true) → (b : Bool) → is_in (named false d caller (kept_paths d n) a) path ≡ b → (b || list_any (λ (a : FileArgument). is_in (named false d caller (kept_paths d n) a) path) arguments) ≡ true → is_some (kept d n path) ≡ true
      go later true e h = passes (λ path. is_some (kept d n path)) (paths_of (shelf_paths n) d) path (in_whole (names false d caller a.spec) (kept_paths d n) path e)
      go later false e h = later h

  -- another file is another one's opening
  opens_own : (path other : List ℕ) → same path other ≡ false → Apart path (unshelve_file d caller n number other)
  opens_own path other apart = go (kept d n other)
    where
      not_it : other ≢ path
      not_it same_path = true≢false (sym (same-self path) ∙ ap (same path) (sym same_path) ∙ apart)

      go : (o : Option FormValue)
          → Apart path (elim o as (λ _. Step) [ None ↦ nothing | Some form ↦ unshelve_opening d caller (kept_opening caller number other form) (kept_block form) ])
      go None = tt
      go (Some form) =
          let o = kept_opening caller number other form in
          good_unless (Apart path) (λ why. tt) (
          right_refusal to_open d caller other
          ∷ refuse_if (is_none (shown d caller Head other)) (NotInView (printed other))
          ∷ refuse_if (is_some (opened d caller.client other)) (AlreadyOpen other)
          ∷ exclusive_refusal d other caller.client o.file_type
          ∷ []
          ) (does (Open o ∷ []) (unshelved_row d caller o (kept_block form))) (not_it, tt)

  over_files : (given : List FileArgument) (path : List ℕ) → is_named d caller n given path ≡ true
      → IsAnswerIn path (unshelve_file d caller n number path) (over_all (named false d caller (kept_paths d n)) no_file (λ _. unshelve_file d caller n number) given)
  over_files [] path is = part_over (named false d caller (kept_paths d n)) named_once (λ _. nothing) (unshelve_file d caller n number) path (λ _. tt) (opens_own path) [] (arguments_of []) refl is
  over_files (a ∷ arguments) path is =
      part_over (named false d caller (kept_paths d n)) named_once no_file (unshelve_file d caller n number) path (λ _. tt) (opens_own path) [] (a ∷ arguments) refl is

  each_file : Whole (over_all (named false d caller (kept_paths d n)) no_file (λ _. unshelve_file d caller n number) files)
  each_file = inr (λ path is. go path is (kept d n path) refl)
    where
      all : Step
      all = over_all (named false d caller (kept_paths d n)) no_file (λ _. unshelve_file d caller n number) files

      go : (path : List ℕ) → is_named d caller n files path ≡ true → (o : Option FormValue) → kept d n path ≡ o
          → (form : FormValue) × ((shelved path ≡ Some form) × IsAnswerIn path (unshelve_opening d caller (kept_opening caller number path form) (kept_block form)) all)
      go path is None e = absurd (true≢false (sym (is_kept path (arguments_of files) is) ∙ ap is_some e))
      go path is (Some form) e =
          let act : unshelve_file d caller n number path ≡ unshelve_opening d caller (kept_opening caller number path form) (kept_block form) =
          ap (λ (o : Option FormValue). elim o as (λ _. Step) [ None ↦ nothing | Some form ↦ unshelve_opening d caller (kept_opening caller number path form) (kept_block form) ]) e in
          (form, (known path form e, subst (λ (s : Step). IsAnswerIn path s all) act (over_files files path is)))

  pub each_of_files : Whole (unshelve d caller n change files)
  each_of_files =
      let step = over_all (named false d caller (kept_paths d n)) no_file (λ _. unshelve_file d caller n number) files in
      good_unless Whole wholly (named_change_refusal d caller change ∷ shelf_refusal d caller n ∷ []) (within_files step) (good_within Whole wholly step each_file)
