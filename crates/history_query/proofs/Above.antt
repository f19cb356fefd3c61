-- The directories above a path are its fronts before slashes, and those of files that a depot has are those that an argument asks for.
use Rattle.std.proofs.Common.{◌≡◌, ℕ, ◌+◌, ◌-◌, ◌≤◌, Bool, true, false, cond, List, [], ◌∷◌, ◌++◌, Option, Some, None, refl, sym, ap, subst, ◌∙◌, append_assoc, append-nil, arith}
use Rattle.std.specs.Prelude.{◌||◌, ◌&&◌, ◌==◌, codes, drop, filter, filter_map, flat_map, if◌then◌else◌, nat_eq, take}
use Rattle.std.specs.List.{cons_option, list_all, list_any, onto_first, slice_split}
use Rattle.std.specs.Option.{option_to_list}
use Rattle.std.proofs.lemmas.Bool.{eqb-true, false≢true, and_parts}
use Rattle.std.proofs.lemmas.Grind.{flat_map-append}
use Rattle.std.proofs.lemmas.List.{take-append-drop}
use Rattle.depot_rows.proofs.depot_path.Rows.{begins_literal}
use Rattle.depot_rows.specs.depot_path.Bytes.{begins_with}
use Rattle.depot_rows.specs.depot_path.Fit.{fits}
use Rattle.depot_rows.specs.depot_path.Path.{escaped, is_path, printed}
use Rattle.depot_rows.specs.depot_path.Pattern.{literal}
use Rattle.depot_rows.specs.depot_path.declared.piece.Piece.{Piece}
use Rattle.depot_rows.specs.depot_path.declared.revision.Wanted.TheVariants.{Head}
use Rattle.depot_rows.specs.view_map.Carry.{client_path, is_exclusion}
use Rattle.depot_rows.specs.view_map.Mapping.{after_deciding, at_path, given_by, hidden_by_some, mapped, path_in, taken_by_some, unhidden}
use Rattle.depot_rows.specs.view_map.declared.line.ViewLine.{ViewLine}
use Rattle.depot_rows.specs.view_map.declared.mapped.Mapped.{Mapped}
use Rattle.depot_rows.specs.view_map.declared.mapped.Mapped.TheVariants.{Nothing, At as MappedAt}
use Rattle.depot_rows.proofs.view_map.BothWays.{is_carried}
use Rattle.depot_rows.specs.depot_model.declared.request.Caller.{Caller}
use Rattle.depot_rows.specs.depot_model.Arguments.{in_client_syntax, submitted}
use Rattle.depot_rows.specs.depot_model.Asking.{may_list, view}
use Rattle.depot_rows.specs.depot_model.Choice.{chosen, is_live_choice, shown}
use Rattle.depot_rows.specs.depot_model.Deeds.{Deed}
use Rattle.depot_rows.specs.depot_model.Revisions.{is_live_head}
use Rattle.depot_rows.specs.depot_model.Rules.{IsSound}
use Rattle.depot_rows.specs.depot_model.Steps.History.{directories, fronts, seen_paths}
use Rattle.depot_rows.proofs.Keys.{same-is}
use Rattle.named_files.specs.Asked.{IsAsker, begins_at, is_begun}
use Rattle.named_files.specs.declared.asker.Asker.{Asker}
use Rattle.named_files.specs.declared.listing.Listing.TheVariants.{Submitted}
use Rattle.depot_rows.specs.Rising.{Rise}
use Rattle.named_files.proofs.Told.{files_rise}
use Rattle.revision_reads.specs.Shown.{shown_in}
use Rattle.history_query.specs.Directories.{all_directories, all_fitting, begun_directories, directories_of}
use Rattle.history_query.proofs.Fitting.{fitting_on, none_fits}

-- the fronts of a text that end before a slash of its rest
abbrev pub slash_fronts : List ℕ → List ℕ → List (List ℕ)
slash_fronts before [] = []
slash_fronts before (b ∷ rest) = if b == 0x2F then before ∷ slash_fronts (before ++ b ∷ []) rest else slash_fronts (before ++ b ∷ []) rest

-- ---- they are the directories

abbrev parts_of : List ℕ → List (List ℕ)
parts_of rest = slice_split (λ b. b == 0x2F) rest

-- a text before the first of some
abbrev onto : List ℕ → List (List ℕ) → List (List ℕ)
onto text [] = text ∷ []
onto text (part ∷ parts) = (text ++ part) ∷ parts

-- there is a first part
HasFirst : List (List ℕ) → Type 0
HasFirst parts = (part : List ℕ) × (more : List (List ℕ)) × (parts ≡ part ∷ more)

has_first : (rest : List ℕ) → HasFirst (parts_of rest)
unfolding HasFirst
has_first [] = ([], [], refl)
has_first (b ∷ rest) = go (b == 0x2F) (has_first rest)
  where
    go : (s : Bool) → HasFirst (parts_of rest) → HasFirst (cond s ([] ∷ parts_of rest) (onto_first b (parts_of rest)))
    go true h = ([], parts_of rest, refl)
    go false h = (b ∷ h.0, h.1, ap (onto_first b) h.2)

nothing_on : (parts : List (List ℕ)) → HasFirst parts → onto [] parts ≡ parts
unfolding HasFirst
nothing_on parts h = subst (λ (ps : List (List ℕ)). onto [] ps ≡ ps) (sym h.2) refl

byte_on : (text : List ℕ) (b : ℕ) (parts : List (List ℕ)) → HasFirst parts → onto text (onto_first b parts) ≡ onto (text ++ b ∷ []) parts
unfolding HasFirst
byte_on text b parts h =
    subst (λ (ps : List (List ℕ)). onto text (onto_first b ps) ≡ onto (text ++ b ∷ []) ps) (sym h.2)
    (ap (λ (t : List ℕ). t ∷ h.1) (sym (append_assoc text (b ∷ []) h.0)))

-- the front before a slash
front_on : (before : List ℕ) (part : List ℕ) (parts : List (List ℕ)) → HasFirst parts
    → fronts before (onto part ([] ∷ parts)) ≡ (before ++ 0x2F ∷ part) ∷ fronts (before ++ 0x2F ∷ part) parts
unfolding HasFirst
front_on before part parts h =
    ap (λ (t : List ℕ). fronts before (t ∷ parts)) (append-nil part)
    ∙ subst (λ (ps : List (List ℕ)). fronts before (part ∷ ps) ≡ (before ++ 0x2F ∷ part) ∷ fronts (before ++ 0x2F ∷ part) ps) (sym h.2) refl

fronts_are : (before part rest : List ℕ) → fronts before (onto part (parts_of rest)) ≡ slash_fronts (before ++ 0x2F ∷ part) rest
fronts_are before part [] = refl
fronts_are before part (b ∷ rest) =
    go (b == 0x2F) refl (fronts_are (before ++ 0x2F ∷ part) [] rest) (fronts_are before (part ++ b ∷ []) rest)
  where
    here : List ℕ
    here = before ++ 0x2F ∷ part

    go : (s : Bool) → (b == 0x2F) ≡ s → fronts here (onto [] (parts_of rest)) ≡ slash_fronts (here ++ 0x2F ∷ []) rest
        → fronts before (onto (part ++ b ∷ []) (parts_of rest)) ≡ slash_fronts (before ++ 0x2F ∷ (part ++ b ∷ [])) rest
        → fronts before (onto part (cond s ([] ∷ parts_of rest) (onto_first b (parts_of rest))))
        ≡ (if s then here ∷ slash_fronts (here ++ b ∷ []) rest else slash_fronts (here ++ b ∷ []) rest)
    go true e next more =
        front_on before part (parts_of rest) (has_first rest)
        ∙ ap (λ (l : List (List ℕ)). here ∷ l)
        (ap (fronts here) (sym (nothing_on (parts_of rest) (has_first rest))) ∙ next
        ∙ ap (λ (c : ℕ). slash_fronts (here ++ c ∷ []) rest) (sym (eqb-true b 0x2F e)))
    go false e next more =
        ap (fronts before) (byte_on part b (parts_of rest) (has_first rest))
        ∙ more
        ∙ ap (λ (t : List ℕ). slash_fronts t rest) (sym (append_assoc before (0x2F ∷ part) (b ∷ [])))

pub directories_are : (path : List ℕ) → directories path ≡ slash_fronts (0x2F ∷ 0x2F ∷ []) (drop 2 path)
directories_are path =
    ap (fronts (0x2F ∷ [])) (sym (nothing_on (parts_of (drop 2 path)) (has_first (drop 2 path)))) ∙ fronts_are (0x2F ∷ []) [] (drop 2 path)

-- ---- paths begin with two slashes

slashes_of : (size slashes count empty text dot dots : Bool) → (size && slashes && count && empty && text && dot && dots) ≡ true → slashes ≡ true
slashes_of true true count empty text dot dots e = refl
slashes_of true false count empty text dot dots e = absurd (false≢true e)
slashes_of false slashes count empty text dot dots e = absurd (false≢true e)

pub two_slashes : (path : List ℕ) → is_path path ≡ true → take 2 path ≡ 0x2F ∷ 0x2F ∷ []
two_slashes path is = sym (same-is (codes "//") (take 2 path) (slashes_of _ _ _ _ _ _ _ is))

-- a path is its two slashes with what follows them
pub whole : (path : List ℕ) → is_path path ≡ true → (0x2F ∷ 0x2F ∷ []) ++ drop 2 path ≡ path
whole path is = ap (λ (t : List ℕ). t ++ drop 2 path) (sym (two_slashes path is)) ∙ take-append-drop 2 path

-- ---- a path whose directory fits begins with the literal text

begins_nothing : (text : List ℕ) → begins_with text [] ≡ true
begins_nothing [] = refl
begins_nothing (x ∷ text) = refl

begins_more : (text more start : List ℕ) → begins_with text start ≡ true → begins_with (text ++ more) start ≡ true
begins_more text more [] e = begins_nothing (text ++ more)
begins_more [] more (c ∷ start) e = absurd (false≢true e)
begins_more (x ∷ text) more (c ∷ start) e = go (nat_eq c x) e (begins_more text more start)
  where
    go : (b : Bool) → (b && begins_with text start) ≡ true → (begins_with text start ≡ true → begins_with (text ++ more) start ≡ true)
        → (b && begins_with (text ++ more) start) ≡ true
    go true h next = next h
    go false h next = absurd (false≢true h)

module _ (pattern : List Piece) where
  abbrev front : List ℕ
  front = printed (literal pattern)

  fits_front : (before rest : List ℕ) → list_any (fits pattern) (slash_fronts before rest) ≡ true → begins_with (printed (before ++ rest)) front ≡ true
  fits_front before [] e = absurd (false≢true e)
  fits_front before (b ∷ rest) e = go (b == 0x2F) e (λ h. subst (λ (t : List ℕ). begins_with (printed t) front ≡ true) (append_assoc before (b ∷ []) rest) (fits_front (before ++ b ∷ []) rest h))
    where
      more : List (List ℕ)
      more = slash_fronts (before ++ b ∷ []) rest

      at : (f : Bool) → fits pattern before ≡ f → (f || list_any (fits pattern) more) ≡ true → (list_any (fits pattern) more ≡ true → begins_with (printed (before ++ b ∷ rest)) front ≡ true)
          → begins_with (printed (before ++ b ∷ rest)) front ≡ true
      at true f h next =
          ap (λ (t : List ℕ). begins_with t front) (flat_map-append escaped before (b ∷ rest))
          ∙ begins_more (printed before) (printed (b ∷ rest)) front (begins_literal pattern before f)
      at false f h next = next h

      go : (s : Bool) → list_any (fits pattern) (if s then before ∷ more else more) ≡ true
          → (list_any (fits pattern) more ≡ true → begins_with (printed (before ++ b ∷ rest)) front ≡ true) → begins_with (printed (before ++ b ∷ rest)) front ≡ true
      go true h next = at (fits pattern before) refl h next
      go false h next = next h

  path_begun : (path : List ℕ) → is_path path ≡ true → list_any (fits pattern) (directories path) ≡ true → begins_with (printed path) front ≡ true
  path_begun path is e =
      subst (λ (t : List ℕ). begins_with (printed t) front ≡ true) (whole path is)
      (fits_front (0x2F ∷ 0x2F ∷ []) (drop 2 path) (ap (list_any (fits pattern)) (sym (directories_are path)) ∙ e))

-- ---- the place where a view shows a file is a path

given_is : (line : ViewLine) (later : List ViewLine) (file place : List ℕ) → given_by line later file ≡ Some place → is_path place ≡ true
given_is line later file place e = go (is_exclusion line.sign) e
  where
    at : (made : Option (List ℕ)) → client_path line file ≡ made → unhidden later made ≡ Some place → is_path place ≡ true
    at None f h = absurd cc
    at (Some p) f h = here (hidden_by_some later p) h
      where
        here : (b : Bool) → (if b then None else Some p) ≡ Some place → is_path place ≡ true
        here true k = absurd cc
        here false k = let one : p ≡ place = cc in ap is_path (sym one) ∙ (is_carried line.depot line.client file p f).is_path_too

    go : (b : Bool) → (if b then None else unhidden later (client_path line file)) ≡ Some place → is_path place ≡ true
    go true h = absurd cc
    go false h = at (client_path line file) refl h

place_is : (lines : List ViewLine) (file place : List ℕ) → path_in lines file ≡ Some place → is_path place ≡ true
place_is [] file place e = absurd cc
place_is (line ∷ later) file place e = go (taken_by_some later file) e (place_is later file place)
  where
    go : (b : Bool) → (if b then path_in later file else given_by line later file) ≡ Some place → (path_in later file ≡ Some place → is_path place ≡ true) → is_path place ≡ true
    go true h next = next h
    go false h next = given_is line later file place h

module _ (d : List Deed) (caller : Caller) where
  abbrev shown_at : Mapped → Option (List ℕ)
  shown_at place = elim place [
    | Nothing ↦ None
    | MappedAt p rivals ↦ if list_any (λ rival. is_live_choice d rival (chosen d caller rival Head)) rivals then None else Some p
  ]

  put_there : (later : List ViewLine) (place : Option (List ℕ)) (p : List ℕ) → shown_at (at_path later place) ≡ Some p → place ≡ Some p
  put_there later None p e = absurd cc
  put_there later (Some q) p e = go (list_any (λ rival. is_live_choice d rival (chosen d caller rival Head)) _) e
    where
      go : (b : Bool) → (if b then None else Some q) ≡ Some p → Some q ≡ Some p
      go true h = absurd cc
      go false h = h

  shown_put : (path p : List ℕ) → shown d caller Head path ≡ Some p → path_in (view d caller.client) path ≡ Some p
  shown_put path p e = put_there (after_deciding (view d caller.client) path) (path_in (view d caller.client) path) p e

  pub shown_mapped : (path : List ℕ) → shown_in d caller Head (mapped (view d caller.client) path) ≡ shown d caller Head path
  shown_mapped path = go (mapped (view d caller.client) path)
    where
      go : (place : Mapped) → shown_in d caller Head place ≡ shown_at place
      go Nothing = refl
      go (MappedAt p rivals) = refl

  -- ---- a file of which a directory fits begins as the pattern does

  module _ (asker : Asker) (asked : IsAsker d caller asker) (pattern : List Piece) where
    file_begun : (path : List ℕ) → is_path path ≡ true → list_any (fits pattern) (directories_of d caller pattern path) ≡ true → is_begun asker pattern path ≡ true
    file_begun path is e =
        (λ i. if in_client_syntax (asked.client i) pattern then begins_at (printed (literal pattern)) (path_in (asked.view i) path) else begins_with (printed path) (printed (literal pattern)))
        ∙ go (may_list d caller path && is_live_head d path) (in_client_syntax caller.client pattern) e
      where
        placed : (o : Option (List ℕ)) → shown d caller Head path ≡ o → list_any (fits pattern) (flat_map directories (option_to_list o)) ≡ true
            → begins_at (printed (literal pattern)) (path_in (view d caller.client) path) ≡ true
        placed None f h = absurd (false≢true h)
        placed (Some p) f h =
            let put = shown_put path p f in
            ap (begins_at (printed (literal pattern))) put
            ∙ path_begun pattern p (place_is (view d caller.client) path p put) (ap (list_any (fits pattern)) (sym (append-nil (directories p))) ∙ h)

        go : (m c : Bool) → list_any (fits pattern) (flat_map directories (option_to_list (if m then (if c then shown d caller Head path else Some path) else None))) ≡ true
            → (if c then begins_at (printed (literal pattern)) (path_in (view d caller.client) path) else begins_with (printed path) (printed (literal pattern))) ≡ true
        go false c h = absurd (false≢true h)
        go true true h = placed (shown d caller Head path) refl h
        go true false h = path_begun pattern path is (ap (list_any (fits pattern)) (sym (append-nil (directories path))) ∙ h)

    none_of : (path : List ℕ) → is_path path ≡ true → is_begun asker pattern path ≡ false → list_any (fits pattern) (directories_of d caller pattern path) ≡ false
    none_of path is e = go (list_any (fits pattern) (directories_of d caller pattern path)) refl
      where
        go : (b : Bool) → list_any (fits pattern) (directories_of d caller pattern path) ≡ b → b ≡ false
        go true f = absurd (false≢true (sym e ∙ file_begun path is f))
        go false f = refl

    -- so a file that doesn't adds nothing
    pub begun_alone : (path : List ℕ) → is_path path ≡ true → (texts : List (List ℕ))
        → all_fitting pattern (directories_of d caller pattern path) texts ≡ all_fitting pattern (begun_directories d caller asker pattern path) texts
    begun_alone path is texts = go (is_begun asker pattern path) refl
      where
        go : (b : Bool) → is_begun asker pattern path ≡ b
            → all_fitting pattern (directories_of d caller pattern path) texts ≡ all_fitting pattern (if b then directories_of d caller pattern path else []) texts
        go true e = refl
        go false e = none_fits pattern (directories_of d caller pattern path) texts (none_of path is e)

    pub all_alone : (paths : List (List ℕ)) → list_all is_path paths ≡ true
        → all_fitting pattern (flat_map (directories_of d caller pattern) paths) [] ≡ all_fitting pattern (all_directories d caller asker pattern paths) []
    all_alone [] all = refl
    all_alone (p ∷ paths) all =
        fitting_on pattern (directories_of d caller pattern p) (flat_map (directories_of d caller pattern) paths) []
        ∙ begun_alone p (and_parts (is_path p) (list_all is_path paths) all).0 (all_fitting pattern (flat_map (directories_of d caller pattern) paths) [])
        ∙ ap (all_fitting pattern (begun_directories d caller asker pattern p)) (all_alone paths (and_parts (is_path p) (list_all is_path paths) all).1)
        ∙ sym (fitting_on pattern (begun_directories d caller asker pattern p) (all_directories d caller asker pattern paths) [])

    -- those of files are those of the files that begin so
    pub begun_of : (paths : List (List ℕ)) → all_directories d caller asker pattern paths ≡ flat_map (directories_of d caller pattern) (filter (is_begun asker pattern) paths)
    begun_of [] = refl
    begun_of (p ∷ paths) = go (is_begun asker pattern p) (begun_of paths)
      where
        go : (b : Bool) → all_directories d caller asker pattern paths ≡ flat_map (directories_of d caller pattern) (filter (is_begun asker pattern) paths)
            → (if b then directories_of d caller pattern p else []) ++ all_directories d caller asker pattern paths
            ≡ flat_map (directories_of d caller pattern) (if b then p ∷ filter (is_begun asker pattern) paths else filter (is_begun asker pattern) paths)
        go true more = ap (λ (l : List (List ℕ)). directories_of d caller pattern p ++ l) more
        go false more = more

  -- ---- those of the paths that are seen

  abbrev is_seen : List ℕ → Bool
  is_seen path = may_list d caller path && is_live_head d path

  seen_of : (pattern : List Piece) (paths : List (List ℕ)) → flat_map (directories_of d caller pattern) paths
      ≡ flat_map directories (if in_client_syntax caller.client pattern then filter_map (shown d caller Head) (filter is_seen paths) else filter is_seen paths)
  seen_of pattern [] = go (in_client_syntax caller.client pattern)
    where
      go : (c : Bool) → [] ≡ flat_map directories (if c then filter_map (shown d caller Head) [] else [])
      go true = refl
      go false = refl
  seen_of pattern (p ∷ paths) = go (is_seen p) (in_client_syntax caller.client pattern) (seen_of pattern paths)
    where
      rest : List (List ℕ)
      rest = filter is_seen paths

      placed : (o : Option (List ℕ)) → flat_map directories (option_to_list o) ++ flat_map directories (filter_map (shown d caller Head) rest)
          ≡ flat_map directories (cons_option o (filter_map (shown d caller Head) rest))
      placed None = refl
      placed (Some q) = ap (λ (l : List (List ℕ)). l ++ flat_map directories (filter_map (shown d caller Head) rest)) (append-nil (directories q))

      go : (m c : Bool) → flat_map (directories_of d caller pattern) paths ≡ flat_map directories (if c then filter_map (shown d caller Head) rest else rest)
          → flat_map directories (option_to_list (if m then (if c then shown d caller Head p else Some p) else None)) ++ flat_map (directories_of d caller pattern) paths
          ≡ flat_map directories (if c then filter_map (shown d caller Head) (if m then p ∷ rest else rest) else (if m then p ∷ rest else rest))
      go false c more = more
      go true true more = ap (λ (l : List (List ℕ)). flat_map directories (option_to_list (shown d caller Head p)) ++ l) more ∙ placed (shown d caller Head p)
      go true false more = (λ i. append-nil (directories p) i ++ more i)

  pub seen_directories : (pattern : List Piece) → flat_map (directories_of d caller pattern) (submitted d) ≡ flat_map directories (seen_paths d caller pattern)
  seen_directories pattern = seen_of pattern (submitted d)

all_paths : (paths : List (List ℕ)) → Rise paths → list_all is_path paths ≡ true
all_paths [] up = refl
all_paths (p ∷ paths) up = λ i. up.0 i && all_paths paths up.2 i

pub submitted_are_paths : (d : List Deed) → IsSound d → list_all is_path (submitted d) ≡ true
submitted_are_paths d sound = all_paths (submitted d) (files_rise Submitted d sound)

-- ---- the walk from the end of a path

abbrev pub fitting_from : List Piece → List ℕ → ℕ → List (List ℕ) → List (List ℕ)
fitting_from pattern path at texts = all_fitting pattern (slash_fronts (take at path) (drop at path)) texts

-- at the first two slashes all are there
pub at_two : (pattern : List Piece) (path bytes : List ℕ) (n : ℕ) (texts set : List (List ℕ)) → bytes ≡ path → is_path bytes ≡ true → 2 ≤ n → n ≤ 2
    → set ≡ fitting_from pattern bytes n texts → set ≡ all_fitting pattern (directories path) texts
at_two pattern path bytes n texts set one is low high e =
    e ∙ ap (λ (k : ℕ). fitting_from pattern bytes k texts) (two n low high)
    ∙ ap (λ (front : List ℕ). all_fitting pattern (slash_fronts front (drop 2 bytes)) texts) (two_slashes bytes is)
    ∙ ap (λ (ds : List (List ℕ)). all_fitting pattern ds texts) (sym (directories_are bytes) ∙ ap directories one)
  where
    two : (m : ℕ) → 2 ≤ m → m ≤ 2 → m ≡ 2
    two m h k = omega (arith, h, k)
