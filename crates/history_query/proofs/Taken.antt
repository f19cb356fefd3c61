-- The rows of the directories that arguments name, each once, are the model's.
use Rattle.std.proofs.Common.{◌≡◌, ℕ, Bool, true, false, List, [], ◌∷◌, ◌++◌, refl, sym, ap, ◌∙◌, map}
use Rattle.std.specs.Prelude.{◌||◌, filter, if◌then◌else◌, not}
use Rattle.std.specs.Cmp.Lexicographic.{slice_cmp, texts_ties}
use Rattle.std.specs.List.{list_any}
use Rattle.std.specs.Ordering.{is_eq, match_ordering, nat_cmp}
use Rattle.std.specs.declared.cmp.Ordering.{Ordering}
use Rattle.std.specs.declared.cmp.Ordering.TheVariants.{Less, Equal, Greater}
use Rattle.std.proofs.lemmas.List.Folds.{list_any-append}
use Rattle.depot_rows.specs.depot_path.Bytes.{same}
use Rattle.depot_rows.specs.depot_path.OrderLaws.{paths_ties}
use Rattle.depot_rows.specs.depot_path.Path.{printed}
use Rattle.depot_rows.specs.depot_model.declared.command.FileArgument.{FileArgument}
use Rattle.depot_rows.specs.depot_model.declared.reply.Row.{Row}
use Rattle.depot_rows.specs.depot_model.declared.request.Caller.{Caller}
use Rattle.depot_rows.specs.depot_model.Deeds.{Deed}
use Rattle.depot_rows.specs.depot_model.Steps.History.{dir_row, dirs_after, dirs_of, no_dir}
use Rattle.depot_rows.proofs.Keys.{same-is}
use Rattle.reply_rows.proofs.Bare.{AreBare}
use Rattle.history_query.specs.Directories.{missing_rows, new_rows, taken_after, text_inserted, text_row, told_after}

-- printed texts are one where what they spell is
pub printed_same : (p q : List ℕ) → same (printed p) (printed q) ≡ same p q
printed_same p q = texts_ties (printed p) (printed q) ∙ sym (paths_ties p q)

-- a text is among some where one of the same order is
pub contains_is : (t : List ℕ) (texts : List (List ℕ)) → list_any (λ q. is_eq (slice_cmp nat_cmp t q)) texts ≡ list_any (same t) texts
contains_is t texts = λ i. list_any (λ q. sym (texts_ties t q) i) texts

either_way : (a b c : Bool) → (a || (b || c)) ≡ (b || (a || c))
either_way true true c = refl
either_way true false c = refl
either_way false b c = refl

twice : (a b : Bool) → (a || b) ≡ (a || (a || b))
twice true b = refl
twice false b = refl

-- what is among texts where one was put
in_inserted : (q t : List ℕ) (texts : List (List ℕ)) → list_any (same q) (text_inserted t texts) ≡ (same q t || list_any (same q) texts)
in_inserted q t [] = refl
in_inserted q t (x ∷ texts) = go (slice_cmp nat_cmp t x) refl (in_inserted q t texts)
  where
    go : (o : Ordering) → slice_cmp nat_cmp t x ≡ o → list_any (same q) (text_inserted t texts) ≡ (same q t || list_any (same q) texts)
        → list_any (same q) (match_ordering o (t ∷ x ∷ texts) (x ∷ texts) (x ∷ text_inserted t texts)) ≡ (same q t || (same q x || list_any (same q) texts))
    go Less e more = refl
    go Equal e more =
        let one : t ≡ x = same-is t x (texts_ties t x ∙ ap is_eq e) in
        twice (same q x) (list_any (same q) texts) ∙ (λ i. same q (sym one i) || (same q x || list_any (same q) texts))
    go Greater e more = ap (λ (b : Bool). same q x || b) more ∙ either_way (same q x) (same q t) (list_any (same q) texts)

in_after : (q : List ℕ) (taken texts : List (List ℕ)) → list_any (same q) (taken_after taken texts) ≡ (list_any (same q) taken || list_any (same q) texts)
in_after q taken [] = nothing (list_any (same q) taken)
  where
    nothing : (b : Bool) → b ≡ (b || false)
    nothing true = refl
    nothing false = refl
in_after q taken (t ∷ texts) =
    in_after q (text_inserted t taken) texts ∙ ap (λ (b : Bool). b || list_any (same q) texts) (in_inserted q t taken)
    ∙ moved (same q t) (list_any (same q) taken) (list_any (same q) texts)
  where
    moved : (a b c : Bool) → ((a || b) || c) ≡ (b || (a || c))
    moved true true c = refl
    moved true false c = refl
    moved false b c = refl

in_printed : (p : List ℕ) (ps : List (List ℕ)) → list_any (same (printed p)) (map printed ps) ≡ list_any (same p) ps
in_printed p [] = refl
in_printed p (q ∷ ps) = λ i. printed_same p q i || in_printed p ps i

-- printed texts are among some where what they spell is among others
AreTaken : List (List ℕ) → List (List ℕ) → Type 0
AreTaken texts taken = (p : List ℕ) → list_any (same (printed p)) texts ≡ list_any (same p) taken

new_are : (texts taken : List (List ℕ)) → AreTaken texts taken → (ds : List (List ℕ))
    → new_rows texts (map printed ds) ≡ map dir_row (filter (λ path. not (list_any (same path) taken)) ds)
unfolding AreTaken
new_are texts taken are [] = refl
new_are texts taken are (p ∷ ds) = ap (λ (b : Bool). map text_row (if not b then printed p ∷ rest else rest)) (are p) ∙ go (not (list_any (same p) taken)) (new_are texts taken are ds)
  where
    rest : List (List ℕ)
    rest = filter (λ text. not (list_any (same text) texts)) (map printed ds)

    go : (b : Bool) → map text_row rest ≡ map dir_row (filter (λ path. not (list_any (same path) taken)) ds)
        → map text_row (if b then printed p ∷ rest else rest)
        ≡ map dir_row (if b then p ∷ filter (λ path. not (list_any (same path) taken)) ds else filter (λ path. not (list_any (same path) taken)) ds)
    go true more = ap (λ (l : List Row). dir_row p ∷ l) more
    go false more = more

none_named : (a : FileArgument) (ds : List (List ℕ)) → missing_rows a (map printed ds) ≡ no_dir a ds
none_named a [] = refl
none_named a (p ∷ ds) = refl

module _ (d : List Deed) (caller : Caller) where
  told_from : (texts taken : List (List ℕ)) → AreTaken texts taken → (arguments : List FileArgument) → told_after d caller texts arguments ≡ dirs_after d caller taken arguments
  unfolding AreTaken
  told_from texts taken are [] = refl
  told_from texts taken are (a ∷ arguments) =
      let ds = dirs_of d caller a.spec.pattern in
      λ i. (none_named a ds i ++ new_are texts taken are ds i)
      ++ told_from (taken_after texts (map printed ds)) (taken ++ ds)
      (λ p. in_after (printed p) texts (map printed ds) ∙ (λ j. are p j || in_printed p ds j) ∙ sym (list_any-append (same p) taken ds)) arguments i

  pub dirs_told : (arguments : List FileArgument) → told_after d caller [] arguments ≡ dirs_after d caller [] arguments
  unfolding AreTaken
  dirs_told arguments = told_from [] [] (λ p. refl) arguments

  bare_on : (a b : List Row) → AreBare a → AreBare b → AreBare (a ++ b)
  bare_on [] b one two = two
  bare_on (r ∷ a) b one two = (one.0, bare_on a b one.1 two)

  dir_bare : (ds : List (List ℕ)) → AreBare (map dir_row ds)
  dir_bare [] = tt
  dir_bare (p ∷ ds) = (refl, dir_bare ds)

  none_bare : (a : FileArgument) (ds : List (List ℕ)) → AreBare (no_dir a ds)
  none_bare a [] = (refl, tt)
  none_bare a (p ∷ ds) = tt

  pub dirs_bare : (taken : List (List ℕ)) (arguments : List FileArgument) → AreBare (dirs_after d caller taken arguments)
  dirs_bare taken [] = tt
  dirs_bare taken (a ∷ arguments) =
      let ds = dirs_of d caller a.spec.pattern in
      let kept = filter (λ path. not (list_any (same path) taken)) ds in
      bare_on (no_dir a ds ++ map dir_row kept) (dirs_after d caller (taken ++ ds) arguments)
      (bare_on (no_dir a ds) (map dir_row kept) (none_bare a ds) (dir_bare kept)) (dirs_bare (taken ++ ds) arguments)
