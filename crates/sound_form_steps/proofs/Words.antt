-- The words of a line of the protections, joined by one space each, are the words of the line that they make; and the step that saves the lines.
use Rattle.std.proofs.Common.{◌≡◌, ℕ, ◌+◌, Bool, true, false, List, [], ◌∷◌, ◌++◌, Option, Some, None, Result, Ok, Err, refl, sym, ap, subst, ◌∙◌}
use Rattle.std.specs.Prelude.{◌&&◌, ◌==◌, not, codes, map, filter, length, nat_lt, slice_get, is_ok, IfSome, ◌-◌, if◌then◌else◌}
use Rattle.std.specs.List.{list_all, join_with_byte, onto_first}
use Rattle.std.proofs.lemmas.Bool.{and_from, and_parts}
use Rattle.depot_rows.specs.depot_path.Answers.{◌>>=◌, on_ok, on_err}
use Rattle.depot_rows.specs.protect_table.Line.{line_of_words, lines_from, in_line, table_of as protects_of}
use Rattle.depot_rows.specs.protect_table.Words.{parts_words, quoted_after, joined, between_spaces, is_word, is_comment, before_comment, words_of}
use Rattle.depot_rows.specs.protect_table.declared.fault.ProtectFault.{ProtectFault}
use Rattle.depot_rows.specs.protect_table.declared.line.ProtectLine.{ProtectLine}
use Rattle.depot_rows.specs.spec_form.Form.{FormValue, lines_of}
use Rattle.depot_rows.specs.spec_form.Places.{line_place}
use Rattle.depot_rows.specs.spec_form.Reading.{form_of}
use Rattle.depot_rows.specs.spec_form.declared.fault.FormFault.{FormFault}
use Rattle.depot_rows.specs.spec_form.declared.shape.Shape.TheVariants.{Protect}
use Rattle.depot_rows.specs.depot_model.Deeds.{Deed, Guard}
use Rattle.depot_rows.specs.depot_model.Rows.{row, text_field}
use Rattle.depot_rows.specs.depot_model.Rules.{IsSound}
use Rattle.depot_rows.specs.depot_model.Step.{Step, does, refuses, after, unless, refuse_if}
use Rattle.depot_rows.specs.depot_model.Steps.Protections.{kept_line, saved, protect_save}
use Rattle.depot_rows.specs.depot_model.declared.refusal.Refusal.TheVariants.{BadForm, OverLimit}
use Rattle.depot_rows.specs.depot_model.declared.refusal.Limit.TheVariants.{Protections}
use Rattle.depot_rows.specs.depot_model.declared.reply.Row.{Row}
use Rattle.depot_rows.proofs.Keys.{number-is}
use Rattle.sound_deeds.proofs.Whole.{one_sound}
use Rattle.depot_facts.proofs.Steps.{passed, unless_sound}

-- whether what follows a word stands in quotes, and whether no space parts it
abbrev state : Bool → List ℕ → Bool
state q [] = q
state q (b ∷ w) = state (quoted_after q b) w

abbrev solid : Bool → List ℕ → Bool
solid q [] = true
solid q (b ∷ w) = not (parts_words q b) && solid (quoted_after q b) w

abbrev nonempty : List (List ℕ) → Bool
nonempty [] = false
nonempty (x ∷ xs) = true

-- words as they stand between spaces
abbrev Good : Bool → List (List ℕ) → Type 0
Good q [] = Unit {0}
Good q (w ∷ ws) = (solid q w ≡ true) × (nonempty ws ≡ true → state q w ≡ false) × Good false ws

-- ---- words joined

whole : (q : Bool) (w : List ℕ) → solid q w ≡ true → between_spaces q w ≡ w ∷ []
whole q [] e = refl
whole q (b ∷ w) e = go (parts_words q b) e (whole (quoted_after q b) w)
  where
    go : (p : Bool) → (not p && solid (quoted_after q b) w) ≡ true → (solid (quoted_after q b) w ≡ true → between_spaces (quoted_after q b) w ≡ w ∷ [])
        → joined p b (between_spaces (quoted_after q b) w) ≡ (b ∷ w) ∷ []
    go true f later = absurd cc
    go false f later = ap (onto_first b) (later f)

parted : (q : Bool) (w t : List ℕ) → solid q w ≡ true → state q w ≡ false → between_spaces q (w ++ 0x20 ∷ t) ≡ w ∷ between_spaces false t
parted q [] t e f = ap (λ (s : Bool). between_spaces s (0x20 ∷ t)) f
parted q (b ∷ w) t e f = go (parts_words q b) e (λ h. parted (quoted_after q b) w t h f)
  where
    go : (p : Bool) → (not p && solid (quoted_after q b) w) ≡ true
        → (solid (quoted_after q b) w ≡ true → between_spaces (quoted_after q b) (w ++ 0x20 ∷ t) ≡ w ∷ between_spaces false t)
        → joined p b (between_spaces (quoted_after q b) (w ++ 0x20 ∷ t)) ≡ (b ∷ w) ∷ between_spaces false t
    go true g later = absurd cc
    go false g later = ap (onto_first b) (later g)

joined_back : (w : List ℕ) (ws : List (List ℕ)) → Good false (w ∷ ws) → between_spaces false (join_with_byte 0x20 (w ∷ ws)) ≡ w ∷ ws
joined_back w [] good = whole false w good.0
joined_back w (x ∷ ws) good = parted false w (join_with_byte 0x20 (x ∷ ws)) good.0 (good.1 refl) ∙ ap (λ (r : List (List ℕ)). w ∷ r) (joined_back x ws good.2)

-- ---- the words of a line are good

put_first : (q : Bool) (b : ℕ) (ws : List (List ℕ)) → parts_words q b ≡ false → Good (quoted_after q b) ws → Good q (onto_first b ws)
put_first q b [] e good = (ap (λ (p : Bool). not p && true) e, λ h. absurd cc, tt)
put_first q b (w ∷ ws) e good = ((λ i. not (e i) && good.0 i), good.1, good.2)

parting : (q : Bool) (b : ℕ) → parts_words q b ≡ true → (q ≡ false) × (quoted_after q b ≡ false)
parting q b e =
    let space : b ≡ 0x20 = number-is b 0x20 (and_parts (b == 0x20) (not q) e).0 in
    let outside : q ≡ false = is_not q (and_parts (b == 0x20) (not q) e).1 in
    (outside, ap (quoted_after q) space ∙ outside)
  where
    is_not : (p : Bool) → not p ≡ true → p ≡ false
    is_not true f = absurd cc
    is_not false f = refl

between_good : (q : Bool) (line : List ℕ) → Good q (between_spaces q line)
between_good q [] = (refl, λ h. absurd cc, tt)
between_good q (b ∷ line) = go (parts_words q b) refl (between_good (quoted_after q b) line)
  where
    go : (p : Bool) → parts_words q b ≡ p → Good (quoted_after q b) (between_spaces (quoted_after q b) line) → Good q (joined p b (between_spaces (quoted_after q b) line))
    go true e good =
        let both = parting q b e in
        (refl, λ h. both.0, subst (λ (s : Bool). Good s (between_spaces (quoted_after q b) line)) both.1 good)
    go false e good = put_first q b (between_spaces (quoted_after q b) line) e good

filter_some : (ws : List (List ℕ)) → nonempty (filter is_word ws) ≡ true → nonempty ws ≡ true
filter_some [] e = e
filter_some (w ∷ ws) e = refl

filter_good : (q : Bool) (ws : List (List ℕ)) → Good q ws → Good q (filter is_word ws)
filter_good q [] good = tt
filter_good q ([] ∷ ws) good = go (filter is_word ws) (filter_some ws) (filter_good false ws good.2)
  where
    go : (fs : List (List ℕ)) → (nonempty fs ≡ true → nonempty ws ≡ true) → Good false fs → Good q fs
    go [] some kept = tt
    go (f ∷ fs) some kept = subst (λ (s : Bool). Good s (f ∷ fs)) (sym (good.1 (some refl))) kept
filter_good q ((b ∷ w) ∷ ws) good = (good.0, (λ h. good.1 (filter_some ws h)), filter_good false ws good.2)

before_some : (ws : List (List ℕ)) → nonempty (before_comment ws) ≡ true → nonempty ws ≡ true
before_some [] e = e
before_some (w ∷ ws) e = refl

before_good : (q : Bool) (ws : List (List ℕ)) → Good q ws → Good q (before_comment ws)
before_good q [] good = tt
before_good q (w ∷ ws) good = go (is_comment w) (before_good false ws good.2)
  where
    go : (b : Bool) → Good false (before_comment ws) → Good q (if b then [] else w ∷ before_comment ws)
    go true later = tt
    go false later = (good.0, (λ h. good.1 (before_some ws h)), later)

-- ---- words that are words, before the comment

filter_same : (ws : List (List ℕ)) → list_all is_word ws ≡ true → filter is_word ws ≡ ws
filter_same [] e = refl
filter_same (w ∷ ws) e = go (is_word w) e (filter_same ws)
  where
    go : (b : Bool) → (b && list_all is_word ws) ≡ true → (list_all is_word ws ≡ true → filter is_word ws ≡ ws)
        → (if b then w ∷ filter is_word ws else filter is_word ws) ≡ w ∷ ws
    go true f later = ap (λ (r : List (List ℕ)). w ∷ r) (later f)
    go false f later = absurd cc

before_words : (ws : List (List ℕ)) → list_all is_word ws ≡ true → list_all is_word (before_comment ws) ≡ true
before_words [] e = refl
before_words (w ∷ ws) e = go (is_comment w) (and_parts (is_word w) (list_all is_word ws) e).0 (before_words ws (and_parts (is_word w) (list_all is_word ws) e).1)
  where
    go : (b : Bool) → is_word w ≡ true → list_all is_word (before_comment ws) ≡ true → list_all is_word (if b then [] else w ∷ before_comment ws) ≡ true
    go true h later = refl
    go false h later = and_from (is_word w) (list_all is_word (before_comment ws)) h later

before_twice : (ws : List (List ℕ)) → before_comment (before_comment ws) ≡ before_comment ws
before_twice [] = refl
before_twice (w ∷ ws) = go (is_comment w) refl (before_twice ws)
  where
    go : (b : Bool) → is_comment w ≡ b → before_comment (before_comment ws) ≡ before_comment ws
        → before_comment (if b then [] else w ∷ before_comment ws) ≡ (if b then [] else w ∷ before_comment ws)
    go true e later = refl
    go false e later = ap (λ (b : Bool). if b then [] else w ∷ before_comment (before_comment ws)) e ∙ ap (λ (r : List (List ℕ)). w ∷ r) later

-- the words of a line make one with the same words
pub words_again : (line : List ℕ) → words_of (kept_line line) ≡ words_of line
words_again line =
    go (words_of line) (before_good false (filter is_word (between_spaces false line)) (filter_good false (between_spaces false line) (between_good false line)))
    (before_words (filter is_word (between_spaces false line)) (passed is_word (between_spaces false line)))
    (before_twice (filter is_word (between_spaces false line)))
  where
    go : (ws : List (List ℕ)) → Good false ws → list_all is_word ws ≡ true → before_comment ws ≡ ws → words_of (join_with_byte 0x20 ws) ≡ ws
    go [] good are twice = refl
    go (w ∷ ws) good are twice =
        ap (λ (r : List (List ℕ)). before_comment (filter is_word r)) (joined_back w ws good) ∙ ap before_comment (filter_same (w ∷ ws) are) ∙ twice

-- ---- protect -i

lines_same : (n : ℕ) (lines : List (List ℕ)) → lines_from n (map kept_line lines) ≡ lines_from n lines
lines_same n [] = refl
lines_same n (line ∷ lines) =
    λ i. on_err (in_line n) (line_of_words (words_again line i)) >>= (λ l. on_ok (λ rest. l ∷ rest) (lines_same (n + 1) lines i))

abbrev saved_row : Row
saved_row = row (text_field (codes "action") (codes "saved") ∷ [])

module _ (d : List Deed) (sound : IsSound d) (input : List ℕ) where
  lines_saved : (lines : List (List ℕ)) → IsSound (after d (saved input lines).deeds)
  lines_saved lines = go (protects_of lines) refl
    where
      go : (r : Result (List ProtectLine) ProtectFault) → protects_of lines ≡ r
          → IsSound (after d (elim r as (λ _. Step) [
            | Err fault ↦ refuses (BadForm (line_place input (codes "Protections") (fault.line - 1)))
            | Ok protects ↦ unless (refuse_if (nat_lt 1000 (length lines)) (OverLimit Protections) ∷ [])
                (does (Guard (map kept_line lines) ∷ []) saved_row)
          ]).deeds)
      go (Err fault) e = sound
      go (Ok protects) e = unless_sound d sound (refuse_if (nat_lt 1000 (length lines)) (OverLimit Protections) ∷ []) (does (Guard (map kept_line lines) ∷ []) saved_row)
          (λ none. one_sound d (Guard (map kept_line lines)) sound refl
          (ap (λ (r : Result (List ProtectLine) ProtectFault). is_ok r) (lines_same 1 lines ∙ e), λ n. each (slice_get (map kept_line lines) n)) tt)
        where
          each : (o : Option (List ℕ)) → IfSome o (λ line. words_of (kept_line line) ≡ words_of line)
          each None = tt
          each (Some line) = words_again line

  pub protect_sound : IsSound (after d (protect_save input).deeds)
  protect_sound = go (form_of Protect input)
    where
      go : (r : Result FormValue FormFault)
          → IsSound (after d (elim r as (λ _. Step) [ Err fault ↦ refuses (BadForm fault.line) | Ok form ↦ saved input (lines_of form (codes "Protections")) ]).deeds)
      go (Err fault) = sound
      go (Ok form) = lines_saved (lines_of form (codes "Protections"))
