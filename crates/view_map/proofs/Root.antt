-- Every client path of a view lies below the client's root.
use Rattle.std.proofs.Common.{◌≡◌, inl, inr, ℕ, ◌+◌, Bool, true, false, cond, List, [], ◌∷◌, ◌++◌, length, drop, Option, Some, None, Result, Ok, Err, refl, sym, ap, ◌∙◌, append_assoc}
use Rattle.std.specs.Prelude.{◌&&◌, ◌==◌, not, is_some, nat_lt}
use Rattle.std.specs.List.{list_all}
use Rattle.std.proofs.lemmas.Bool.{eqb-true, and_parts}
use Rattle.depot_path.specs.Answers.{◌>>=◌, on_ok, on_err}
use Rattle.depot_path.specs.Bytes.{begins_with}
use Rattle.depot_path.specs.Pattern.{literal}
use Rattle.depot_path.specs.Fit.{fits, texts}
use Rattle.depot_path.specs.declared.piece.Piece.{Piece}
use Rattle.depot_path.specs.declared.piece.Piece.TheVariants.{Byte, Star, Dots, Place}
use Rattle.view_map.specs.Specifiers.{same_specifiers}
use Rattle.view_map.specs.Mapping.{taken_by_some, path_in}
use Rattle.view_map.specs.Reading.{side_of, sides_of, sign_of, line_with, line_of_sides, line_of, in_line, lines_from, root_of, view_of}
use Rattle.view_map.specs.declared.fault.ViewCause.{ViewCause}
use Rattle.view_map.specs.declared.fault.ViewCause.TheVariants.{UnequalSpecifiers, TooManyLines, WrongRoot}
use Rattle.view_map.specs.declared.fault.ViewFault.{ViewFault}
use Rattle.view_map.specs.declared.line.Sign.{Sign}
use Rattle.view_map.specs.declared.line.ViewLine.{ViewLine}
use Rattle.view_map.proofs.BothWays.{is_carried}
use Rattle.view_map.proofs.Found.{is_given, in_later, in_first, taken_case}
use Rattle.view_map.proofs.Start.{begins_itself, rest_of}

-- ---- a path that fits begins with the literal text

byte_is : (c : Bool) (o : Option (List (List ℕ))) → is_some (cond c o None) ≡ true → (c ≡ true) × (is_some o ≡ true)
byte_is true o e = (refl, e)
byte_is false o e = absurd cc

starts : (p : List Piece) (t : List ℕ) → fits p t ≡ true → (rest : List ℕ) × (t ≡ literal p ++ rest)
starts [] t e = (t, refl)
starts (Star ∷ p) t e = (t, refl)
starts (Dots ∷ p) t e = (t, refl)
starts (Place k ∷ p) t e = (t, refl)
starts (Byte b ∷ p) [] e = absurd cc
starts (Byte b ∷ p) (x ∷ t) e =
    let h = byte_is (b == x) (texts p t) e in
    let r = starts p t h.1 in
    (r.0, ap (λ c. c ∷ t) (sym (eqb-true b x h.0)) ∙ ap (λ (u : List ℕ). b ∷ u) r.1)

longer : (t a b : List ℕ) → begins_with a b ≡ true → (rest : List ℕ) × (t ≡ a ++ rest) → begins_with t b ≡ true
longer t a b e r =
    ap (λ u. begins_with u b) (r.1 ∙ ap (λ (u : List ℕ). u ++ r.0) (rest_of a b e) ∙ assoc b (drop (length b) a) r.0) ∙ begins_itself b (drop (length b) a ++ r.0)
  where
    assoc : (x y z : List ℕ) → (x ++ y) ++ z ≡ x ++ (y ++ z)
    assoc x y z = append_assoc x y z

-- ---- lines that are read

abbrev is_rooted : List ℕ → ViewLine → Bool
is_rooted root line = begins_with (literal line.client) root

rooted_with : (root : List ℕ) (sign : Sign) (depot client : List Piece) (line : ViewLine) → line_with root sign depot client ≡ Ok line → is_rooted root line ≡ true
rooted_with root sign depot client line e = go (same_specifiers depot client) (begins_with (literal client) root) refl e
  where
    made : ViewLine
    made = record { sign = sign; depot = depot; client = client }

    go : (a b : Bool) → begins_with (literal client) root ≡ b → cond (not a) (Err UnequalSpecifiers) (cond (not b) (Err WrongRoot) (Ok made)) ≡ Ok line → is_rooted root line ≡ true
    go false b f e = absurd cc
    go true false f e = absurd cc
    go true true f e = let is : made ≡ line = cc in ap (λ (l : ViewLine). begins_with (literal l.client) root) (sym is) ∙ f

rooted_sides : (root : List ℕ) (sign : Sign) (o : Option (List ℕ × List ℕ)) (line : ViewLine) → line_of_sides root sign o ≡ Ok line → is_rooted root line ≡ true
rooted_sides root sign None line e = absurd cc
rooted_sides root sign (Some sides) line e = go (side_of sides.0) (side_of sides.1) e
  where
    go : (a b : Result (List Piece) ViewCause) → (a >>= (λ depot. b >>= (λ client. line_with root sign depot client))) ≡ Ok line → is_rooted root line ≡ true
    go (Err fault) b e = absurd cc
    go (Ok depot) (Err fault) e = absurd cc
    go (Ok depot) (Ok client) e = rooted_with root sign depot client line e

rooted_lines : (n : ℕ) (root : List ℕ) (texts : List (List ℕ)) (lines : List ViewLine) → lines_from n root texts ≡ Ok lines → list_all (is_rooted root) lines ≡ true
rooted_lines n root [] lines e = let none : [] ≡ lines = cc in ap (list_all (is_rooted root)) (sym none)
rooted_lines n root (text ∷ texts) lines e =
    go (line_of root text) (λ line f. rooted_sides root (sign_of text) (sides_of text) line f) (lines_from (n + 1) root texts) (λ ls f. rooted_lines (n + 1) root texts ls f) e
  where
    go : (a : Result ViewLine ViewCause) → ((line : ViewLine) → a ≡ Ok line → is_rooted root line ≡ true) →
        (b : Result (List ViewLine) ViewFault) → ((ls : List ViewLine) → b ≡ Ok ls → list_all (is_rooted root) ls ≡ true) →
        (on_err (in_line n) a >>= (λ line. on_ok (λ ls. line ∷ ls) b)) ≡ Ok lines → list_all (is_rooted root) lines ≡ true
    go (Err fault) f b g e = absurd cc
    go (Ok line) f (Err fault) g e = absurd cc
    go (Ok line) f (Ok ls) g e =
        let is : line ∷ ls ≡ lines = cc in
        ap (list_all (is_rooted root)) (sym is) ∙ ap (λ b. b && list_all (is_rooted root) ls) (f line refl) ∙ g ls refl

below : (root : List ℕ) (lines : List ViewLine) (file path : List ℕ) → list_all (is_rooted root) lines ≡ true → path_in lines file ≡ Some path → begins_with path root ≡ true
below root [] file path h e = absurd cc
below root (line ∷ later) file path h e =
    elim (taken_case (taken_by_some later file)) [
      | inl t ↦ below root later file path (and_parts (is_rooted root line) (list_all (is_rooted root) later) h).1 (sym (in_later line later file t) ∙ e)
      | inr t ↦
          let g = is_given line later file path (sym (in_first line later file t) ∙ e) in
          let r = is_carried line.depot line.client file path g.there in
          longer path (literal line.client) root (and_parts (is_rooted root line) (list_all (is_rooted root) later) h).0 (starts line.client path (ap is_some r.again))
    ]

pub below_root : (client : List ℕ) (texts : List (List ℕ)) (lines : List ViewLine) (file path : List ℕ) → view_of client texts ≡ Ok lines → path_in lines file ≡ Some path →
    begins_with path (root_of client) ≡ true
below_root client texts lines file path v e = go (nat_lt 200 (length texts)) v
  where
    go : (b : Bool) → cond b (Err (in_line 201 TooManyLines)) (lines_from 1 (root_of client) texts) ≡ Ok lines → begins_with path (root_of client) ≡ true
    go true v = absurd cc
    go false v = below (root_of client) lines file path (rooted_lines 1 (root_of client) texts lines v) e
