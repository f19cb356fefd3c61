-- How a text spells the bytes of a path and the pieces of a pattern.
use Rattle.std.proofs.Common.{◌≡◌, ℕ, zero, suc, List, [], ◌∷◌, drop, refl}
use Rattle.std.proofs.Common.{Bool, true, false, ◌+◌, ◌≤◌, length, slice_index, ◌++◌, Option, Some, None, cond, ap, sym, ◌∙◌, add-one, append_assoc, arith}
use Rattle.std.specs.Prelude.{nat_lt}
use Rattle.std.proofs.lemmas.Bool.Decides.{nat_tests}
use Rattle.depot_path.specs.declared.fault.PathFault.{PathFault}
use Rattle.depot_path.specs.declared.piece.Piece.{Piece}
use Rattle.std.specs.Prelude.{◌&&◌, ◌||◌, ◌==◌}
use Rattle.depot_path.specs.Path.{unescaped}
use Rattle.depot_path.specs.Pattern.{pieces, piece_at, has_bad_percent, more_bytes, pattern_fault}

pub unescaped_on : (k : ℕ) (text : List ℕ) → unescaped k text ≡ unescaped 0 (drop k text)
unescaped_on zero text = refl
unescaped_on (suc k) [] = refl
unescaped_on (suc k) (b ∷ text) = unescaped_on k text

pub pieces_on : (positional : Bool) (k : ℕ) (text : List ℕ) → pieces positional k text ≡ pieces positional 0 (drop k text)
pieces_on positional zero text = refl
pieces_on positional (suc k) [] = refl
pieces_on positional (suc k) (b ∷ text) = pieces_on positional k text

pub bad_percent_on : (positional : Bool) (k : ℕ) (text : List ℕ) → has_bad_percent positional k text ≡ has_bad_percent positional 0 (drop k text)
bad_percent_on positional zero text = refl
bad_percent_on positional (suc k) [] = refl
bad_percent_on positional (suc k) (b ∷ text) = bad_percent_on positional k text

-- what a text begins with, and what the rest spells
pub pieces_step : (positional : Bool) (text : List ℕ) → 1 ≤ length text →
    pieces positional 0 text ≡ piece_at positional text (slice_index text 0) ∷ pieces positional 0 (drop (more_bytes positional text + 1) text)
pieces_step positional [] h = absurd (omega arith)
pieces_step positional (b ∷ text) h = rw add-one (ap (λ r. piece_at positional (b ∷ text) b ∷ r) (pieces_on positional (more_bytes positional (b ∷ text)) text))

or_else : (a b : Bool) → a ≡ false → (a || b) ≡ b
or_else a b e = ap (λ c. c || b) e

pub bad_percent_step : (positional : Bool) (text : List ℕ) → 1 ≤ length text → ((slice_index text 0 == 0x25) && (more_bytes positional text == 0)) ≡ false →
    has_bad_percent positional 0 text ≡ has_bad_percent positional 0 (drop (more_bytes positional text + 1) text)
bad_percent_step positional [] h e = absurd (omega arith)
bad_percent_step positional (b ∷ text) h e =
    rw add-one (or_else _ (has_bad_percent positional (more_bytes positional (b ∷ text)) text) e ∙ bad_percent_on positional (more_bytes positional (b ∷ text)) text)

pub bad_percent_here : (positional : Bool) (text : List ℕ) → 1 ≤ length text → ((slice_index text 0 == 0x25) && (more_bytes positional text == 0)) ≡ true → has_bad_percent positional 0 text ≡ true
bad_percent_here positional [] h e = absurd (omega arith)
bad_percent_here positional (b ∷ text) h e = ap (λ c. c || has_bad_percent positional (more_bytes positional (b ∷ text)) text) e

pub length-pieces : (positional : Bool) (k : ℕ) (text : List ℕ) → length (pieces positional k text) ≤ length text
length-pieces positional k [] = omega arith
length-pieces positional (suc k) (b ∷ text) = omega (arith, length-pieces positional k text)
length-pieces positional zero (b ∷ text) = omega (arith, length-pieces positional (more_bytes positional (b ∷ text)) text)

pub pushed : (positional : Bool) (done new : List Piece) (text rest after : List ℕ) (piece : Piece) →
    done ++ pieces positional 0 rest ≡ pieces positional 0 text → new ≡ done ++ piece ∷ [] → piece ≡ piece_at positional rest (slice_index rest 0) →
    after ≡ drop (more_bytes positional rest + 1) rest → 1 ≤ length rest → new ++ pieces positional 0 after ≡ pieces positional 0 text
pushed positional done new text rest after piece h e f g long =
    ap (λ ps. ps ++ pieces positional 0 after) e
    ∙ append_assoc done (piece ∷ []) (pieces positional 0 after)
    ∙ ap (λ p. done ++ (p ∷ pieces positional 0 after)) f
    ∙ ap (λ r. done ++ (piece_at positional rest (slice_index rest 0) ∷ pieces positional 0 r)) g
    ∙ ap (λ ps. done ++ ps) (sym (pieces_step positional rest long))
    ∙ h

fault_none : (c : Bool) (f : PathFault) (rest : Option PathFault) → cond c (Some f) rest ≡ None → c ≡ false
fault_none true f rest e = absurd cc
fault_none false f rest e = refl

not_long : (n : ℕ) → nat_lt 1024 n ≡ false → n ≤ 1024
not_long n e = grind (arith, nat_tests)

pub few_pieces : (positional : Bool) (text : List ℕ) (ps : List Piece) → pattern_fault positional text ≡ None → ps ≡ pieces positional 0 text → length ps ≤ 1024
few_pieces positional text ps e f =
    let short : length text ≤ 1024 = not_long (length text) (fault_none _ _ _ e) in
    omega (arith, ap (λ (r : List Piece). length r) f, length-pieces positional 0 text, short)
