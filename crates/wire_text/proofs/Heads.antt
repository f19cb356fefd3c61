-- The parts of a head.
use Rattle.std.proofs.Common.{◌≡◌, ℕ, ◌+◌, ◌<◌, ◌≤◌, true, List, [], ◌∷◌, ◌++◌, length, None, refl, sym, ap, ◌∙◌, arith}
use Rattle.std.specs.Borrow.{Bor}
use Rattle.std.specs.List.{onto_first}
use Rattle.std.proofs.lemmas.List.{length-map}
use Rattle.wire_text.specs.Parts.{upto, past, is_in, IsFree, parted, texts}
use Rattle.wire_text.specs.Head.{head_of_parts, session_head}
use Rattle.wire_text.proofs.Separators.{split_upto, free_upto}

parted_line : (line more : List ℕ) → IsFree 0x20 line → parted (line ++ 0x20 ∷ more) ≡ line ∷ parted more
parted_line [] more free = refl
parted_line (b ∷ line) more free = rw free.0 (ap (onto_first b) (parted_line line more free.1))

pub parted_whole : (text : List ℕ) → IsFree 0x20 text → parted text ≡ text ∷ []
parted_whole [] free = refl
parted_whole (b ∷ text) free = rw free.0 (ap (onto_first b) (parted_whole text free.1))

pub parted_cut : (text part behind : List ℕ) → part ≡ upto 0x20 text → behind ≡ past 0x20 text → is_in 0x20 text ≡ true → parted text ≡ part ∷ parted behind
parted_cut text part behind e f is =
    ap parted (split_upto 0x20 text is) ∙ (parted_line (upto 0x20 text) (past 0x20 text) (free_upto 0x20 text)
    ∙ (ap (λ (x : List ℕ). x ∷ parted (past 0x20 text)) (sym e) ∙ ap (λ (x : List ℕ). part ∷ parted x) (sym f)))

pub few_parts : (parts : List (List ℕ)) → length parts < 4 → None ≡ head_of_parts parts
few_parts [] h = refl
few_parts (a ∷ []) h = refl
few_parts (a ∷ b ∷ []) h = refl
few_parts (a ∷ b ∷ c ∷ []) h = refl
few_parts (a ∷ b ∷ c ∷ d ∷ parts) h = absurd (omega arith)

pub count_is : (slices : List (Bor (List ℕ))) (items : List (Bor (List ℕ))) (words : List (List ℕ)) → slices ≡ items → texts items ≡ words → length words ≡ length slices
count_is slices items words e f = ap length (sym f) ∙ (length-map items (λ (slice : Bor (List ℕ)). slice.now) ∙ ap length (sym e))

pub session_more : (user client host : List ℕ) (more : List (Bor (List ℕ))) → 1 ≤ length more → None ≡ session_head user client host (texts more)
session_more user client host [] h = absurd (omega arith)
session_more user client host (a ∷ more) h = refl
