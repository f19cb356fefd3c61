use Rattle.std.proofs.Common.{◌≡◌, ℕ, false, List, [], ◌∷◌, refl}
use Rattle.depot_path.specs.Bytes.{is_among}
use Rattle.spec_form.specs.Texts.{text_lines}
use Rattle.spec_form.proofs.Cutting.{lines_cut, lines_whole, behind_shorter}
use Rattle.spec_form.proofs.cut.first_line.Goals as goal

whole : (text : List ℕ) → (text ≡ [] → ⊥) → is_among text 0x0A ≡ false → text_lines text ≡ text ∷ []
whole [] some none = absurd (some refl)
whole (b ∷ text) some none = lines_whole b text none

pub returns-in-Some-clause-lines : goal.returns-in-Some-clause-lines
returns-in-Some-clause-lines c =
    rw (c.in-Some.ensures.found.1, c.in-Some.ensures.found.2) (lines_cut c.args.text.now c.in-Some.ensures.found.0)

pub returns-in-Some-clause-shorter : goal.returns-in-Some-clause-shorter
returns-in-Some-clause-shorter c = rw c.in-Some.ensures.found.2 (behind_shorter 0x0A c.args.text.now c.in-Some.ensures.found.0)

pub returns-in-None-clause-lines : goal.returns-in-None-clause-lines
returns-in-None-clause-lines c = whole c.args.text.now c.requires c.in-None.ensures.absent
