-- Two ends that were read with memory.
use Rattle.std.proofs.Common.{◌≡◌, Bool, true, false, inl, inr, sym, ap, ◌∙◌, Result, Err}
use Rattle.depot_path.specs.Answers.{Answers}
use Rattle.depot_path.specs.declared.fault.PathFault.{PathFault}
use Rattle.depot_path.specs.declared.fault.PathFault.TheVariants.{Memory}
use Rattle.depot_path.specs.declared.revision.RevSpec.{RevSpec}
use Rattle.depot_path.specs.declared.revision.Wanted.{Wanted}
use Rattle.std.proofs.Common.{ℕ, List, cond, Ok, refl}
use Rattle.std.specs.Prelude.{not}
use Rattle.std.proofs.lemmas.Bool.{and_parts}
use Rattle.depot_path.specs.Bytes.{is_among}
use Rattle.depot_path.specs.Name.{is_name, name_of}
use Rattle.depot_path.specs.declared.name.NameFault.{NameFault}
use Rattle.depot_path.specs.declared.name.NameFault.TheVariants.{NotAName}
use Rattle.depot_path.specs.Revision.{is_memory, is_plain_name, range_of}

true_false : (let b : Bool = true in b) ≡ false → ⊥
true_false e = absurd cc

settled : (a e : Result RevSpec PathFault) → Answers Memory a e → is_memory a ≡ false → a ≡ e
settled a e h f = elim h.is [ inl m ↦ absurd (true_false (sym (ap is_memory m) ∙ f)) | inr r ↦ r ]

pub both_read : (same : Bool) (a b first second : Result RevSpec PathFault) (r : Result Wanted PathFault) → Answers Memory a first → Answers Memory b second →
    is_memory a ≡ false → is_memory b ≡ false → r ≡ range_of same a b → Answers Memory r (range_of same first second)
both_read same a b first second r h k f g e = record {
  is = inr (e ∙ ap (λ x. range_of same x b) (settled a first h f) ∙ ap (λ x. range_of same first x) (settled b second k g));
}

abbrev ok_name : List ℕ → Result (List ℕ) NameFault
ok_name word = Ok word

pub plain_is_name : (word : List ℕ) → is_plain_name word ≡ true → name_of word ≡ Ok word
plain_is_name word e = named (is_name word) (and_parts (is_name word) (not (is_among word 0x2C)) e).0
  where
    named : (c : Bool) → c ≡ true → cond c (ok_name word) (Err NotAName) ≡ Ok word
    named true f = refl
    named false f = absurd cc
