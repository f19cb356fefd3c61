use Rattle.std.proofs.Common.{◌≡◌, ℕ, List, [], ◌∷◌, ◌++◌, OnOk, Result, Ok, Err, ap, ◌∙◌, append_assoc}
use Rattle.std.specs.Prelude.{codes}
use Rattle.load_script.specs.Script.{digit_of}
use Rattle.load_script.proofs.script.put_block_line.Goals as goal

so : {T E : Type 0} (r : Result T E) (text one other : List ℕ) → OnOk r (text ≡ one) → one ≡ other → OnOk r (text ≡ other)
so (Ok t) text one other is same = is ∙ same
so (Err e) text one other is same = tt

pub returns : goal.returns
returns c =
    let old = c.args.out.now in
    let before = codes "file //load/" in
    let after = codes " 8\n" in
    let file = digit_of c.args.file in
    let second : c.append-2.new.self ≡ (old ++ before) ++ file ∷ [] = c.in_ok-append-2.ensures.ok ∙ (λ k. c.in_ok-append.ensures.ok k ++ c.digit.ensures k ∷ []) in
    so c.append-3.result c.append-3.new.self (c.append-2.new.self ++ after) (old ++ (before ++ (file ∷ after))) c.append-3.ensures.ok
    (ap (λ (text : List ℕ). text ++ after) second ∙ (append_assoc (old ++ before) (file ∷ []) after ∙ append_assoc old before (file ∷ after)))
