use Rattle.std.proofs.Common.{rules, ◌≡◌, ℕ, List, [], ◌∷◌, ◌++◌, ◌+◌, Ok, Err, Result, drop, get_or, arith, sym, subst}
use Rattle.std.proofs.lemmas.Grind.{common_steps}
use Rattle.depot_path.specs.Answers.{Answers}
use Rattle.depot_path.proofs.Answers.{right}
use Rattle.depot_model.specs.declared.request.WordFault.{WordFault}
use Rattle.depot_model.specs.declared.request.WordFault.TheVariants.{Memory}
use Rattle.depot_model.specs.declared.command.FileArgument.{FileArgument}
use Rattle.command_words.specs.Arguments as spec
use Rattle.command_words.proofs.Each.{behind, nothing_before, nothing_behind, each_goes, each_fails, holds_on_ok}
use Rattle.command_words.proofs.arguments.files.Goals as goal

pub loop-word-init : goal.loop-word-init
loop-word-init c answer h =
    let P : Result (List FileArgument) WordFault → Type 0 = λ r. Answers Memory answer r in
    let Q : List FileArgument → Type 0 = λ done. Answers Memory answer (behind done (spec.files c.args.command.now c.args.takes c.args.words.now)) in
    subst P (sym (nothing_before (spec.files c.args.command.now c.args.takes c.args.words.now))) (subst Q c.new-files.ensures h)

pub returns-in_err-argument : goal.returns-in_err-argument
returns-in_err-argument c =
    let e : c.from_residual.result ≡ Err c.in_err-argument.field-0.0 = search rules in
    let P : Result (List FileArgument) WordFault → Type 0 = λ r. Answers Memory r (spec.files c.args.command.now c.args.takes c.args.words.now) in
    let W : List ℕ → Type 0 = λ w. w ≡ get_or c.args.words.now c.loop-word.word-index w in
    subst P (sym e) (c.loop-word.invariant (Err c.in_err-argument.field-0.0)
    (each_fails (spec.file c.args.command.now c.args.takes) c.loop-word.files c.args.words.now c.loop-word.word-index c.as_bytes.result.now c.in_err-argument.field-0.0 (omega arith) (subst W (sym c.as_bytes.ensures) c.word-item.is) c.in_err-argument.ensures))

pub loop-word-preserved : goal.loop-word-preserved
loop-word-preserved c answer h =
    let e : c.push.new.self ≡ c.loop-word.files ++ c.in_ok-argument.argument ∷ [] = holds_on_ok c.push.result _ c.push.ensures.ok c.if-is_err.ensures.negation in
    let P : List FileArgument → Type 0 = λ done. Answers Memory answer (behind done (spec.files c.args.command.now c.args.takes (drop (c.loop-word.word-index + 1) c.args.words.now))) in
    let W : List ℕ → Type 0 = λ w. w ≡ get_or c.args.words.now c.loop-word.word-index w in
    c.loop-word.invariant answer
    (each_goes (spec.file c.args.command.now c.args.takes) c.loop-word.files c.args.words.now c.loop-word.word-index c.as_bytes.result.now c.in_ok-argument.argument answer (omega arith) (subst W (sym c.as_bytes.ensures) c.word-item.is) c.in_ok-argument.ensures (subst P e h))

pub returns : goal.returns
returns c =
    let e : drop c.loop-word.word-index c.args.words.now ≡ [] = first_of (search rules, grind (arith, common_steps)) in
    let P : List (List ℕ) → Type 0 = λ words. Answers Memory (Ok c.loop-word.files) (behind c.loop-word.files (spec.files c.args.command.now c.args.takes words)) in
    c.loop-word.invariant (Ok c.loop-word.files) (subst P (sym e) (right Memory _ _ (nothing_behind c.loop-word.files)))
