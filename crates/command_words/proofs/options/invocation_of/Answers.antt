use Rattle.std.proofs.Common.{rules, ◌≡◌, ℕ, List, [], Ok, Err, Result, is_ok, sym, subst, ◌∷◌, ◌++◌}
use Rattle.depot_path.specs.Answers.{Answers, on_ok}
use Rattle.depot_path.proofs.Answers.{right}
use Rattle.depot_model.specs.declared.request.WordFault.{WordFault}
use Rattle.depot_model.specs.declared.request.WordFault.TheVariants.{Memory}
use Rattle.command_words.specs.Options as spec
use Rattle.command_words.specs.declared.options.Given.{Given as CodeGiven}
use Rattle.command_words.proofs.Parting.{no_option, option_fails, option_goes, pushed}
use Rattle.command_words.proofs.options.invocation_of.Goals as goal

pub returns-in_err-next : goal.returns-in_err-next
returns-in_err-next c =
    let e : on_ok spec.seen c.from_residual.result ≡ Err c.in_err-next.field-0.0 = search rules in
    let P : Result spec.Invocation WordFault → Type 0 = λ r. Answers Memory r (spec.parted c.args.command.now (spec.Ready []) c.args.words.now) in
    let Q : List CodeGiven → Type 0 = λ os. Answers Memory (Err c.in_err-next.field-0.0) (spec.next_option c.args.command.now (spec.seen_options os) c.in-Some.option.now c.in-Some.after.now) in
    subst P (sym e) (c.loop-option.invariant (Err c.in_err-next.field-0.0)
    (option_fails c.args.command.now (spec.seen_options c.loop-option.options.items) c.loop-option.arguments.now c.in-Some.option.now c.in-Some.after.now c.in_err-next.field-0.0 (sym c.in-Some.ensures)
    (subst Q c.deref.ensures.value c.in_err-next.ensures)))

pub loop-option-preserved : goal.loop-option-preserved
loop-option-preserved c answer h =
    let n : spec.Given × List (List ℕ) = (spec.seen_option c.in_ok-next.next.given, c.in_ok-next.next.rest.now) in
    let e : spec.seen_options c.push.new.self.items ≡ spec.seen_options c.loop-option.options.items ++ spec.seen_option c.in_ok-next.next.given ∷ []
    = pushed (is_ok c.push.result) c.loop-option.options.items c.push.new.self.items c.in_ok-next.next.given c.if-is_err.ensures.negation c.push.ensures.items in
    let Q : List CodeGiven → Type 0 = λ os. Answers Memory (Ok n) (spec.next_option c.args.command.now (spec.seen_options os) c.in-Some.option.now c.in-Some.after.now) in
    let P : List spec.Given → Type 0 = λ os. Answers Memory answer (spec.parted c.args.command.now (spec.Ready os) c.in_ok-next.next.rest.now) in
    c.loop-option.invariant answer
    (option_goes c.args.command.now (spec.seen_options c.loop-option.options.items) c.loop-option.arguments.now c.in-Some.option.now c.in-Some.after.now n answer (sym c.in-Some.ensures)
    (subst Q c.deref.ensures.value c.in_ok-next.ensures)
    (subst P e h))

pub returns : goal.returns
returns c = c.loop-option.invariant _ (right Memory _ _ (sym (no_option c.args.command.now (spec.seen_options c.loop-option.options.items) c.loop-option.arguments.now (sym c.in_default.ensures))))
