use Rattle.std.proofs.Common.{◌≡◌, List, ℕ, Some, None, sym, ap, ◌∙◌}
use Rattle.std.specs.Prelude.{if◌then◌else◌}
use Rattle.depot_rows.specs.depot_path.Path.{is_path}
use Rattle.revision_reads.proofs.Targeting.{no_target, target_is}
use Rattle.revision_reads.proofs.targets.target_at.Goals as goal

pub returns-in_ok-file-in-Some : goal.returns-in_ok-file-in-Some
returns-in_ok-file-in-Some c = λ d sound rev is.
    let own : c.in_ok-own.own ≡ c.args.text.now = c.in_ok-own.ensures ∙ c.as_bytes.ensures in
    target_is d c.args.caller.now c.args.to.now c.args.text.now c.args.view.now c.in-Some.path c.in_ok-file-in-Some.file is
    (sym c.in-Some.is ∙ c.from_text-read.ensures ∙ ap (λ (x : List ℕ). if is_path x then Some x else None) own) (c.in_ok-file-in-Some.ensures d sound rev)

pub returns-in-None : goal.returns-in-None
returns-in-None c = λ d sound rev is.
    let own : c.in_ok-own.own ≡ c.args.text.now = c.in_ok-own.ensures ∙ c.as_bytes.ensures in
    no_target d c.args.caller.now c.args.to.now c.args.text.now
    (sym c.in-None.is ∙ c.from_text-read.ensures ∙ ap (λ (x : List ℕ). if is_path x then Some x else None) own)
