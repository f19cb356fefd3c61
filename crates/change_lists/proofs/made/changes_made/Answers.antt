use Rattle.std.proofs.Common.{◌≡◌, ℕ, List, [], ◌∷◌, ◌++◌, ◌-◌, length, take, drop, refl, ap, ◌∙◌}
use Rattle.std.specs.Prelude.{false}
use Rattle.opening_reads.proofs.Onwards.{given_on}
use Rattle.depot_rows.specs.depot_model.Arguments.{is_in, named, submitted}
use Rattle.depot_rows.specs.depot_model.Steps.Changes.{made_over, missing}
use Rattle.file_steps.proofs.Going.{parted}
use Rattle.file_steps.proofs.Spelling.{alike_on}
use Rattle.change_lists.proofs.ListedRows.{argument_gives}
use Rattle.change_lists.proofs.made.changes_made.Goals as goal

pub loop-rest-init : goal.loop-rest-init
loop-rest-init c = record {
  told = λ d reads. refl;
  given = λ d reads. (
    [],
    (λ path. ap (λ (x : List (List ℕ)). is_in x path) c.new-taken.ensures),
    (ap (λ (l : List ℕ). l ++ made_over d c.args.caller.now [] c.args.arguments.now) c.new-made.ensures.items),
  );
}

pub loop-rest-preserved : goal.loop-rest-preserved
loop-rest-preserved c =
    let at = c.loop-rest in
    let rest = at.rest.now in
    let later = take (length rest - 1) (drop 1 rest) in
    let argument = c.argument-item.result in
    let caller = c.args.caller.now in
    let parts : argument ∷ later ≡ rest = parted rest argument c.in-len1-up.len_at_least c.argument-item.is in
    record {
      told = λ d reads.
          given_on (missing d caller) at.rows c.push_argument.new.rows rest argument c.in-len1-up.len_at_least c.argument-item.is (c.in_ok-push_argument.ensures.rows d reads)
          ∙ at.invariant.told d reads;
      given = λ d reads.
          let now = at.invariant.given d reads in
          let files = named false d caller (submitted d) argument in (
            now.0 ++ files,
            alike_on at.taken c.push_argument.new.taken now.0 files (c.in_ok-push_argument.ensures.taken d reads) now.1,
            argument_gives d caller at.made.items c.push_argument.new.made.items at.taken now.0 argument later rest parts now.1 (c.in_ok-push_argument.ensures.made d reads)
                ∙ now.2,
          );
    }
