use Rattle.std.proofs.Common.{ℕ, List, ap, sym, ◌∙◌, arith}
use Rattle.depot_rows.specs.depot_model.Steps.Changing.{path_before_tab}
use Rattle.opening_reads.specs.Read.{path_in_text}
use Rattle.change_lists.proofs.Saved.{bad_here, good_on, read_on}
use Rattle.change_lists.proofs.lines.push_paths.Goals as goal

pub returns-in-None-clause-bad : goal.returns-in-None-clause-bad
returns-in-None-clause-bad c =
    bad_here c.loop-rest.index c.loop-rest.rest.now c.line-item.result c.in-len1-up.len_at_least c.line-item.is
    (sym c.in-None.is ∙ c.in_ok-path.ensures ∙ ap (λ (t : List ℕ). path_in_text (path_before_tab t)) c.as_bytes.ensures)
    ∙ c.loop-rest.invariant.bad

pub loop-rest-preserved : goal.loop-rest-preserved
loop-rest-preserved c =
    let found = sym c.in-Some.is ∙ c.in_ok-path.ensures ∙ ap (λ (t : List ℕ). path_in_text (path_before_tab t)) c.as_bytes.ensures in
    record {
      bad = good_on c.loop-rest.index c.loop-rest.rest.now c.line-item.result c.in-Some.path c.in-len1-up.len_at_least c.line-item.is found ∙ c.loop-rest.invariant.bad;
      read =
          read_on c.loop-rest.paths c.push.new.self c.loop-rest.rest.now c.line-item.result c.in-Some.path c.in-len1-up.len_at_least c.line-item.is found c.in_ok-push-in-Some.ensures.ok
          ∙ c.loop-rest.invariant.read;
      counted = grind arith;
    }
