use Rattle.std.proofs.Common.{ℕ, List, refl, sym, ap, subst, ◌∙◌, rules}
use Rattle.depot_rows.specs.depot_model.Arguments.{is_in}
use Rattle.depot_rows.specs.table_changes.Changed.{rows_of}
use Rattle.depot_rows.specs.Rising.{Rise}
use Rattle.named_files.proofs.LookedUp.{known, looked_on, none_left, rises_on}
use Rattle.named_files.proofs.looked_up.listed_among.Goals as goal

pub loop-file-init : goal.loop-file-init
loop-file-init g c =
    let has = g.L.FileList.lists c.args.list.now (rows_of c.args.tables.now) in
    record {
      rise = subst Rise (sym c.new-found.ensures) tt;
      all_known = λ q. λ i. known has (c.new-found.ensures i) (c.into_vec-rest.ensures i) q;
    }

pub loop-file-preserved : goal.loop-file-preserved
loop-file-preserved g c =
    let at = c.loop-file in
    let has = g.L.FileList.lists c.args.list.now (rows_of c.args.tables.now) in
    let file : List ℕ = c.in-Some.file in
    let added = c.in_ok-add_listed.ensures in
    record {
      rise = rises_on (has file) file at.found _ added.path at.invariant.rise added.found;
      all_known = λ q. looked_on has (has file) file c.pop.new.self.items at.rest.items at.found _ refl c.in-Some.ensures.items added.found q ∙ at.invariant.all_known q;
    }

pub returns-clause-rise : goal.returns-clause-rise
returns-clause-rise g c = subst Rise (sym c.in_ok-paths.ensures) c.loop-file.invariant.rise

pub returns-clause-exactly : goal.returns-clause-exactly
returns-clause-exactly g c = λ q.
    let has = g.L.FileList.lists c.args.list.now (rows_of c.args.tables.now) in
    ap (λ (fs : List (List ℕ)). is_in fs q) c.in_ok-paths.ensures
    ∙ none_left has c.loop-file.found c.loop-file.rest.items c.args.files q (search rules) (c.loop-file.invariant.all_known q)
