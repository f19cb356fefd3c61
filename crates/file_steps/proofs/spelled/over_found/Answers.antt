use Rattle.std.proofs.Common.{◌≡◌, List, ℕ, [], ◌∷◌, ◌++◌, ◌-◌, length, take, drop, refl, ap, ◌∙◌}
use Rattle.depot_rows.specs.table_changes.Changed.{rows_of}
use Rattle.depot_rows.specs.depot_model.Arguments.{is_in}
use Rattle.depot_rows.specs.depot_model.Step.{both, nothing, tells}
use Rattle.depot_rows.specs.depot_model.declared.command.FileArgument.{FileArgument}
use Rattle.file_steps.proofs.Going.{goes_from, parted}
use Rattle.file_steps.proofs.Spelling.{alike_on, argument_on, done_after, first_spells, later_spell}
use Rattle.file_steps.proofs.spelled.over_found.Goals as goal

pub loop-rest-init : goal.loop-rest-init
loop-rest-init g c = λ d spell reads may. (
  nothing,
  [],
  goes_from (g.A.FileAct.is_later c.args.act.now d) (rows_of c.args.tables.now) d d c.new-step.result c.new-step.ensures (g.met.A.FileAct.first c.args.act.now d),
  (λ path. ap (λ (x : List (List ℕ)). is_in x path) c.new-taken.ensures),
  spell,
  refl,
)

pub loop-rest-preserved : goal.loop-rest-preserved
loop-rest-preserved g c = λ d spell reads may.
    let at = c.loop-rest in
    let now = at.invariant d spell reads may in
    let m = now.0 in
    let earlier = now.1 in
    let goes = now.2 in
    let alike = now.3 in
    let spell_now = now.4 in
    let rest = at.rest.now in
    let later = take (length rest - 1) (drop 1 rest) in
    let argument = c.argument-item.result in
    let found = g.F.FileFinder.found c.args.finder.now d in
    let missing = λ (a : FileArgument). tells (g.F.FileFinder.rows_without c.args.finder.now a) in
    let act = g.A.FileAct.acts c.args.act.now d in
    let are : argument ∷ later ≡ rest = parted rest argument c.in-len1-up.len_at_least c.argument-item.is in
    let spells = first_spells argument later rest are spell_now in (
      both m (done_after found missing act at.taken argument),
      earlier ++ found argument,
      c.in_ok-add_argument.ensures.goes d m spells reads may goes,
      alike_on at.taken c.add_argument.new.taken earlier (found argument) (c.in_ok-add_argument.ensures.taken d spells reads) alike,
      later_spell argument later rest are spell_now,
      argument_on found missing act m at.taken earlier argument later rest are alike ∙ now.5,
    )
