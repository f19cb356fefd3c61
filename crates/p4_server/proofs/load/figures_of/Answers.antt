use Rattle.std.proofs.Common.{◌≡◌, ℕ, rules}
use Rattle.depot_rows.specs.db_records.declared.table.TableId.TheVariants.{Counter, Change, Rev}
use Rattle.load_script.specs.declared.lines.LoadFigures.{LoadFigures}
use Rattle.p4_server.proofs.load.figures_of.Goals as goal

abbrev figures : ℕ → ℕ → ℕ → ℕ → LoadFigures
figures commands changes files bytes = record { commands = commands; changes = changes; files = files; bytes = bytes }

pub returns : goal.returns
returns c = λ d stand.
    let commands : c.from-commands.result ≡ c.args.commands = search rules in
    let changes = c.in_ok-changes.ensures d stand.sound (stand.each Counter) (stand.each Change) in
    let files = c.in_ok-files.ensures.live d stand.sound (stand.each Rev) in
    let bytes = c.in_ok-files.ensures.bytes d stand.sound (stand.each Rev) in
    λ k. figures (commands k) (changes k) (files k) (bytes k)
