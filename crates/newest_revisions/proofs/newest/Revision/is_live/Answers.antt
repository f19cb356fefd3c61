use Rattle.std.proofs.Common.{Option, Bor, sym, ap, ◌∙◌}
use Rattle.std.specs.Prelude.{option_map}
use Rattle.std.specs.Option.{option_copied}
use Rattle.depot_rows.specs.db_records.declared.record.Record.TheVariants.{Rev}
use Rattle.depot_rows.specs.db_records.declared.rows.RevRecord.{RevRecord}
use Rattle.revision_reads.specs.Probes.{is_live_row}
use Rattle.newest_revisions.proofs.NewestRead.{live_is}
use Rattle.newest_revisions.proofs.newest.Revision.is_live.Goals as goal

pub returns-in-Some : goal.returns-in-Some
returns-in-Some c = λ d path has.
    c.is_live.ensures ∙ ap (λ (row : Option (Bor RevRecord)). is_live_row (option_map (λ r. Rev r) (option_copied row))) (sym c.in-Some.is)
    ∙ live_is d path c.args.self.rev (option_copied c.args.self.row) has

pub returns-in-None : goal.returns-in-None
returns-in-None c = λ d path has.
    ap (λ (row : Option (Bor RevRecord)). is_live_row (option_map (λ r. Rev r) (option_copied row))) (sym c.in-None.is)
    ∙ live_is d path c.args.self.rev (option_copied c.args.self.row) has
