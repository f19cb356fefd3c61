use Rattle.std.proofs.Common.{Option, List, ℕ, sym, ap, ◌∙◌, subst}
use Rattle.depot_rows.specs.protect_table.Words.{words_of}
use Rattle.depot_rows.specs.db_records.declared.key.Key.TheVariants as keys
use Rattle.depot_rows.specs.db_records.declared.record.Record.{Record}
use Rattle.depot_rows.specs.depot_model.Records.{protect_record}
use Rattle.depot_rows.specs.Effects.{put_at}
use Rattle.row_changes.specs.Overlay.{seen}
use Rattle.row_changes.specs.Stored.{HasKey}
use Rattle.row_changes.proofs.Guarded.{line-keyed}
use Rattle.row_changes.proofs.overlay.Overlay.put_line.Goals as goal

pub put-requires : goal.put-requires
put-requires c = subst (λ (row : Option Record). HasKey row (keys.Protect c.args.number)) (sym (c.in_ok-row.ensures ∙ ap (λ (l : List ℕ). protect_record c.args.number (words_of l)) c.as_bytes.ensures))
    (line-keyed c.args.number (words_of c.args.line.now))

pub returns : goal.returns
returns c = λ rows q. c.in_ok-put.ensures rows q
    ∙ ap (λ (row : Option Record). put_at (keys.Protect c.args.number) row (seen c.args.self.now.touched rows) q) (c.in_ok-row.ensures ∙ ap (λ (l : List ℕ). protect_record c.args.number (words_of l)) c.as_bytes.ensures)
