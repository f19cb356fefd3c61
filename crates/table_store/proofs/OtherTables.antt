-- Rows of other tables than that of the protections have none of its lines.
use Rattle.std.proofs.Common.{◌≡◌, ◌≢◌, List, [], ◌∷◌, ◌++◌, Result, Ok, Err, IfOk, refl, sym, ap, ◌∙◌}
use Rattle.db_records.specs.Record.{table_of}
use Rattle.db_records.specs.declared.record.Record.{Record}
use Rattle.db_records.specs.declared.record.Record.TheVariants as records
use Rattle.db_records.specs.declared.table.TableId.{TableId}
use Rattle.db_records.specs.declared.table.TableId.TheVariants as table_ids
use Rattle.protect_table.specs.Line.{read_lines}
use Rattle.protect_table.specs.declared.line.ProtectLine.{ProtectLine}
use Rattle.table_store.specs.Protections.{text_in, texts_in, protects_in}
use Rattle.table_store.specs.Rows.{AllOfTable}

module _ (table : TableId) (other : table ≢ table_ids.Protect) where
  no_text : (row : Record) → table_of row ≡ table → text_in row ≡ []
  no_text (records.Counter r) e = refl
  no_text (records.Group r) e = refl
  no_text (records.Protect r) e = absurd (other (sym e))
  no_text (records.Domain r) e = refl
  no_text (records.Have r) e = refl
  no_text (records.Label r) e = refl
  no_text (records.Integed r) e = refl
  no_text (records.Resolve r) e = refl
  no_text (records.Working r) e = refl
  no_text (records.Change r) e = refl
  no_text (records.Rev r) e = refl

  no_texts : (rows : List Record) → AllOfTable table rows → texts_in rows ≡ []
  no_texts [] all = refl
  no_texts (row ∷ rows) all = ap (λ texts. texts ++ texts_in rows) (no_text row all.0) ∙ no_texts rows all.1

  pub none_told : {E : Type 0} (rows : List Record) → AllOfTable table rows → (read : Result (List ProtectLine) E) → IfOk read (λ protects. protects ≡ []) → IfOk read (λ protects. protects ≡ protects_in rows)
  none_told rows all (Ok protects) none = none ∙ sym (ap read_lines (no_texts rows all))
  none_told rows all (Err error) none = tt
