use Rattle.std.proofs.Common.{◌≡◌, ◌++◌, subst, sym}
use Rattle.std.specs.Prelude.{OnOk}
use Rattle.db_records.specs.declared.record.Record.{Record}
use Rattle.record_text.specs.Layout.{parts_of}
use Rattle.record_text.specs.Grammar.{parts_spelling}
use Rattle.record_text.proofs.printing.put_record.Goals as goal

pub returns-in-Counter : goal.returns-in-Counter
returns-in-Counter c = subst (λ (r : Record). OnOk c.put_row.result (c.put_row.new.out.items ≡ c.args.out.now.items ++ parts_spelling (parts_of r))) (sym c.in-Counter.is) c.put_row.ensures

pub returns-in-Group : goal.returns-in-Group
returns-in-Group c = subst (λ (r : Record). OnOk c.put_row-in-Group.result (c.put_row-in-Group.new.out.items ≡ c.args.out.now.items ++ parts_spelling (parts_of r))) (sym c.in-Group.is) c.put_row-in-Group.ensures

pub returns-in-Protect : goal.returns-in-Protect
returns-in-Protect c = subst (λ (r : Record). OnOk c.put_row-in-Protect.result (c.put_row-in-Protect.new.out.items ≡ c.args.out.now.items ++ parts_spelling (parts_of r))) (sym c.in-Protect.is) c.put_row-in-Protect.ensures

pub returns-in-Domain : goal.returns-in-Domain
returns-in-Domain c = subst (λ (r : Record). OnOk c.put_row-in-Domain.result (c.put_row-in-Domain.new.out.items ≡ c.args.out.now.items ++ parts_spelling (parts_of r))) (sym c.in-Domain.is) c.put_row-in-Domain.ensures

pub returns-in-Have : goal.returns-in-Have
returns-in-Have c = subst (λ (r : Record). OnOk c.put_row-in-Have.result (c.put_row-in-Have.new.out.items ≡ c.args.out.now.items ++ parts_spelling (parts_of r))) (sym c.in-Have.is) c.put_row-in-Have.ensures

pub returns-in-Label : goal.returns-in-Label
returns-in-Label c = subst (λ (r : Record). OnOk c.put_row-in-Label.result (c.put_row-in-Label.new.out.items ≡ c.args.out.now.items ++ parts_spelling (parts_of r))) (sym c.in-Label.is) c.put_row-in-Label.ensures

pub returns-in-Integed : goal.returns-in-Integed
returns-in-Integed c = subst (λ (r : Record). OnOk c.put_row-in-Integed.result (c.put_row-in-Integed.new.out.items ≡ c.args.out.now.items ++ parts_spelling (parts_of r))) (sym c.in-Integed.is) c.put_row-in-Integed.ensures

pub returns-in-Resolve : goal.returns-in-Resolve
returns-in-Resolve c = subst (λ (r : Record). OnOk c.put_row-in-Resolve.result (c.put_row-in-Resolve.new.out.items ≡ c.args.out.now.items ++ parts_spelling (parts_of r))) (sym c.in-Resolve.is) c.put_row-in-Resolve.ensures

pub returns-in-Change : goal.returns-in-Change
returns-in-Change c = subst (λ (r : Record). OnOk c.put_row-in-Change.result (c.put_row-in-Change.new.out.items ≡ c.args.out.now.items ++ parts_spelling (parts_of r))) (sym c.in-Change.is) c.put_row-in-Change.ensures
