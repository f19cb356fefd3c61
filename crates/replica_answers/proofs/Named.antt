-- What a row of a reply shows, by its first fields; and a reply without contents.
use Rattle.std.proofs.Common.{◌≡◌, ◌≤◌, ℕ, List, [], ◌∷◌, length, map, get_or, false, Result, Ok, Err, sym, ◌∙◌, arith}
use Rattle.std.specs.Prelude.{IfOk, codes, decimal}
use Rattle.command_core.specs.Outcomes.{IsFormedBy}
use Rattle.depot_rows.specs.depot_model.Deeds.{Deed}
use Rattle.depot_rows.specs.depot_model.Rows.{number_field, text_field}
use Rattle.depot_rows.specs.depot_model.declared.reply.Field.{Field}
use Rattle.depot_rows.specs.depot_model.declared.reply.Reply.{Reply}
use Rattle.depot_rows.specs.depot_model.declared.reply.Row.{Row}
use Rattle.depot_rows.specs.depot_model.declared.request.Request.{Request}
use Rattle.depot_rows.specs.Standing.{Stand}
use Rattle.depot_rows.specs.table_changes.Changed.{AllRows}
use Rattle.depot_runs.specs.Replica.{replica_reply}
use Rattle.reply_rows.specs.Made.{waiting}
use Rattle.reply_rows.proofs.Bare.{rows_wait}
use Rattle.replica_replies.specs.Prints.{Shows, prints}
use Rattle.replica_replies.proofs.Bare.{reply_bare}

pub shows_so : (row : Row) (fields : List Field) (file rev : Field) (number : ℕ) → fields ≡ row.fields → 2 ≤ length fields → file ≡ get_or fields 0 file → rev ≡ get_or fields 1 rev
    → file.name ≡ codes "depotFile" → rev.name ≡ codes "rev" → rev.value ≡ decimal number → Shows row file.value number
shows_so row [] file rev number same some first second name rev_name value = absurd (omega (arith, some))
shows_so row (x ∷ []) file rev number same some first second name rev_name value = absurd (omega (arith, some))
shows_so row (x ∷ y ∷ more) file rev number same some first second name rev_name value =
    let one : x ≡ text_field (codes "depotFile") file.value = sym first ∙ (λ i. record { name = name i; value = file.value }) in
    let two : y ≡ number_field (codes "rev") number = sym second ∙ (λ i. record { name = rev_name i; value = value i }) in
    record { more = more; fields = sym same ∙ (λ i. one i ∷ two i ∷ more) }

pub bare_so : {E : Type 0} (all : AllRows) (request : Request) → prints request.command ≡ false → (result : Result Reply E)
    → IfOk result (λ reply. (d : List Deed) → Stand all d → IsFormedBy request → reply.rows ≡ map waiting (replica_reply d request))
    → IfOk result (λ reply. (d : List Deed) → Stand all d → IsFormedBy request → reply.rows ≡ replica_reply d request)
bare_so all request other (Ok reply) is = λ d stand formed. is d stand formed ∙ rows_wait (replica_reply d request) (reply_bare d request other)
bare_so all request other (Err error) is = is
