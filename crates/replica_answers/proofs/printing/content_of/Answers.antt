use Rattle.std.proofs.Common.{◌≡◌, ℕ, List, Err, inr, rules, refl, sym, ap, subst, ◌∙◌}
use Rattle.std.specs.Prelude.{IfErr}
use Rattle.outside_api.specs.Reaching.{stays}
use Rattle.depot_rows.specs.depot_model.Records.{digest}
use Rattle.depot_rows.specs.table_changes.Changed.{rows_of}
use Rattle.replica_answers.specs.Printing.{Gives, GrowsTo, IsFaultOf, IsRowOf}
use Rattle.replica_answers.specs.declared.printing.PrintFault.TheVariants.{Memory}
use Rattle.replica_answers.proofs.Digests.{contents_more, digested, fault_is, front_same, gives_fault, memory_tells, not_behind, read_is}
use Rattle.replica_answers.proofs.printing.content_of.Goals as goal

pub returns-in_err-revision-clause-reached : goal.returns-in_err-revision-clause-reached
returns-in_err-revision-clause-reached g c = stays

pub returns-in_default-clause-reached : goal.returns-in_default-clause-reached
returns-in_default-clause-reached g c = stays

pub returns-in_err-text-clause-told : goal.returns-in_err-text-clause-told
returns-in_err-text-clause-told g c = λ d content before stand shown told has.
    let e : c.from_residual-in_err-text.result ≡ Err c.in_err-text.field-0.0 = search rules in
    let all = rows_of c.args.tables.now in
    let row_is : IsRowOf all c.args.row.now c.in-Some.revision.now = search rules in
    let Is : List ℕ → Type 0 = λ text. text ≡ content in
    let now = c.bytes_of.ensures.grows before told in
    subst (Gives Is) (sym e) (gives_fault Is c.in_err-text.field-0.0
    (λ at is.
    not_behind all d stand now.0 (contents_more before now.0 all d now.1.1 has) c.args.row.now content shown c.in-Some.revision.now row_is
    (c.in_err-text.ensures.absent now.0 at now.1.0 (ap Err is)).1)
    (λ at is. c.in_err-text.ensures.never_bad at (ap Err is)))

pub returns-in_err-text-clause-fault : goal.returns-in_err-text-clause-fault
returns-in_err-text-clause-fault g c = λ before told.
    let e : c.from_residual-in_err-text.result ≡ Err c.in_err-text.field-0.0 = search rules in
    let all = rows_of c.args.tables.now in
    let row_is : IsRowOf all c.args.row.now c.in-Some.revision.now = search rules in
    let now = c.bytes_of.ensures.grows before told in
    subst (λ r. IfErr r (λ fault. GrowsTo (g.C.Contents.tells c.bytes_of.new.contents) before (λ now. IsFaultOf all now c.args.row.now fault))) (sym e) (
      now.0,
      (
        now.1.0,
        (
          now.1.1,
          fault_is all now.0 c.args.row.now c.in_err-text.field-0.0
              (λ at is. let lack = c.in_err-text.ensures.absent now.0 at now.1.0 (ap Err is) in record { revision = c.in-Some.revision.now; is = row_is; place = lack.0; such = lack.1 })
              (λ at is. c.in_err-text.ensures.never_bad at (ap Err is)),
        ),
      ),
    )

pub returns-in_err-revision-clause-fault : goal.returns-in_err-revision-clause-fault
returns-in_err-revision-clause-fault g c = λ before told.
    let is : c.from_residual.result ≡ Err Memory = search rules in
    memory_tells (g.C.Contents.tells c.args.contents.now) (λ now. IsFaultOf (rows_of c.args.tables.now) now c.args.row.now) before before told (front_same before) tt c.from_residual.result is

pub returns-in_default-clause-fault : goal.returns-in_default-clause-fault
returns-in_default-clause-fault g c = λ before told. (before, (told, (front_same before, tt)))

pub returns-in_err-found-clause-fault : goal.returns-in_err-found-clause-fault
returns-in_err-found-clause-fault g c = λ before told.
    let now = c.bytes_of.ensures.grows before told in
    let is : c.from_residual-in_err-found.result ≡ Err Memory = search rules in
    memory_tells (g.C.Contents.tells c.bytes_of.new.contents) (λ now. IsFaultOf (rows_of c.args.tables.now) now c.args.row.now) before now.0 now.1.0 now.1.1 tt c.from_residual-in_err-found.result is

pub returns-then-ne-clause-told : goal.returns-then-ne-clause-told
returns-then-ne-clause-told g c = λ d content before stand shown told has.
    let all = rows_of c.args.tables.now in
    let revision = c.in-Some.revision.now in
    let row_is : IsRowOf all c.args.row.now revision = search rules in
    let read = c.in_ok-text.ensures.bytes before told in
    let same : c.in_ok-text.text ≡ content = read_is all d stand before has c.args.row.now content shown revision row_is read.0 c.in_ok-text.text read.1.1.0 read.1.1.1 in
    let sum : revision.digest ≡ digest content = digested all d stand before has c.args.row.now content shown revision row_is in
    let differ : c.as_bytes-2.result.now ≡ c.as_bytes-3.result.now → ⊥ = search rules in
    differ (c.as_bytes-2.ensures ∙ (c.in_ok-found.ensures ∙ (ap digest (c.as_bytes.ensures ∙ same) ∙ (sym sum ∙ sym c.as_bytes-3.ensures))))

pub returns-then-ne-clause-fault : goal.returns-then-ne-clause-fault
returns-then-ne-clause-fault g c = λ before told.
    let all = rows_of c.args.tables.now in
    let revision = c.in-Some.revision.now in
    let row_is : IsRowOf all c.args.row.now revision = search rules in
    let read = c.in_ok-text.ensures.bytes before told in
    let differ : c.as_bytes-2.result.now ≡ c.as_bytes-3.result.now → ⊥ = search rules in (
      read.0,
      (
        read.1.0,
        (
          read.1.1.0,
          record {
            revision = revision;
            is = row_is;
            place = refl;
            such = inr (λ same.
                differ (c.as_bytes-2.ensures ∙ (c.in_ok-found.ensures ∙ (ap digest c.as_bytes.ensures ∙ (sym (same ∙ ap digest read.1.1.1.is) ∙ sym c.as_bytes-3.ensures)))));
          },
        ),
      ),
    )

pub returns-clause-given : goal.returns-clause-given
returns-clause-given g c = λ before told.
    let row_is : IsRowOf (rows_of c.args.tables.now) c.args.row.now c.in-Some.revision.now = search rules in
    let read = c.in_ok-text.ensures.bytes before told in
    let same : c.as_bytes-2.result.now ≡ c.as_bytes-3.result.now = search rules in
    let sum : c.in-Some.revision.now.digest ≡ digest c.in_ok-text.text =
    sym c.as_bytes-3.ensures ∙ (sym same ∙ (c.as_bytes-2.ensures ∙ (c.in_ok-found.ensures ∙ ap digest c.as_bytes.ensures))) in
    (read.0, (read.1.0, (read.1.1.0, record { revision = c.in-Some.revision.now; is = row_is; digested = sum; there = read.1.1.1 })))

pub returns-clause-told : goal.returns-clause-told
returns-clause-told g c = λ d content before stand shown told has.
    let all = rows_of c.args.tables.now in
    let row_is : IsRowOf all c.args.row.now c.in-Some.revision.now = search rules in
    let read = c.in_ok-text.ensures.bytes before told in
    read_is all d stand before has c.args.row.now content shown c.in-Some.revision.now row_is read.0 c.in_ok-text.text read.1.1.0 read.1.1.1
