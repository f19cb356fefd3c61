use Rattle.std.proofs.Common.{◌≡◌, ℕ, List, None, refl, sym, ap, ◌∙◌}
use Rattle.std.specs.Option.{option_copied}
use Rattle.depot_rows.specs.table_changes.Changed.{rows_of}
use Rattle.depot_rows.specs.depot_model.Steps.Submitting.{block_of, content_at}
use Rattle.file_contents.specs.declared.content.Found.TheVariants.{Block}
use Rattle.file_contents.proofs.Finding.{is_first, is_other}
use Rattle.file_contents.proofs.content.block_or_base.Goals as goal

pub returns-in-Some : goal.returns-in-Some
returns-in-Some c = λ d request sound has asked are client.
    let o = c.args.opening.now in
    let own = ap option_copied (sym c.in-Some.is) ∙ c.in_ok-own.ensures d request asked are ∙ ap (λ (k : List ℕ). block_of d request k o.path) (sym client) in
    is_first (rows_of c.args.tables.now) d (Block c.in-Some.block) c.in-Some.block.now (block_of d request o.client o.path) (content_at d o.path o.base) own refl

pub returns : goal.returns
returns c = λ d request sound has asked are client.
    let o = c.args.opening.now in
    let none : None ≡ c.in_ok-own.own = cc in
    let own = ap option_copied none ∙ c.in_ok-own.ensures d request asked are ∙ ap (λ (k : List ℕ). block_of d request k o.path) (sym client) in
    is_other (rows_of c.args.tables.now) d c.in_ok-found.found (block_of d request o.client o.path) (content_at d o.path o.base) own (c.in_ok-found.ensures d sound has)
