use Rattle.std.proofs.Common.{◌≡◌, ℕ, List, None, refl, sym, ap, ◌∙◌}
use Rattle.std.specs.Prelude.{option_and_then}
use Rattle.std.specs.Option.{option_copied, option_or}
use Rattle.depot_rows.specs.table_changes.Changed.{rows_of}
use Rattle.depot_rows.specs.depot_model.Steps.Submitting.{block_of, source_content}
use Rattle.depot_rows.specs.Deed.{opening_of}
use Rattle.file_contents.specs.declared.content.Found.TheVariants.{Block}
use Rattle.file_contents.proofs.Finding.{is_first, is_other}
use Rattle.file_contents.proofs.content.moved_content.Goals as goal

pub returns-in-Some : goal.returns-in-Some
returns-in-Some c = λ d request sound has asked are client.
    let o = opening_of c.args.opening.now in
    let all = rows_of c.args.tables.now in
    let own = ap option_copied (sym c.in-Some.is) ∙ c.in_ok-own.ensures d request asked are ∙ ap (λ (k : List ℕ). block_of d request k o.path) (sym client) in
    is_first all d (Block c.in-Some.block) c.in-Some.block.now (block_of d request o.client o.path) (option_or (option_and_then (block_of d request o.client) o.moved) (source_content d o)) own refl

pub returns-in-Some-other : goal.returns-in-Some-other
returns-in-Some-other c = λ d request sound has asked are client.
    let o = opening_of c.args.opening.now in
    let all = rows_of c.args.tables.now in
    let none : None ≡ c.in_ok-own.own = cc in
    let own = ap option_copied none ∙ c.in_ok-own.ensures d request asked are ∙ ap (λ (k : List ℕ). block_of d request k o.path) (sym client) in
    let other = ap option_copied (sym c.in-Some-other.is) ∙ c.in_ok-other.ensures d request asked are ∙ ap (λ (k : List ℕ). option_and_then (block_of d request k) o.moved) (sym client) in
    is_other all d (Block c.in-Some-other.block) (block_of d request o.client o.path) (option_or (option_and_then (block_of d request o.client) o.moved) (source_content d o)) own
    (is_first all d (Block c.in-Some-other.block) c.in-Some-other.block.now (option_and_then (block_of d request o.client) o.moved) (source_content d o) other refl)

pub returns : goal.returns
returns c = λ d request sound has asked are client.
    let o = opening_of c.args.opening.now in
    let all = rows_of c.args.tables.now in
    let none : None ≡ c.in_ok-own.own = cc in
    let own = ap option_copied none ∙ c.in_ok-own.ensures d request asked are ∙ ap (λ (k : List ℕ). block_of d request k o.path) (sym client) in
    let none_too : None ≡ c.in_ok-other.other = cc in
    let other = ap option_copied none_too ∙ c.in_ok-other.ensures d request asked are ∙ ap (λ (k : List ℕ). option_and_then (block_of d request k) o.moved) (sym client) in
    is_other all d c.in_ok-found.found (block_of d request o.client o.path) (option_or (option_and_then (block_of d request o.client) o.moved) (source_content d o)) own
    (is_other all d c.in_ok-found.found (option_and_then (block_of d request o.client) o.moved) (source_content d o) other (c.in_ok-found.ensures d sound has))
