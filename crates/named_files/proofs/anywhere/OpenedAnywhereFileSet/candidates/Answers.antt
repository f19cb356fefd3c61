use Rattle.std.proofs.Common.{ℕ, List, true, ap, subst, sym, ◌∙◌}
use Rattle.std.specs.Prelude.{◌&&◌, filter}
use Rattle.depot_rows.specs.depot_model.Arguments.{is_in, names}
use Rattle.named_files.specs.Anywhere.{opened_anywhere}
use Rattle.named_files.specs.Beginnings.{AreApart, has_one}
use Rattle.named_files.proofs.LookedUp.{kept_same}
use Rattle.named_files.proofs.OpenedFiles.{anywhere_rises}
use Rattle.named_files.proofs.Naming.{placed_if_named}
use Rattle.named_files.proofs.Sifting.{sifted}
use Rattle.named_files.proofs.anywhere.OpenedAnywhereFileSet.candidates.Goals as goal

pub returns-then-not-has_wildcard : goal.returns-then-not-has_wildcard
returns-then-not-has_wildcard c = λ d reads.
    let own = c.args.self.now in
    let caller = own.caller.now in
    let spec = c.args.argument.now.spec in
    let found = c.in_ok-found.ensures in
    kept_same (names true d caller spec) c.in_ok-files.files c.in_ok-found.found (opened_anywhere d) found.rise (anywhere_rises d reads.sound)
    (λ file is. found.exactly file ∙ ap (λ b. is_in c.in_ok-files.files file && b) (c.rows_tell_opened.ensures d file is reads.listed))
    (λ file is e. c.in_ok-files.ensures file is (placed_if_named d caller own.asker.now reads.asked spec file e))

pub returns : goal.returns
returns c = λ d reads.
    let own = c.args.self.now in
    let caller = own.caller.now in
    let spec = c.args.argument.now.spec in
    let found = c.in_ok-beginnings.ensures in
    let slice = c.as_slice.ensures in
    sifted (has_one c.in_ok-beginnings.beginnings) (names true d caller spec) (λ path e. found.every path (placed_if_named d caller own.asker.now reads.asked spec path e))
    c.in_ok-paths.paths (opened_anywhere d)
    (c.in_ok-paths.ensures d reads.sound reads.listed (subst AreApart (sym slice) found.apart) ∙ ap (λ (texts : List (List ℕ)). filter (has_one texts) (opened_anywhere d)) slice)
