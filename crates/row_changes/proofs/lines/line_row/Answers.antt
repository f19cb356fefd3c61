use Rattle.std.proofs.Common.{◌≡◌, ℕ, List, length, ap, sym, ◌∙◌}
use Rattle.depot_rows.specs.protect_table.Words.{words_of}
use Rattle.row_changes.proofs.Guarded.{five-words, word-at}
use Rattle.row_changes.proofs.lines.line_row.Goals as goal

pub returns : goal.returns
returns c =
    let words : List (List ℕ) = words_of c.args.line.now in
    let same : c.as_slice-words.result.now ≡ words = c.as_slice-words.ensures ∙ c.in_ok-found.ensures in
    five-words c.args.number words c.in_ok-copy_of.field-0 c.in_ok-copy_of-2.field-0 c.in_ok-copy_of-3.field-0 c.in_ok-copy_of-4.field-0 c.in_ok-copy_of-5.field-0
    (sym (ap length same) ∙ c.if-words-ne5.false)
    (word-at c.as_slice-words.result.now words 0 c.in_ok-copy_of.field-0 c.index-words-0.result same c.in_ok-copy_of.ensures c.index-words-0.is)
    (word-at c.as_slice-words.result.now words 1 c.in_ok-copy_of-2.field-0 c.index-words-1.result same c.in_ok-copy_of-2.ensures c.index-words-1.is)
    (word-at c.as_slice-words.result.now words 2 c.in_ok-copy_of-3.field-0 c.index-words-2.result same c.in_ok-copy_of-3.ensures c.index-words-2.is)
    (word-at c.as_slice-words.result.now words 3 c.in_ok-copy_of-4.field-0 c.index-words-3.result same c.in_ok-copy_of-4.ensures c.index-words-3.is)
    (word-at c.as_slice-words.result.now words 4 c.in_ok-copy_of-5.field-0 c.index-words-4.result same c.in_ok-copy_of-5.ensures c.index-words-4.is)
