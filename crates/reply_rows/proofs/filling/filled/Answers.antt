use Rattle.std.proofs.Common.{◌≡◌, ℕ, suc, ◌<◌, ◌-◌, List, ◌++◌, length, length-set, map, take, set, get_or, sym, ap, ◌∙◌, arith}
use Rattle.std.specs.Option.{option_to_list}
use Rattle.std.proofs.lemmas.List.{length-map, take_all}
use Rattle.depot_rows.specs.depot_model.declared.reply.Row.{Row}
use Rattle.reply_rows.specs.Made.{contents_of, waiting}
use Rattle.reply_rows.proofs.Waiting.{Next, next, partly, partly_all}
use Rattle.reply_rows.proofs.filling.filled.Goals as goal

pub loop-left-init : goal.loop-left-init
loop-left-init c = record {
  within = let long = c.len-left.ensures in omega (arith, long);
  told = λ rows is contents.
      let left = c.len-left.result in
      let items : c.into_vec-rows.result.items ≡ map waiting rows = c.into_vec-rows.ensures ∙ is in
      let same : length c.into_vec-rows.result.items ≡ length rows = ap length items ∙ length-map rows waiting in
      let long = c.len-left.ensures in (
        omega (arith, long, same),
        items ∙ sym (partly_all left rows (omega (arith, long, same))),
        c.into_vec-texts.ensures ∙ contents ∙ ap contents_of (sym (take_all left rows (omega (arith, long, same)))),
      );
}

-- one row more
step : (rows items : List Row) (texts texts' : List (List ℕ)) (left : ℕ) (old new : Row) → left < length rows → items ≡ partly (suc left) rows → texts ≡ contents_of (take (suc left) rows)
    → old ≡ get_or items left old
    → ((told : Row) (before : List (List ℕ)) → old ≡ waiting told → texts ≡ before ++ option_to_list told.content → (new ≡ told) × (texts' ≡ before))
    → (set items left new ≡ partly left rows) × (texts' ≡ contents_of (take left rows))
step rows items texts texts' left old new lt items_are texts_are old_is fills =
    let n : Next rows left = next rows left lt in
    let filled = fills n.row (contents_of (take left rows)) (old_is ∙ ap (λ (l : List Row). get_or l left old) items_are ∙ n.here old) (texts_are ∙ n.contents) in
    ((λ i. set (items_are i) left (filled.0 i)) ∙ n.put, filled.1)

pub loop-left-preserved : goal.loop-left-preserved
loop-left-preserved c =
    let left = c.loop-left.left - 1 in
    let some = c.loop-left-test.true in
    let next_is : suc left ≡ c.loop-left.left = omega (arith, some) in
    record {
      within = let within = c.loop-left.invariant.within in let long = length-set c.loop-left.rows.items left c.fill.new.row in omega (arith, within, some, long);
      told = λ rows is contents.
          let before = c.loop-left.invariant.told rows is contents in
          let le = before.0 in
          let done = step rows c.loop-left.rows.items c.loop-left.texts.items c.fill.new.contents.items left c.index_mut-row.result.now c.fill.new.row (omega (arith, le, some))
          (before.1 ∙ ap (λ (k : ℕ). partly k rows) (sym next_is)) (before.2 ∙ ap (λ (k : ℕ). contents_of (take k rows)) (sym next_is)) c.index_mut-row.ensures.value c.fill.ensures in
          (omega (arith, le), done.0, done.1);
    }

pub returns : goal.returns
returns c = λ rows is contents.
    let none = c.loop-left-test.false in
    let left_is : c.loop-left.left ≡ 0 = omega (arith, none) in
    c.from_vec.ensures ∙ (c.loop-left.invariant.told rows is contents).1 ∙ ap (λ (k : ℕ). partly k rows) left_is
