use Rattle.std.proofs.Common.{List, ℕ, ◌++◌, ◌∷◌, [], take, drop, sym, ap, ◌∙◌}
use Rattle.record_text.specs.Reading.{Done}
use Rattle.record_text.specs.Spelling.{sign, Within}
use Rattle.record_text.proofs.Inner.{go, two_signs, text_ends, text_stops, text_cut}
use Rattle.record_text.proofs.text.inner_of.Goals as goal

pub returns-in_default : goal.returns-in_default
returns-in_default c =
    let after_is = c.split_at.ensures.back ∙ ap (λ (n : ℕ). drop n c.loop-rest.rest.now) c.plain_length.ensures.value in
    sym c.loop-rest.invariant ∙ text_cut c.args.ender c.loop-rest.kept c.loop-rest.rest.now c.split_at.result.1.now after_is c.in_default.ensures

pub returns-then-byte-ender : goal.returns-then-byte-ender
returns-then-byte-ender c =
    let kept_is = c.in_ok-append.ensures.ok ∙ ap (λ (t : List ℕ). c.loop-rest.kept ++ t) (c.split_at.ensures.front ∙ ap (λ (n : ℕ). take n c.loop-rest.rest.now) c.plain_length.ensures.value) in
    let after_is = c.split_at.ensures.back ∙ ap (λ (n : ℕ). drop n c.loop-rest.rest.now) c.plain_length.ensures.value in
    sym c.loop-rest.invariant
    ∙ text_ends c.args.ender c.loop-rest.kept c.loop-rest.rest.now c.split_at.result.1.now c.in-Some.behind.now c.in-Some.byte after_is c.in-Some.ensures c.if-byte-ne64.true c.if-byte-ender.true
    ∙ ap (λ (t : List ℕ). Done t c.in-Some.behind.now) (sym kept_is)

pub returns-then-byte-ne64 : goal.returns-then-byte-ne64
returns-then-byte-ne64 c =
    let after_is = c.split_at.ensures.back ∙ ap (λ (n : ℕ). drop n c.loop-rest.rest.now) c.plain_length.ensures.value in
    sym c.loop-rest.invariant
    ∙ text_stops c.args.ender c.loop-rest.kept c.loop-rest.rest.now c.split_at.result.1.now c.in-Some.behind.now c.in-Some.byte after_is c.in-Some.ensures c.if-byte-ne64.true c.if-byte-ender.false

pub loop-rest-preserved : goal.loop-rest-preserved
loop-rest-preserved c =
    let kept_is = c.in_ok-append.ensures.ok ∙ ap (λ (t : List ℕ). c.loop-rest.kept ++ t) (c.split_at.ensures.front ∙ ap (λ (n : ℕ). take n c.loop-rest.rest.now) c.plain_length.ensures.value) in
    let after_is = c.split_at.ensures.back ∙ ap (λ (n : ℕ). drop n c.loop-rest.rest.now) c.plain_length.ensures.value in
    let new_is = c.in_ok-append-2.ensures.ok ∙ ap (λ (t : List ℕ). t ++ sign ∷ []) kept_is in
    ap (λ (t : List ℕ). go c.args.ender (Within t) c.in-Some.behind.now) new_is
    ∙ sym (two_signs c.args.ender c.loop-rest.kept c.loop-rest.rest.now c.split_at.result.1.now c.in-Some.behind.now c.in-Some.byte after_is c.in-Some.ensures c.if-byte-ne64.false)
    ∙ c.loop-rest.invariant
