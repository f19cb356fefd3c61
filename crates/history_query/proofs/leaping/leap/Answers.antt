use Rattle.std.proofs.Common.{ℕ, List, [], ◌∷◌, ◌++◌, sym, ap, ◌∙◌, append-nil, take}
use Rattle.depot_rows.specs.depot_path.Path.{printed}
use Rattle.named_files.proofs.Walking.{text_cmp}
use Rattle.history_query.specs.Leaping.{directory_at}
use Rattle.history_query.proofs.Leaps.{goes_later, goes_past, next_at, texts_told}
use Rattle.history_query.proofs.leaping.leap.Goals as goal

pub returns-in_default-clause-later : goal.returns-in_default-clause-later
returns-in_default-clause-later c = ap (text_cmp (printed c.args.path.now)) c.in_ok-from.ensures ∙ goes_past c.args.path.now

pub returns-then-not-fitting-clause-later : goal.returns-then-not-fitting-clause-later
returns-then-not-fitting-clause-later c =
    ap (text_cmp (printed c.args.path.now)) c.in_ok-from-2.ensures
    ∙ goes_later c.args.depth c.args.path.now (take c.in-Some.end c.as_bytes-bytes.result.now)
    (ap (directory_at c.args.depth) (sym c.as_bytes-bytes.ensures.value) ∙ sym c.in-Some.ensures.front)

pub returns-then-not-visible-clause-later : goal.returns-then-not-visible-clause-later
returns-then-not-visible-clause-later c = ap (text_cmp (printed c.args.path.now)) c.in_ok-from-3.ensures ∙ goes_past c.args.path.now

pub returns-then-not-visible-clause-from : goal.returns-then-not-visible-clause-from
returns-then-not-visible-clause-from c = λ d caller sound asked has.
    let directory = take c.in-Some.end c.as_bytes-bytes.result.now in
    c.in_ok-from-3.ensures
    ∙ sym (next_at c.args.pattern.now c.args.depth c.args.path.now directory (ap (directory_at c.args.depth) (sym c.as_bytes-bytes.ensures.value) ∙ sym c.in-Some.ensures.front) _ _ _
    (sym c.in_ok-fitting.ensures ∙ c.if-not-fitting.false) (sym (c.in_ok-visible.ensures d caller sound asked has) ∙ c.if-not-visible.true))

pub returns-then-not-visible-clause-found : goal.returns-then-not-visible-clause-found
returns-then-not-visible-clause-found c = λ d caller sound asked has.
    let directory = take c.in-Some.end c.as_bytes-bytes.result.now in
    let old : List (List ℕ) = c.args.found.now in
    sym (append-nil old)
    ∙ ap (λ (l : List (List ℕ)). old ++ l)
    (sym (texts_told c.args.pattern.now c.args.depth c.args.path.now directory (ap (directory_at c.args.depth) (sym c.as_bytes-bytes.ensures.value) ∙ sym c.in-Some.ensures.front) _ _ _
    (sym c.in_ok-fitting.ensures ∙ c.if-not-fitting.false) (sym (c.in_ok-visible.ensures d caller sound asked has) ∙ c.if-not-visible.true)))

pub returns-clause-later : goal.returns-clause-later
returns-clause-later c =
    ap (text_cmp (printed c.args.path.now)) c.in_ok-from-4.ensures
    ∙ goes_later c.args.depth c.args.path.now (take c.in-Some.end c.as_bytes-bytes.result.now)
    (ap (directory_at c.args.depth) (sym c.as_bytes-bytes.ensures.value) ∙ sym c.in-Some.ensures.front)

pub returns-clause-from : goal.returns-clause-from
returns-clause-from c = λ d caller sound asked has.
    let directory = take c.in-Some.end c.as_bytes-bytes.result.now in
    c.in_ok-from-4.ensures
    ∙ sym (next_at c.args.pattern.now c.args.depth c.args.path.now directory (ap (directory_at c.args.depth) (sym c.as_bytes-bytes.ensures.value) ∙ sym c.in-Some.ensures.front) _ _ _
    (sym c.in_ok-fitting.ensures ∙ c.if-not-fitting.false) (sym (c.in_ok-visible.ensures d caller sound asked has) ∙ c.if-not-visible.false))

pub returns-clause-found : goal.returns-clause-found
returns-clause-found c = λ d caller sound asked has.
    let directory = take c.in-Some.end c.as_bytes-bytes.result.now in
    let old : List (List ℕ) = c.args.found.now in
    c.in_ok-push.ensures.ok
    ∙ ap (λ (t : List ℕ). old ++ t ∷ []) c.in_ok-text.ensures
    ∙ ap (λ (l : List (List ℕ)). old ++ l)
    (sym (texts_told c.args.pattern.now c.args.depth c.args.path.now directory (ap (directory_at c.args.depth) (sym c.as_bytes-bytes.ensures.value) ∙ sym c.in-Some.ensures.front) _ _ _
    (sym c.in_ok-fitting.ensures ∙ c.if-not-fitting.false) (sym (c.in_ok-visible.ensures d caller sound asked has) ∙ c.if-not-visible.false)))
