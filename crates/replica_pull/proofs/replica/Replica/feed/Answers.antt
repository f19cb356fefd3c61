use Rattle.std.proofs.Common.{◌≡◌, ℕ, ◌-◌, List, [], ◌++◌, length, drop, sym, ◌∙◌, ap, subst}
use Rattle.journal_groups.specs.Reader.{State}
use Rattle.depot_rows.specs.table_changes.Changed.{rows_of}
use Rattle.replica_pull.specs.Feed.{AreTaken}
use Rattle.replica_pull.specs.Replica.{with_piece}
use Rattle.replica_pull.proofs.Pieces.{last_left}
use Rattle.replica_pull.proofs.replica.Replica.feed.Goals as goal

pub returns-clause-fed : goal.returns-clause-fed
returns-clause-fed c =
    let r = c.args.self.now in
    let piece = c.args.piece.now in
    let new = c.take_feed.new.reader in
    let told = c.in_ok-taken.ensures.taken in
    let made : List ℕ → ℕ → State = λ text n. record { left = text; at = r.at - n; number = r.number; records = []; reached = r.at - n } in
    let text : c.in_ok-text.text ≡ r.rest ++ piece = c.in_ok-text.ensures ∙ ap (λ (l : List ℕ). l ++ piece) c.as_bytes.ensures in
    let same : c.new-reader.result ≡ with_piece r piece = c.new-reader.ensures ∙ ap (λ (l : List ℕ). made l c.len.result) text ∙ ap (made (r.rest ++ piece)) c.len.ensures in
    let taken : AreTaken r.filter (with_piece r piece) (rows_of r.tables) told.0 new (rows_of c.in_ok-taken.taken.tables) =
    subst (λ (s : State). AreTaken r.filter s (rows_of r.tables) told.0 new (rows_of c.in_ok-taken.taken.tables)) same told.1.1 in
    let rest : c.in_ok-rest.rest ≡ new.left =
    c.in_ok-rest.ensures
    ∙ ap (λ (l : List ℕ). drop (length (l ++ piece) - c.waiting.result) (l ++ piece)) c.as_bytes-2.ensures
    ∙ ap (λ (n : ℕ). drop (length (r.rest ++ piece) - n) (r.rest ++ piece)) c.waiting.ensures
    ∙ last_left r.filter (with_piece r piece) new (rows_of r.tables) (rows_of c.in_ok-taken.taken.tables) told.0 taken in
    (told.0, (new, (told.1.0, (sym rest, (taken, (c.in_ok-taken.ensures.waits, c.in_ok-taken.ensures.fit))))))
