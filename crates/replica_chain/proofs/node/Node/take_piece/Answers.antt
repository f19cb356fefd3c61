use Rattle.std.proofs.Common.{◌≡◌, inl, inr, ℕ, ◌-◌, List, [], ◌++◌, length, drop, refl, ap, ◌∙◌, arith, length-append}
use Rattle.journal_groups.specs.Reader.{State}
use Rattle.replica_chain.specs.Pulling.{IsUntaken, with_piece}
use Rattle.replica_chain.specs.declared.fault.NodeFault.TheVariants.{BadFeed, Memory}
use Rattle.replica_chain.proofs.Growing.{earlier_self}
use Rattle.replica_chain.proofs.PassedOn.{passed_fault}
use Rattle.replica_chain.proofs.Rests.{emptied_behind, emptied_can, from_rested, rested, rested_can, rested_fewer, to_emptied, with_rest}
use Rattle.replica_chain.proofs.Steps.{at_first}
use Rattle.replica_chain.proofs.TakenPieces.{both_stand, last_is, left_short, piece_cut, piece_goes, piece_taken, piece_unread, rest_unread}
use Rattle.outside_api.specs.Reaching.{stays}
use Rattle.replica_chain.proofs.Kept.{keeps_first}
use Rattle.replica_chain.proofs.node.Node.take_piece.Goals as goal

-- ---- the piece is too much

pub returns-then-size-self-clause-can : goal.returns-then-size-self-clause-can
returns-then-size-self-clause-can g c = emptied_can g.D.Disk.says c.args.self.now c.replace-rest.new.dest (c.replace-rest.ensures.after ∙ c.new.ensures) c.requires.can

pub returns-then-size-self-clause-untaken : goal.returns-then-size-self-clause-untaken
returns-then-size-self-clause-untaken g c =
    inr (record {
      stays = record { generation = refl; rows = refl; before = refl; at = refl; number = refl; changes = refl };
      fault_is = ap BadFeed (omega (arith, c.len.ensures, ap length c.replace-rest.ensures.value));
      over = omega (arith, c.len.ensures, ap length c.replace-rest.ensures.value, c.requires.can.short);
    })

pub returns-then-size-self-clause-node : goal.returns-then-size-self-clause-node
returns-then-size-self-clause-node g c = λ chronicle n. record { now = chronicle; no_fewer = earlier_self chronicle; is_node = rested g.D.Disk.says c.args.self.now chronicle c.replace-rest.new.dest n }

pub returns-then-size-self-clause-behind : goal.returns-then-size-self-clause-behind
returns-then-size-self-clause-behind g c = λ chronicle up told b has.
    let says = g.D.Disk.says in
    let node = c.args.self.now in
    let B = g.C.Contents.tells c.args.contents.now in
    to_emptied says node node c.replace-rest.new.dest (c.replace-rest.ensures.after ∙ c.new.ensures) chronicle up (λ texts. texts ≡ up.texts) B (at_first says g.met.D.Disk.only_now node chronicle up B told b)

-- ---- there is no memory for the rest and the piece together

pub returns-in_err-text-clause-can : goal.returns-in_err-text-clause-can
returns-in_err-text-clause-can g c = emptied_can g.D.Disk.says c.args.self.now c.replace-rest.new.dest (c.replace-rest.ensures.after ∙ c.new.ensures) c.requires.can

pub returns-in_err-text-clause-untaken : goal.returns-in_err-text-clause-untaken
returns-in_err-text-clause-untaken g c =
    let says = g.D.Disk.says in
    let told = g.C.Contents.tells c.args.contents.now in
    let old = c.args.self.now in
    let none = c.replace-rest.new.dest in
    let piece = c.args.piece.now in
    passed_fault (IsUntaken says told old (with_rest old none) piece) _ Memory c.from_residual.ensures.1 (inl (piece_unread old none piece says told))

pub returns-in_err-text-clause-node : goal.returns-in_err-text-clause-node
returns-in_err-text-clause-node g c = λ chronicle n. record { now = chronicle; no_fewer = earlier_self chronicle; is_node = rested g.D.Disk.says c.args.self.now chronicle c.replace-rest.new.dest n }

pub returns-in_err-text-clause-behind : goal.returns-in_err-text-clause-behind
returns-in_err-text-clause-behind g c = λ chronicle up told b has.
    let says = g.D.Disk.says in
    let node = c.args.self.now in
    let B = g.C.Contents.tells c.args.contents.now in
    to_emptied says node node c.replace-rest.new.dest (c.replace-rest.ensures.after ∙ c.new.ensures) chronicle up (λ texts. texts ≡ up.texts) B (at_first says g.met.D.Disk.only_now node chronicle up B told b)

-- ---- groups were taken, and then one wasn't

pub take_groups-requires-clause-can : goal.take_groups-requires-clause-can
take_groups-requires-clause-can g c = emptied_can g.D.Disk.says c.args.self.now c.replace-rest.new.dest (c.replace-rest.ensures.after ∙ c.new.ensures) c.requires.can

pub returns-in_err-count-clause-untaken : goal.returns-in_err-count-clause-untaken
returns-in_err-count-clause-untaken g c =
    let says = g.D.Disk.says in
    let told = g.C.Contents.tells c.take_groups.new.contents in
    let old = c.args.self.now in
    let none = c.replace-rest.new.dest in
    let piece = c.args.piece.now in
    let new = c.take_groups.new.self in
    let fault = c.in_err-count.field-0.0 in
    let text : c.in_ok-text.text ≡ old.rest ++ piece = c.in_ok-text.ensures ∙ ap (λ (l : List ℕ). l ++ piece) (c.as_bytes.ensures ∙ c.replace-rest.ensures.value) in
    let made : List ℕ → State = λ l. record { left = l; at = old.at; number = old.number; records = []; reached = old.at } in
    let same : c.new-reader.result ≡ with_piece old piece = c.new-reader.ensures ∙ ap made text in
    passed_fault (IsUntaken says told old new piece) _ fault c.from_residual-in_err-count.ensures.1 (inl (piece_cut old none piece says told new c.new-reader.result fault same c.in_err-count.ensures.cut_short))

pub returns-in_err-count-clause-node : goal.returns-in_err-count-clause-node
returns-in_err-count-clause-node g c = λ chronicle n. c.take_groups.ensures.node chronicle (rested g.D.Disk.says c.args.self.now chronicle c.replace-rest.new.dest n)

pub returns-in_err-count-clause-behind : goal.returns-in_err-count-clause-behind
returns-in_err-count-clause-behind g c = λ chronicle up told b has.
    let says = g.D.Disk.says in
    let old = c.args.self.now in
    let none = c.replace-rest.new.dest in
    let piece = c.args.piece.now in
    let E = g.C.Contents.tells c.take_groups.new.contents in
    let text : c.in_ok-text.text ≡ old.rest ++ piece = c.in_ok-text.ensures ∙ ap (λ (l : List ℕ). l ++ piece) (c.as_bytes.ensures ∙ c.replace-rest.ensures.value) in
    let made : List ℕ → State = λ l. record { left = l; at = old.at; number = old.number; records = []; reached = old.at } in
    let same : c.new-reader.result ≡ with_piece old piece = c.new-reader.ensures ∙ ap made text in
    from_rested says old c.take_groups.new.self chronicle up none (λ texts. texts ≡ up.texts) E
    (c.take_groups.ensures.behind chronicle up told (emptied_behind says old none (c.replace-rest.ensures.after ∙ c.new.ensures) chronicle up b) (both_stand old none piece says E chronicle up b has c.new-reader.result same))

-- ---- there is no memory for the rest behind them

pub returns-in_err-self-clause-untaken : goal.returns-in_err-self-clause-untaken
returns-in_err-self-clause-untaken g c =
    let says = g.D.Disk.says in
    let told = g.C.Contents.tells c.take_groups.new.contents in
    let old = c.args.self.now in
    let none = c.replace-rest.new.dest in
    let piece = c.args.piece.now in
    let new = c.take_groups.new.self in
    let taken = c.in_ok-count.ensures.taken in
    let text : c.in_ok-text.text ≡ old.rest ++ piece = c.in_ok-text.ensures ∙ ap (λ (l : List ℕ). l ++ piece) (c.as_bytes.ensures ∙ c.replace-rest.ensures.value) in
    let made : List ℕ → State = λ l. record { left = l; at = old.at; number = old.number; records = []; reached = old.at } in
    let same : c.new-reader.result ≡ with_piece old piece = c.new-reader.ensures ∙ ap made text in
    passed_fault (IsUntaken says told old new piece) _ Memory c.from_residual-in_err-self.ensures.1 (inl (rest_unread old none piece says told new c.new-reader.result c.take_groups.new.reader taken.0 same taken.1.1))

pub returns-in_err-self-clause-node : goal.returns-in_err-self-clause-node
returns-in_err-self-clause-node g c = λ chronicle n. c.take_groups.ensures.node chronicle (rested g.D.Disk.says c.args.self.now chronicle c.replace-rest.new.dest n)

pub returns-in_err-self-clause-behind : goal.returns-in_err-self-clause-behind
returns-in_err-self-clause-behind g c = λ chronicle up told b has.
    let says = g.D.Disk.says in
    let old = c.args.self.now in
    let none = c.replace-rest.new.dest in
    let piece = c.args.piece.now in
    let E = g.C.Contents.tells c.take_groups.new.contents in
    let text : c.in_ok-text.text ≡ old.rest ++ piece = c.in_ok-text.ensures ∙ ap (λ (l : List ℕ). l ++ piece) (c.as_bytes.ensures ∙ c.replace-rest.ensures.value) in
    let made : List ℕ → State = λ l. record { left = l; at = old.at; number = old.number; records = []; reached = old.at } in
    let same : c.new-reader.result ≡ with_piece old piece = c.new-reader.ensures ∙ ap made text in
    from_rested says old c.take_groups.new.self chronicle up none (λ texts. texts ≡ up.texts) E
    (c.take_groups.ensures.behind chronicle up told (emptied_behind says old none (c.replace-rest.ensures.after ∙ c.new.ensures) chronicle up b) (both_stand old none piece says E chronicle up b has c.new-reader.result same))

-- ---- the piece was taken

pub returns-clause-can : goal.returns-clause-can
returns-clause-can g c =
    let old = c.args.self.now in
    let none = c.replace-rest.new.dest in
    let piece = c.args.piece.now in
    let new = c.take_groups.new.self in
    let taken = c.in_ok-count.ensures.taken in
    let left = c.take_groups.new.reader in
    let text : c.in_ok-text.text ≡ old.rest ++ piece = c.in_ok-text.ensures ∙ ap (λ (l : List ℕ). l ++ piece) (c.as_bytes.ensures ∙ c.replace-rest.ensures.value) in
    let made : List ℕ → State = λ l. record { left = l; at = old.at; number = old.number; records = []; reached = old.at } in
    let same : c.new-reader.result ≡ with_piece old piece = c.new-reader.ensures ∙ ap made text in
    let whole : drop (length (old.rest ++ piece) - length left.left) (old.rest ++ piece) ≡ left.left = last_is old none piece new c.new-reader.result left taken.0 same taken.1.1 in
    let rest : c.in_ok-self.field-0 ≡ left.left =
    c.in_ok-self.ensures
    ∙ ap (λ (l : List ℕ). drop (length (l ++ piece) - c.waiting.result) (l ++ piece)) (c.as_bytes-2.ensures ∙ c.replace-rest.ensures.value)
    ∙ ap (λ (n : ℕ). drop (length (old.rest ++ piece) - n) (old.rest ++ piece)) c.waiting.ensures
    ∙ whole in
    let place = left_short old none piece new c.new-reader.result left taken.0 same taken.1.1 in
    let at = taken.1.1.at in
    let before = taken.1.1.before in
    rested_can g.D.Disk.says new c.in_ok-self.field-0 c.take_groups.ensures.can
    (omega (arith, place, at, before, ap length rest, length-append old.rest piece, c.len.ensures, ap length c.replace-rest.ensures.value, c.if-size-self.false))

pub returns-clause-taken : goal.returns-clause-taken
returns-clause-taken g c =
    let old = c.args.self.now in
    let none = c.replace-rest.new.dest in
    let piece = c.args.piece.now in
    let new = c.take_groups.new.self in
    let taken = c.in_ok-count.ensures.taken in
    let left = c.take_groups.new.reader in
    let text : c.in_ok-text.text ≡ old.rest ++ piece = c.in_ok-text.ensures ∙ ap (λ (l : List ℕ). l ++ piece) (c.as_bytes.ensures ∙ c.replace-rest.ensures.value) in
    let made : List ℕ → State = λ l. record { left = l; at = old.at; number = old.number; records = []; reached = old.at } in
    let same : c.new-reader.result ≡ with_piece old piece = c.new-reader.ensures ∙ ap made text in
    let whole : drop (length (old.rest ++ piece) - length left.left) (old.rest ++ piece) ≡ left.left = last_is old none piece new c.new-reader.result left taken.0 same taken.1.1 in
    let rest : c.in_ok-self.field-0 ≡ left.left =
    c.in_ok-self.ensures
    ∙ ap (λ (l : List ℕ). drop (length (l ++ piece) - c.waiting.result) (l ++ piece)) (c.as_bytes-2.ensures ∙ c.replace-rest.ensures.value)
    ∙ ap (λ (n : ℕ). drop (length (old.rest ++ piece) - n) (old.rest ++ piece)) c.waiting.ensures
    ∙ whole in
    piece_taken old none piece new c.new-reader.result left taken.0 c.in_ok-count.count c.in_ok-self.field-0 same taken.1.1 taken.1.0 rest c.in_ok-count.ensures.waits c.in_ok-count.ensures.fit

pub returns-clause-node : goal.returns-clause-node
returns-clause-node g c = λ chronicle n.
    rested_fewer g.D.Disk.says c.take_groups.new.self chronicle c.in_ok-self.field-0 (c.take_groups.ensures.node chronicle (rested g.D.Disk.says c.args.self.now chronicle c.replace-rest.new.dest n))

pub returns-clause-behind : goal.returns-clause-behind
returns-clause-behind g c = λ chronicle up told b has.
    let says = g.D.Disk.says in
    let old = c.args.self.now in
    let none = c.replace-rest.new.dest in
    let piece = c.args.piece.now in
    let new = c.take_groups.new.self in
    let E = g.C.Contents.tells c.take_groups.new.contents in
    let taken = c.in_ok-count.ensures.taken in
    let left = c.take_groups.new.reader in
    let text : c.in_ok-text.text ≡ old.rest ++ piece = c.in_ok-text.ensures ∙ ap (λ (l : List ℕ). l ++ piece) (c.as_bytes.ensures ∙ c.replace-rest.ensures.value) in
    let made : List ℕ → State = λ l. record { left = l; at = old.at; number = old.number; records = []; reached = old.at } in
    let same : c.new-reader.result ≡ with_piece old piece = c.new-reader.ensures ∙ ap made text in
    let whole : drop (length (old.rest ++ piece) - length left.left) (old.rest ++ piece) ≡ left.left = last_is old none piece new c.new-reader.result left taken.0 same taken.1.1 in
    let rest : c.in_ok-self.field-0 ≡ left.left =
    c.in_ok-self.ensures
    ∙ ap (λ (l : List ℕ). drop (length (l ++ piece) - c.waiting.result) (l ++ piece)) (c.as_bytes-2.ensures ∙ c.replace-rest.ensures.value)
    ∙ ap (λ (n : ℕ). drop (length (old.rest ++ piece) - n) (old.rest ++ piece)) c.waiting.ensures
    ∙ whole in
    let numbered = c.take_groups.ensures.can.numbered in
    let short = c.take_groups.ensures.can.short in
    let number = taken.1.1.number in
    piece_goes old none piece says E chronicle up b has new c.new-reader.result left taken.0 c.in_ok-self.field-0 E same taken.1.1 rest c.in_ok-count.ensures.waits (omega (arith, numbered, short, number))
    (c.take_groups.ensures.behind chronicle up told (emptied_behind says old none (c.replace-rest.ensures.after ∙ c.new.ensures) chronicle up b) (both_stand old none piece says E chronicle up b has c.new-reader.result same))

pub returns-then-size-self-clause-contents_reached : goal.returns-then-size-self-clause-contents_reached
returns-then-size-self-clause-contents_reached g c = stays

pub returns-in_err-text-clause-contents_reached : goal.returns-in_err-text-clause-contents_reached
returns-in_err-text-clause-contents_reached g c = stays

pub returns-in_err-count-clause-contents_reached : goal.returns-in_err-count-clause-contents_reached
returns-in_err-count-clause-contents_reached g c = c.take_groups.ensures.contents_reached

pub returns-in_err-self-clause-contents_reached : goal.returns-in_err-self-clause-contents_reached
returns-in_err-self-clause-contents_reached g c = c.take_groups.ensures.contents_reached

pub returns-clause-contents_reached : goal.returns-clause-contents_reached
returns-clause-contents_reached g c = c.take_groups.ensures.contents_reached

pub returns-then-size-self-clause-keeps : goal.returns-then-size-self-clause-keeps
returns-then-size-self-clause-keeps g c = keeps_first g.D.Disk.says g.met.D.Disk.only_now c.args.self.now.archive

pub returns-in_err-text-clause-keeps : goal.returns-in_err-text-clause-keeps
returns-in_err-text-clause-keeps g c = keeps_first g.D.Disk.says g.met.D.Disk.only_now c.args.self.now.archive

pub returns-in_err-count-clause-keeps : goal.returns-in_err-count-clause-keeps
returns-in_err-count-clause-keeps g c = c.take_groups.ensures.keeps

pub returns-in_err-self-clause-keeps : goal.returns-in_err-self-clause-keeps
returns-in_err-self-clause-keeps g c = c.take_groups.ensures.keeps

pub returns-clause-keeps : goal.returns-clause-keeps
returns-clause-keeps g c = c.take_groups.ensures.keeps
