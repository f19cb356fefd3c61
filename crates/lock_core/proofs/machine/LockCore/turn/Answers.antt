use Rattle.std.proofs.Common.{◌≡◌, ◌<◌, length, set, refl, sym, ap, ◌∙◌, arith}
use Rattle.std.specs.Prelude.{slice_get, Some}
use Rattle.std.specs.Vec.{with_item}
use Rattle.std.proofs.lemmas.List.{set-get_or}
use Rattle.std.proofs.lemmas.Option.{slice_get_read}
use Rattle.lock_core.specs.declared.machine.LockCore.{LockCore}
use Rattle.lock_core.proofs.Counterparts.{enabled_same}
use Rattle.lock_core.proofs.Turned.{turned, is_there, on_err, shows_as_before, commit_at}
use Rattle.lock_core.proofs.machine.LockCore.turn.Goals as goal

pub index_mut-requires : goal.index_mut-requires
index_mut-requires c =
    let parties = c.args.self.now.parties in
    let within : c.args.party < length parties.items = is_there parties.items c.args.party (sym c.may_go.ensures ∙ c.if-not-may_go.false) in
    omega (arith, parties.ok.0)

pub returns-then-not-may_go-clause-turn : goal.returns-then-not-may_go-clause-turn
returns-then-not-may_go-clause-turn c = λ start s shows.
    (sym (enabled_same start c.args.self.now s c.args.party shows) ∙ (sym c.may_go.ensures ∙ c.if-not-may_go.true), refl)

pub returns-in_err-turn-clause-same : goal.returns-in_err-turn-clause-same
returns-in_err-turn-clause-same c =
    let items = c.args.self.now.parties.items in
    let i = c.args.party in
    let p = c.index_mut.result.now in
    on_err c.from_residual.result (refl, ap (set items i) (c.in_err-turn.ensures.err.0 ∙ c.index_mut.ensures.value) ∙ set-get_or items i p)

pub returns-in_err-turn-clause-commit : goal.returns-in_err-turn-clause-commit
returns-in_err-turn-clause-commit c =
    let core = c.args.self.now in
    let items = core.parties.items in
    let i = c.args.party in
    let p = c.index_mut.result.now in
    let within : i < length items = is_there items i (sym c.may_go.ensures ∙ c.if-not-may_go.false) in
    let at_i : slice_get items i ≡ Some p = slice_get_read items (length items) i p refl within c.index_mut.ensures.value in
    let same : set items i c.turn.new.self ≡ items = ap (set items i) (c.in_err-turn.ensures.err.0 ∙ c.index_mut.ensures.value) ∙ set-get_or items i p in
    let new : LockCore = record { tables = core.tables; parties = with_item core.parties i c.turn.new.self } in
    on_err c.from_residual.result (λ start s shows.
    commit_at start s new i p (shows_as_before start s core new (refl, same) shows) (ap (λ ps. slice_get ps i) same ∙ at_i)
    (sym (enabled_same start core s i shows) ∙ (sym c.may_go.ensures ∙ c.if-not-may_go.false)) c.in_err-turn.ensures.err.1)

pub returns-clause-turn : goal.returns-clause-turn
returns-clause-turn c = λ start s shows.
    let core = c.args.self.now in
    let p = c.index_mut.result.now in
    let within : c.args.party < length core.parties.items = is_there core.parties.items c.args.party (sym c.may_go.ensures ∙ c.if-not-may_go.false) in
    let at_i : slice_get core.parties.items c.args.party ≡ Some p = slice_get_read core.parties.items (length core.parties.items) c.args.party p refl within c.index_mut.ensures.value in
    turned start s core _ c.args.party p c.turn.new.self shows at_i
    (sym (enabled_same start core s c.args.party shows) ∙ (sym c.may_go.ensures ∙ c.if-not-may_go.false)) refl refl c.in_ok-turn.turn c.in_ok-turn.ensures.turn
