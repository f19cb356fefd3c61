use Rattle.std.proofs.Common.{◌≡◌, ◌∷◌, [], Bool, true, false, sym, subst, ◌∙◌}
use Rattle.std.specs.Prelude.{Some, if◌then◌else◌}
use Rattle.depot_rows.specs.depot_path.Bytes.{same}
use Rattle.depot_rows.specs.depot_model.Revisions.{is_live_at}
use Rattle.depot_rows.specs.depot_model.Steps.Resolving.{other_deeds, own_deeds, paid}
use Rattle.depot_rows.specs.Deed.{opening_of, owing_of}
use Rattle.integ_records.specs.Turns.{IsTurned, left_other, left_own}
use Rattle.integ_records.proofs.Adding.{adds_more}
use Rattle.integ_records.proofs.turns.add_deeds.Goals as goal

pub returns-in_ok-stays : goal.returns-in_ok-stays
returns-in_ok-stays c = λ d has.
    let owing = c.args.owing.now in
    let taking = c.args.taking in
    let o = opening_of c.args.opening.now in
    let r = owing_of owing in
    let turned = c.in_ok-stays.ensures d has in
    let own : true ≡ same owing.from owing.path = sym c.if-own.true ∙ c.is_own-own.ensures in
    subst (λ (b : Bool). IsTurned c.args.deeds.now c.take_own.new.deeds (paid taking r ∷ (if b then own_deeds d taking o r else other_deeds taking o r))
    (if b then left_own (is_live_at d r.path r.last) taking o r else Some (left_other taking o r)) c.in_ok-stays.stays (opening_of c.take_own.new.opening)) own
    (record {
      added = adds_more c.args.deeds.now c.pay.new.deeds c.take_own.new.deeds (paid taking r ∷ []) (own_deeds d taking o r) c.in_ok-pay.ensures turned.added;
      left_is = turned.left_is;
    })

pub returns-in_ok-take_other : goal.returns-in_ok-take_other
returns-in_ok-take_other c = λ d has.
    let owing = c.args.owing.now in
    let taking = c.args.taking in
    let o = opening_of c.args.opening.now in
    let r = owing_of owing in
    let turned = c.in_ok-take_other.ensures in
    let own : false ≡ same owing.from owing.path = sym c.if-own.false ∙ c.is_own-own.ensures in
    subst (λ (b : Bool). IsTurned c.args.deeds.now c.take_other.new.deeds (paid taking r ∷ (if b then own_deeds d taking o r else other_deeds taking o r))
    (if b then left_own (is_live_at d r.path r.last) taking o r else Some (left_other taking o r)) true (opening_of c.take_other.new.opening)) own
    (record {
      added = adds_more c.args.deeds.now c.pay.new.deeds c.take_other.new.deeds (paid taking r ∷ []) (other_deeds taking o r) c.in_ok-pay.ensures turned.added;
      left_is = turned.left_is;
    })
