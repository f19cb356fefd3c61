use Rattle.std.proofs.Common.{refl}
use Rattle.shared_depot.proofs.shared.SharedDepot.take.Goals as goal

pub take_asked-taken-requires : goal.take_asked-taken-requires
take_asked-taken-requires g c =
    let room = c.has_place_left.ensures.left c.if-not-has_place_left.false in
    (record { request = c.args.request; is = refl; may = record { room = room; party = c.requires.party; proper = c.requires.proper } }, c.request_needs-needs.ensures)
