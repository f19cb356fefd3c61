use Rattle.std.proofs.Common.{◌≡◌, ◌<◌, Some, length, refl, sym, ◌∙◌, ap, subst}
use Rattle.std.specs.Prelude.{slice_get}
use Rattle.std.proofs.lemmas.Option.{slice_get_read}
use Rattle.memory_world.specs.Door.{door_among}
use Rattle.memory_world.proofs.DoorsLemmas.{door_among-remove}
use Rattle.memory_world.proofs.doors.take_door.Goals as goal

pub returns-in-Some-clause-found : goal.returns-in-Some-clause-found
returns-in-Some-clause-found c =
    let doors = c.args.doors.now.items in
    let same = c.deref.ensures.value in
    let within : c.in-Some.at < length doors = subst (λ ds. c.in-Some.at < length ds) same c.in-Some.ensures.within in
    let found : door_among doors c.args.name.now ≡ slice_get doors c.in-Some.at = subst (λ ds. door_among ds c.args.name.now ≡ slice_get ds c.in-Some.at) same c.in-Some.ensures.found in
    let at : slice_get doors c.in-Some.at ≡ Some c.remove.result = slice_get_read doors (length doors) c.in-Some.at c.remove.result refl within c.remove.ensures.value in
    sym (found ∙ at)

pub returns-in-Some-clause-others : goal.returns-in-Some-clause-others
returns-in-Some-clause-others c other differs =
    let doors = c.args.doors.now.items in
    let same = c.deref.ensures.value in
    let within : c.in-Some.at < length doors = subst (λ ds. c.in-Some.at < length ds) same c.in-Some.ensures.within in
    let found : door_among doors c.args.name.now ≡ slice_get doors c.in-Some.at = subst (λ ds. door_among ds c.args.name.now ≡ slice_get ds c.in-Some.at) same c.in-Some.ensures.found in
    let at : slice_get doors c.in-Some.at ≡ Some c.remove.result = slice_get_read doors (length doors) c.in-Some.at c.remove.result refl within c.remove.ensures.value in
    ap (λ left. door_among left other) c.remove.ensures.items
    ∙ door_among-remove doors c.args.name.now other c.in-Some.at c.remove.result (found ∙ at) at differs
