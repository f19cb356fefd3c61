use Rattle.std.proofs.Common.{◌≡◌, sym, subst, ap}
use Rattle.locked_tables.specs.Known.{PartyKnown}
use Rattle.party_marks.specs.Known.{PassKnown}
use Rattle.shared_depot.specs.Link.{HasHeardPlaces}
use Rattle.shared_depot.proofs.Links.{heard_along, heard_then}
use Rattle.library_tests.proofs.at_work.pull_once.Goals as goal

pub returns : goal.returns
returns g c =
    subst (HasHeardPlaces c.args.pass) (sym (ap (λ (r : PartyKnown × PassKnown). r.0) c.into_passes-pass.ensures))
    (heard_then c.args.pass _ _ c.link-link.ensures.heard
    (heard_along (λ link. link.pass) (λ old new. new.marks.party ≡ old.marks.party) c.pull-moved.ensures.reached))
