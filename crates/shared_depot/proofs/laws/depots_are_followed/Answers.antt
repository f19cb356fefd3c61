use Rattle.depot_commit.specs.Growing.{generations_of}
use Rattle.replica_pull.proofs.Firsts.{first_changes}
use Rattle.replica_pull.proofs.Followed.{has_prefix}
use Rattle.replica_pull.proofs.Standing.{stands_cut}
use Rattle.replica_pull.specs.Prefix.{IsJournalOf}
use Rattle.shared_depot.specs.Common.{chronicle_after}
use Rattle.shared_depot.proofs.laws.depots_are_followed.Goals as goal

pub returns-clause-stands : goal.returns-clause-stands
returns-clause-stands g c = λ order texts archive rules moments r told all followed.
    let generations = generations_of (chronicle_after told.first order) in
    let whole : IsJournalOf texts generations = (told.are, told.are_groups) in
    let first = first_changes rules texts generations r (has_prefix rules texts r moments followed) whole in
    let nth = (told.changes archive all).each r.changes first.within in
    (nth.0, nth.1, stands_cut rules generations r nth.0 first nth.2)

pub returns-clause-good : goal.returns-clause-good
returns-clause-good g c = λ order texts told fits short. record { of_groups = (told.are, told.are_groups); fit = told.fit fits; short = short }
