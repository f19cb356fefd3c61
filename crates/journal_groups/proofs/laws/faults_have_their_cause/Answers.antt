use Rattle.journal_groups.proofs.Causes.{group_ends, group_goes, group_stops, next_goes_on, goes_next, next_stops}
use Rattle.journal_groups.proofs.laws.faults_have_their_cause.Goals as goal

pub returns : goal.returns
returns c = record {
  short = λ number bytes small. (next_goes_on number bytes small, goes_next number bytes small);
  bad = next_stops;
  short_group = λ number bytes small. (group_ends number bytes small, group_goes number bytes small);
  bad_group = group_stops;
}
