use Rattle.journal_groups.proofs.Texts.{next_group, next_ends, next_found, next_ended}
use Rattle.journal_groups.proofs.Committed.{are_groups, groups_are}
use Rattle.journal_groups.proofs.laws.groups_have_one_text.Goals as goal

pub returns : goal.returns
returns c = record { found = next_found; only = next_group; ended = next_ended; ends = next_ends; are_groups = are_groups; groups_are = groups_are }
