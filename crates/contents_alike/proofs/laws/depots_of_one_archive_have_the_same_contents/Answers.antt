use Rattle.contents_alike.proofs.Placed.{same_rows_stand, same_contents}
use Rattle.contents_alike.proofs.laws.depots_of_one_archive_have_the_same_contents.Goals as goal

pub returns-clause-rows : goal.returns-clause-rows
returns-clause-rows c = same_rows_stand

pub returns-clause-contents : goal.returns-clause-contents
returns-clause-contents c = same_contents
