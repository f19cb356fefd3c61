use Rattle.depot_path.proofs.Paths.{prints_path}
use Rattle.depot_path.proofs.path.DepotPath.print.Goals as goal

pub returns-clause-read_again : goal.returns-clause-read_again
returns-clause-read_again c = prints_path c.args.self.now (cc)
