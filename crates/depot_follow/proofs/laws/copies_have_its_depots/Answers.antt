use Rattle.depot_follow.proofs.Copied.{its_depots}
use Rattle.depot_follow.proofs.laws.copies_have_its_depots.Goals as goal

pub returns : goal.returns
returns g c = its_depots g.D.Disk.says g.met.D.Disk.reads_an_image c.args.up.now c.args.node.now c.args.files.now
