use Rattle.std.proofs.Common.{length, take, ap, ◌∙◌, arith}
use Rattle.archive_file.specs.Archive.{disk_of as archive_disk_of, used_of}
use Rattle.replica_chain.proofs.Copies.{depot_of}
use Rattle.replica_chain.proofs.laws.nodes_have_their_depots.Goals as goal

pub returns : goal.returns
returns g c = λ chronicle journal archive d bytes n written stands sees told.
    let node = c.args.node.now in
    let same = g.met.D.Disk.reads_one (archive_disk_of node.archive) told.files archive told.sees sees 0 in
    let within = told.within in
    let ends = n.contents.ends in
    let long = ap length same in
    depot_of chronicle journal archive d (used_of node.archive) bytes written stands ends (omega (arith, within, long)) (told.are ∙ ap (take (used_of node.archive)) same)
