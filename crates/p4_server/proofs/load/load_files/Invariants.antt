use Rattle.std.proofs.Common.{[]}
use Rattle.replica_turns.specs.Master.{IsMaster}
use Rattle.p4_server.proofs.load.load_files.Given as goal

-- the depots from which replicas follow the depot as it is
abbrev pub ghosts-load_depot : goal.ghosts-load_depot
ghosts-load_depot g a = record { masters = λ past start c. IsMaster g.D.Disk.says past start [] a.depot c }
