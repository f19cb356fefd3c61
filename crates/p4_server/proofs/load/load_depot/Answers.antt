use Rattle.p4_server.proofs.load.load_depot.Goals as goal

pub returns-clause-loaded : goal.returns-clause-loaded
returns-clause-loaded g c = λ since start ran.
    c.run_load-run.ensures.loaded since start (record { ran = rw c.new-followed.ensures ran; followed = λ past all master. rw c.new-followed.ensures (c.requires.began past start all master) })
