use Rattle.change_lists.proofs.made.named_files_of.Goals as goal

pub returns : goal.returns
returns c = λ d reads. c.in_ok-paths.ensures d reads
