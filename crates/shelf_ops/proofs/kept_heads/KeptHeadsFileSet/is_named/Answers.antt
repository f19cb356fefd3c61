use Rattle.shelf_ops.proofs.kept_heads.KeptHeadsFileSet.is_named.Goals as goal

pub returns : goal.returns
returns c = λ d reads.
    c.in_ok-named.ensures d (record {
      sound = reads.sound;
      asked = reads.asked;
      listed = reads.has_rev;
      has_domain = reads.has_domain;
      has_rev = reads.has_rev;
    })
