use Rattle.std.proofs.Common.{◌≡◌, ℕ, ◌++◌, refl, sym, arith, length-append, max, subst, take}
use Rattle.std.proofs.lemmas.List.{length-take-le}
use Rattle.outside_api.specs.Reaching.{goes_on, stays}
use Rattle.archive_file.specs.Archive.{disk_of, used_of}
use Rattle.replica_chain.specs.Node.{AllReach, HasFrontTo}
use Rattle.replica_chain.proofs.Copied.{front_cut, front_itself, front_more, fronts_on, keeps_all, keeps_on, same_more}
use Rattle.replica_chain.proofs.contents.copy_contents.Goals as goal

pub returns-in_err-copy_piece-clause-keeps : goal.returns-in_err-copy_piece-clause-keeps
returns-in_err-copy_piece-clause-keeps g c =
    let inv = c.loop-at.invariant in
    let piece = c.copy_piece.ensures in
    keeps_on g.D.Disk.says c.args.archive.now c.loop-at.archive c.copy_piece.new.archive c.loop-at.at inv.above inv.keeps piece.kept piece.any_moment piece.told piece.used

pub returns-in_err-copy_piece-clause-grows : goal.returns-in_err-copy_piece-clause-grows
returns-in_err-copy_piece-clause-grows g c = λ before told.
    let mid = c.loop-at.invariant.grows before told in
    let next = c.copy_piece.ensures.grows mid.0 mid.1.0 in
    (next.0, (next.1.0, fronts_on before mid.0 next.0 mid.1.1 next.1.1))

pub returns-clause-copied : goal.returns-clause-copied
returns-clause-copied g c =
    let inv = c.loop-at.invariant in
    let at : c.loop-at.at ≡ max (used_of c.args.archive.now) c.args.end = omega (arith, inv.above, inv.within, c.loop-at-test.false) in
    record {
      reach = subst (λ (place : ℕ). AllReach (g.D.Disk.says.may_leave (disk_of c.loop-at.archive)) place) at inv.reach;
      same = λ before front. (let now = inv.same before front in (now.0, (now.1.1.0, subst (λ (place : ℕ). HasFrontTo (g.D.Disk.says.may_leave (disk_of c.loop-at.archive)) place now.0) at now.1.1.1)));
      told = λ before told front. (let now = inv.told before told front in (now.0, (now.1.0, (now.1.1.0, subst (λ (place : ℕ). HasFrontTo (g.D.Disk.says.may_leave (disk_of c.loop-at.archive)) place now.0) at now.1.1.1))));
    }

pub loop-at-init : goal.loop-at-init
loop-at-init g c =
    let archive = c.args.archive.now in
    let used : c.used-at.result ≡ used_of archive = c.used-at.ensures in
    record {
      above = omega (arith, used);
      within = omega (arith, used);
      fits = λ over. absurd (omega (arith, used, over));
      reach = λ image left. (let room = c.requires.room image left in omega (arith, room, used));
      same = λ before front. (
        take (used_of archive) before,
        (
          omega (arith, used, length-take-le (used_of archive) before front.within),
          (front_itself (take (used_of archive) before), subst (λ (place : ℕ). HasFrontTo (g.D.Disk.says.may_leave (disk_of archive)) place (take (used_of archive) before)) (sym used) (front_cut (g.D.Disk.says.may_leave (disk_of archive)) (used_of archive) before front)),
        ),
      );
      told = λ before told front. (before, (told, (front_itself before, subst (λ (place : ℕ). HasFrontTo (g.D.Disk.says.may_leave (disk_of archive)) place before) (sym used) front)));
      keeps = keeps_all g.D.Disk.says archive (g.met.D.Disk.only_now (disk_of archive));
      grows = λ before told. (before, (told, front_itself before));
      reached = stays;
      contents_count = omega arith;
      count = omega arith;
    }

pub loop-at-preserved : goal.loop-at-preserved
loop-at-preserved g c =
    let inv = c.loop-at.invariant in
    let at = c.loop-at.at in
    let n = c.min-length.result in
    let piece = c.copy_piece.ensures in
    let stored = c.in_ok-copy_piece.ensures.copied in
    let old = g.D.Disk.says.may_leave (disk_of c.loop-at.archive) in
    let new = g.D.Disk.says.may_leave (disk_of c.copy_piece.new.archive) in
    record {
      above = omega (arith, inv.above);
      within = omega (arith, inv.within, c.min-length.ensures, c.loop-at-test.true);
      fits = λ over. c.in_ok-copy_piece.ensures.fits;
      reach = λ image left. (stored.1.1.0 image left).within;
      same = λ before front.
          let mid = inv.same before front in (
            mid.0 ++ stored.0,
            (
              omega (arith, mid.1.0, stored.1.1.1, length-append mid.0 stored.0),
              (fronts_on _ mid.0 (mid.0 ++ stored.0) mid.1.1.0 (record { more = stored.0; is = refl }), same_more old new at n mid.0 stored.0 mid.1.0 stored.1.1.1 mid.1.1.1 piece.kept stored.1.1.0),
            ),
          );
      told = λ before told front.
          let mid = inv.told before told front in
          let next = piece.grows mid.0 mid.1.0 in
          (next.0, (next.1.0, (fronts_on before mid.0 next.0 mid.1.1.0 next.1.1, front_more old new at n mid.0 next.0 stored.0 next.1.1 mid.1.1.1 piece.kept stored.1.1.0 (stored.1.0 next.0 next.1.0))));
      keeps = keeps_on g.D.Disk.says c.args.archive.now c.loop-at.archive c.copy_piece.new.archive at inv.above inv.keeps piece.kept piece.any_moment piece.told piece.used;
      grows = λ before told.
          let mid = inv.grows before told in
          let next = piece.grows mid.0 mid.1.0 in
          (next.0, (next.1.0, fronts_on before mid.0 next.0 mid.1.1 next.1.1));
      reached = goes_on inv.reached piece.looked;
      contents_count = omega (arith, inv.contents_count, piece.contents_cause.never_falls);
      count = omega (arith, inv.count, piece.cause.never_falls);
    }

pub returns-in_err-copy_piece-clause-contents_reached : goal.returns-in_err-copy_piece-clause-contents_reached
returns-in_err-copy_piece-clause-contents_reached g c = goes_on c.loop-at.invariant.reached c.copy_piece.ensures.looked

pub returns-clause-contents_reached : goal.returns-clause-contents_reached
returns-clause-contents_reached g c = c.loop-at.invariant.reached
