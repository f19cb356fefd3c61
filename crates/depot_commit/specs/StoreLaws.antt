-- What the ghost members of an archive as a store cite.
use Rattle.std.specs.Prelude.{ℕ, [], refl}
use Rattle.std.proofs.Common.{sym, subst}
use Rattle.outside_api.specs.Says.{DiskSays}
use Rattle.archive_file.specs.Archive.{disk_of}
use Rattle.archive_file.specs.declared.archive.Archive.{Archive}
use Rattle.depot_commit.specs.Placing.{EndsAt, StoresBehind}
use Rattle.depot_commit.specs.Storing.{AllReach}

-- where nothing is asked of it nothing was stored
pub nothing_stored : {D : Type 0} (disk_says : DiskSays D) (archive : Archive D) (used : ℕ) → EndsAt disk_says archive used → StoresBehind disk_says [] archive archive
nothing_stored disk_says archive used at = record {
  used = refl;
  kept = λ spot bytes le all. all;
  all = tt;
  room = subst (AllReach (disk_says.may_leave (disk_of archive))) (sym at.0) at.1;
  tells = λ files here. (files, here);
}
