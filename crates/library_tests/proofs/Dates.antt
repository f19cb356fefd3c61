-- Moments of days and seconds, as the calendar has them.
use Rattle.std.proofs.Common.{◌≡◌, Ok, false, refl, pos, negsuc}
use Rattle.std.specs.Prelude.{codes}
use Rattle.depot_path.specs.Revision.{wanted_of}
use Rattle.depot_path.specs.declared.revision.RevSpec.TheVariants.{Moment}
use Rattle.depot_path.specs.declared.revision.Wanted.TheVariants.{One, Range}

before_1970 : wanted_of false (codes "1969/12/31") ≡ Ok (One (Moment (negsuc 86399)))
before_1970 = refl

behind_a_leap_day : wanted_of false (codes "2000/03/01") ≡ Ok (One (Moment (pos 951868800)))
behind_a_leap_day = refl

day : wanted_of false (codes "2023/11/15") ≡ Ok (One (Moment (pos 1700006400)))
day = refl

second_before : wanted_of false (codes "2023/11/14:22:13:19") ≡ Ok (One (Moment (pos 1699999999)))
second_before = refl

range : wanted_of false (codes "1969/12/31,2000/03/01") ≡ Ok (Range (Moment (negsuc 86399)) (Moment (pos 951868800)))
range = refl
