use Rattle.std.proofs.Common.{◌≡◌, ◌<◌, ℕ, suc, true, List, [], ◌∷◌, get_or, refl, arith}
use Rattle.std.specs.Prelude.{◌&&◌, nat_lt}
use Rattle.std.proofs.lemmas.Bool.Decides.{nat_tests}
use Rattle.depot_model.specs.Contents.{are_bytes}
use Rattle.depot_model.proofs.contents.know_bytes.Goals as goal

below : (b : ℕ) → b < 256 → nat_lt b 256 ≡ true
below b h = grind (arith, nat_tests)

all_below : (bytes : List ℕ) → ((k : ℕ) → get_or bytes k 0 < 256) → are_bytes bytes ≡ true
all_below [] h = refl
all_below (b ∷ bytes) h = let one = below b (h 0) in let rest = all_below bytes (λ k. h (suc k)) in (λ i. one i && rest i)

pub returns : goal.returns
returns c = all_below c.args.bytes.now (λ k. let fits = c.type_inv.bytes k in omega arith)
