-- How steps of a disk's files go on.
use Rattle.std.proofs.Common.{ℕ, refl, arith}
use Rattle.std.proofs.lemmas.List.{take_min}
use Rattle.outside_api.specs.Disk.{Files, Torn, OnFile, Leads, Same}

-- what a write leaves may be what was there
pub stays : (file at n : ℕ) (c : Files) → OnFile file (Torn at n) c c
stays file at n c = record {
  this = record { before = take_min at (c file); after = refl; no_shorter = omega arith; no_longer = omega arith };
  others = λ f other. refl;
}

-- a step, and then nothing
pub leads_on : (step : Files → Files → Type 0) (old mid new : Files → Type 0) → Leads step old mid → Same mid new → Leads step old new
leads_on step old mid new leads same = record {
  to = λ d was. let next = leads.to d was in (next.0, same.kept next.0 next.1, next.2);
  from = λ c is. leads.from c (same.no_more c is);
}
