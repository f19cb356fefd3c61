-- What some calls, one after another, lead to.

-- One value leads to another by some steps, perhaps none.
pub data Reaches {A : Type 0} (step : A → A → Type 0) (old : A) : A → Type 0 where
  stays : Reaches step old old
  goes_on : {mid new : A} → Reaches step old mid → step mid new → Reaches step old new

module _ {A : Type 0} {step : A → A → Type 0} where
  pub once : {old new : A} → step old new → Reaches step old new
  once leads = goes_on stays leads

  -- two runs, one after the other
  pub then : {old mid new : A} → Reaches step old mid → Reaches step mid new → Reaches step old new
  then first (stays) = first
  then first (goes_on second leads) = goes_on (then first second) leads

  -- what holds after no step, and after each that follows, holds after all of them
  pub holds : {old new : A} (P : A → Type 0) → P old → ((mid next : A) → P mid → step mid next → P next) → Reaches step old new → P new
  holds P here each (stays) = here
  holds P here each (goes_on run leads) = each _ _ (holds P here each run) leads
