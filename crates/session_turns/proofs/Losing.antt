-- A replica that was answered that a disk failed, from turn to turn.
use Rattle.std.proofs.Common.{◌≡◌, ℕ, Bool, true, false, List, inl, inr, sym, ◌∙◌, arith}
use Rattle.depot_rows.specs.depot_model.declared.order.Place.{Place}
use Rattle.run_parties.specs.Replicas.{HasLost, OneHasRisen, StandUntold}
use Rattle.session_loop.proofs.Faults.{stand_more, stand_same}
use Rattle.session_loop.specs.Served.{AreCaused}

-- what had risen has risen
pub risen_before : (before mid now contents_before contents_mid contents_now : ℕ) (first second : List Place) → AreCaused mid now contents_mid contents_now first second → OneHasRisen before mid contents_before contents_mid
    → OneHasRisen before now contents_before contents_now
risen_before before mid now contents_before contents_mid contents_now first second (k, some, (n, m, both, rises, contents_rise)) (inl one) = inl (omega (arith, rises, one))
risen_before before mid now contents_before contents_mid contents_now first second (k, some, (n, m, both, rises, contents_rise)) (inr one) = inr (omega (arith, contents_rise, one))

-- what has risen since has risen
pub risen_after : (before mid now contents_before contents_mid contents_now : ℕ) (first second : List Place) → AreCaused before mid contents_before contents_mid first second → OneHasRisen mid now contents_mid contents_now
    → OneHasRisen before now contents_before contents_now
risen_after before mid now contents_before contents_mid contents_now first second (k, some, (n, m, both, rises, contents_rise)) (inl one) = inl (omega (arith, rises, one))
risen_after before mid now contents_before contents_mid contents_now first second (k, some, (n, m, both, rises, contents_rise)) (inr one) = inr (omega (arith, contents_rise, one))

pub lost_more : (old mid new : Bool) (before between now contents_before contents_between contents_now : ℕ) (first second third : List Place) → AreCaused before between contents_before contents_between first second
    → AreCaused between now contents_between contents_now second third → HasLost old mid before between contents_before contents_between → HasLost mid new between now contents_between contents_now
    → HasLost old new before now contents_before contents_now
lost_more old mid new before between now contents_before contents_between contents_now first second third one two was is lost = elim (is lost) [
  | inr rose ↦ inr (risen_after before between now contents_before contents_between contents_now first second one rose)
  | inl had ↦ elim (was had) [
    | inl first_one ↦ inl first_one
    | inr rose ↦ inr (risen_before before between now contents_before contents_between contents_now second third two rose)
  ]
]

-- where none was at first
pub not_before : (old new : Bool) (before now contents_before contents_now : ℕ) → old ≡ false → HasLost old new before now contents_before contents_now → new ≡ true → OneHasRisen before now contents_before contents_now
not_before old new before now contents_before contents_now none lost is = elim (lost is) [
  | inl had ↦ absurd (let both : true ≡ false = sym had ∙ none in cc)
  | inr rose ↦ rose
]

-- ---- counts that stand

pub untold_same : (lost : Bool) (before contents : ℕ) (order : List Place) → StandUntold lost lost before before contents contents order order
untold_same lost before contents order = record { before_too = λ none. none; stand = λ none. stand_same before contents order order }

pub untold_more : (old mid new : Bool) (before between now contents_before contents_between contents_now : ℕ) (first second third : List Place) → AreCaused before between contents_before contents_between first second
    → AreCaused between now contents_between contents_now second third → StandUntold old mid before between contents_before contents_between first second
    → StandUntold mid new between now contents_between contents_now second third → StandUntold old new before now contents_before contents_now first third
untold_more old mid new before between now contents_before contents_between contents_now first second third one two was is = record {
  before_too = λ none. was.before_too (is.before_too none);
  stand = λ none. stand_more before between now contents_before contents_between contents_now first second third one two (was.stand (is.before_too none)) (is.stand none);
}
