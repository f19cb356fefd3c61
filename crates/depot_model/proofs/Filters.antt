-- How the rules read so far go on by one.
use Rattle.std.proofs.Common.{◌≡◌, inl, inr, ℕ, zero, suc, ◌+◌, ◌<◌, ◌≤◌, List, [], ◌∷◌, ◌++◌, length, drop, get_or, refl, sym, ap, ◌∙◌, append_assoc, arith, Result, Ok, Err}
use Rattle.std.proofs.lemmas.List.{append-nil}
use Rattle.db_records.specs.depot_path.Answers.{Answers, ◌>>=◌, on_ok}
use Rattle.db_records.specs.depot_path.declared.fault.PathFault.{PathFault}
use Rattle.db_records.specs.depot_path.declared.fault.PathFault.TheVariants.{Memory}
use Rattle.depot_model.specs.declared.filter.FilterRule.{FilterRule}
use Rattle.depot_model.specs.Filter.{rule_of, filter_of}

abbrev Rules : Type 0
Rules = List FilterRule

abbrev pub after_these : Rules → Result Rules PathFault → Result Rules PathFault
after_these read answer = on_ok (λ rules. read ++ rules) answer

-- a rule, and those that follow
abbrev then_rest : Rules → List (List ℕ) → Result FilterRule PathFault → Result Rules PathFault
then_rest read texts first = after_these read (first >>= (λ rule. on_ok (λ rules. rule ∷ rules) (filter_of texts)))

-- the rules read so far, and those of the texts that are left
pub record HasRead (texts : List (List ℕ)) (read : Rules) (i : ℕ) : Type 0 where
  pub goes_on : after_these read (filter_of (drop i texts)) ≡ filter_of texts

at_step : (texts : List (List ℕ)) (i : ℕ) (d : List ℕ) → i < length texts →
    filter_of (drop i texts) ≡ (rule_of (get_or texts i d) >>= (λ rule. on_ok (λ rules. rule ∷ rules) (filter_of (drop (i + 1) texts))))
at_step [] i d low = absurd (omega arith)
at_step (text ∷ texts) zero d low = refl
at_step (text ∷ texts) (suc i) d low = let next : suc i + 1 ≡ suc (i + 1) = omega arith in rw next (at_step texts i d (omega arith))

is_rule : (rule : FilterRule) (expected : Result FilterRule PathFault) → Answers Memory (Ok rule) expected → expected ≡ Ok rule
is_rule rule expected h = elim h.is [ inl e ↦ cc | inr e ↦ sym e ]

pushed : (read : Rules) (rule : FilterRule) (answer : Result Rules PathFault) →
    after_these read (on_ok (λ rules. rule ∷ rules) answer) ≡ after_these (read ++ rule ∷ []) answer
pushed read rule (Err fault) = refl
pushed read rule (Ok rules) = ap Ok (sym (append_assoc read (rule ∷ []) rules))

pub one_more : (texts : List (List ℕ)) (read : Rules) (i : ℕ) (d : List ℕ) (rule : FilterRule) → i < length texts →
    HasRead texts read i → Answers Memory (Ok rule) (rule_of (get_or texts i d)) → HasRead texts (read ++ rule ∷ []) (i + 1)
one_more texts read i d rule low h is = record {
  goes_on =
      sym (pushed read rule (filter_of (drop (i + 1) texts)))
      ∙ ap (then_rest read (drop (i + 1) texts)) (sym (is_rule rule (rule_of (get_or texts i d)) is))
      ∙ ap (after_these read) (sym (at_step texts i d low)) ∙ h.goes_on;
}

pub stops : (texts : List (List ℕ)) (read : Rules) (i : ℕ) (d : List ℕ) (fault : PathFault) → i < length texts →
    HasRead texts read i → Answers Memory (Err fault) (rule_of (get_or texts i d)) → Answers Memory (Err fault) (filter_of texts)
stops texts read i d fault low h is = elim is.is [
  | inl e ↦ record { is = inl (cc) }
  | inr e ↦ record { is = inr (ap (then_rest read (drop (i + 1) texts)) e ∙ ap (after_these read) (sym (at_step texts i d low)) ∙ h.goes_on) }
]

no_more : (texts : List (List ℕ)) (read : Rules) (i : ℕ) → length texts ≤ i → after_these read (filter_of (drop i texts)) ≡ Ok (read ++ [])
no_more [] read zero low = refl
no_more [] read (suc i) low = refl
no_more (text ∷ texts) read zero low = absurd (omega arith)
no_more (text ∷ texts) read (suc i) low = no_more texts read i (omega arith)

pub all_read : (texts : List (List ℕ)) (read : Rules) (i : ℕ) → length texts ≤ i → HasRead texts read i → Answers Memory (Ok read) (filter_of texts)
all_read texts read i low h = record { is = inr (ap Ok (sym (append-nil read)) ∙ sym (no_more texts read i low) ∙ h.goes_on) }
