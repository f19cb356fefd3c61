-- Deeds that count nothing and make no line leave the generation and the lines as they were, and, where they number no change 0, that number too.
use Rattle.std.proofs.Common.{◌≡◌, ◌≤◌, ◌+◌, ℕ, List, [], ◌∷◌, ◌++◌, refl, ◌∙◌}
use Rattle.std.specs.List.{AllByRecursion}
use Rattle.depot_model.specs.db_records.declared.key.Key.TheVariants as keys
use Rattle.record_text.specs.Grammar.{largest_count}
use Rattle.depot_model.specs.Deeds.{Deed, Spec, Guard, Group, Count, Pend, Drop, Open, Shut, Hold, Free, Got, Tag, Owe, Paid, Land}
use Rattle.depot_model.specs.Records.{record_of}
use Rattle.depot_model.specs.Step.{after}
use Rattle.step_limits.specs.Limits.{generation_in}

-- a change has at least this number
abbrev pub IsPlain : ℕ → Deed → Type 0
IsPlain least (Count name value) = ⊥
IsPlain least (Guard lines) = ⊥
IsPlain least (Pend p) = least ≤ p.change
IsPlain least (Land l) = least ≤ l.change
IsPlain least _ = Unit {0}

abbrev pub ArePlain : ℕ → List Deed → Type 0
ArePlain least deeds = AllByRecursion (IsPlain least) deeds

pub joined : (least : ℕ) (xs ys : List Deed) → ArePlain least xs → ArePlain least ys → ArePlain least (xs ++ ys)
joined least [] ys h k = k
joined least (x ∷ xs) ys h k = (h.0, joined least xs ys h.1 k)

-- what they leave
pub record Leaves (d e : List Deed) : Type 0 where
  pub generation : generation_in e ≡ generation_in d
  pub lines : record_of e (keys.Protect (largest_count + 1)) ≡ record_of d (keys.Protect (largest_count + 1))

module _ (d : List Deed) where
  one_leaves : (least : ℕ) (deed : Deed) → IsPlain least deed → Leaves d (deed ∷ d)
  one_leaves least (Count name value) h = absurd h
  one_leaves least (Guard lines) h = absurd h
  one_leaves least (Pend p) h = record { generation = refl; lines = refl }
  one_leaves least (Land l) h = record { generation = refl; lines = refl }
  one_leaves least (Drop n) h = record { generation = refl; lines = refl }
  one_leaves least (Spec kind name form) h = record { generation = refl; lines = refl }
  one_leaves least (Group name users) h = record { generation = refl; lines = refl }
  one_leaves least (Open o) h = record { generation = refl; lines = refl }
  one_leaves least (Shut held) h = record { generation = refl; lines = refl }
  one_leaves least (Hold held) h = record { generation = refl; lines = refl }
  one_leaves least (Free held) h = record { generation = refl; lines = refl }
  one_leaves least (Got held rev) h = record { generation = refl; lines = refl }
  one_leaves least (Tag label path rev) h = record { generation = refl; lines = refl }
  one_leaves least (Owe o) h = record { generation = refl; lines = refl }
  one_leaves least (Paid held from how) h = record { generation = refl; lines = refl }

pub all_leave : (least : ℕ) (d deeds : List Deed) → ArePlain least deeds → Leaves d (after d deeds)
all_leave least d [] h = record { generation = refl; lines = refl }
all_leave least d (deed ∷ deeds) h =
    let first = one_leaves d least deed h.0 in
    let rest = all_leave least (deed ∷ d) deeds h.1 in
    record { generation = rest.generation ∙ first.generation; lines = rest.lines ∙ first.lines }
