-- What deeds do to rows is what they do to depots.
use Rattle.std.proofs.Common.{◌≡◌, ℕ, Bool, true, false, List, [], ◌∷◌, Some, None, refl, sym, ap, subst, ◌∙◌}
use Rattle.std.specs.Prelude.{◌==◌, if◌then◌else◌, option_map, is_some, IsSome}
use Rattle.std.specs.Option.{option_or, option_flatten}
use Rattle.depot_model.specs.db_records.declared.key.Key.{Key}
use Rattle.depot_model.specs.db_records.declared.table.TableId.{TableId}
use Rattle.depot_model.specs.Deeds as model
use Rattle.depot_model.specs.Latest.{latest, when}
use Rattle.depot_model.specs.Numbers.{pending_said, landing}
use Rattle.depot_model.specs.Records.{record_of, unplaced}
use Rattle.depot_model.specs.Rules.{Rows, NotBoth}
use Rattle.depot_model.specs.Step.{after}
use Rattle.depot_rows.specs.declared.deed.Deed.{Deed}
use Rattle.depot_rows.specs.declared.deed.Deed.TheVariants.{Spec, Guard, Group, Count, Pend, Drop, Open, Shut, Hold, Free, Got, Tag, Owe, Paid, Land}
use Rattle.depot_rows.specs.Deed.{IsDeed, kind_of, pending_of}
use Rattle.depot_rows.specs.Effects.{effect, effects, May, Follow, AreRowsIn}
use Rattle.depot_rows.specs.Needs.{Needs}
use Rattle.depot_rows.proofs.Keys.{number-is}
use Rattle.depot_rows.proofs.Alike.{effect-alike}
use Rattle.depot_rows.proofs.Flat.{flat_row}
use Rattle.depot_rows.proofs.Counters.{count-met}
use Rattle.depot_rows.proofs.Lists.{got_met, tag_met, spec_met, group_met, guard_met}
use Rattle.depot_rows.proofs.Openings.{open_met, hold_met, free_met}
use Rattle.depot_rows.proofs.Resolves.{owe_met, pay_met, shut_met}
use Rattle.depot_rows.proofs.ChangeCounter.{pend_met, drop_met, not_landed}
use Rattle.depot_rows.proofs.Submitted.{land_met}

some-is : {A : Type 0} {x y : A} → Some x ≡ Some y → x ≡ y
some-is e = cc

-- the rows after a deed of the model that the deed is
abbrev IsMet : List model.Deed → Deed → model.Deed → Type 0
IsMet d done deed = (q : Key) → option_map unplaced (effect done (record_of d) q) ≡ record_of (deed ∷ d) q

as_told : (d : List model.Deed) (done : Deed) (told deed : model.Deed) → ((q : Key) → record_of (told ∷ d) q ≡ effect done (record_of d) q)
    → Some told ≡ Some deed → IsMet d done deed
as_told d done told deed met is q =
    ap (option_map unplaced) (sym (met q)) ∙ flat_row (told ∷ d) q ∙ ap (λ (x : model.Deed). record_of (x ∷ d) q) (some-is is)

pub met_by : (d : List model.Deed) (done : Deed) (deed : model.Deed) → IsDeed d done deed → Needs done d → IsMet d done deed
met_by d (Spec kind name form) deed is needs = as_told d (Spec kind name form) (model.Spec (kind_of kind) name form) deed (spec_met (kind_of kind) name form d) is
met_by d (Guard lines) deed is needs = as_told d (Guard lines) (model.Guard lines) deed (guard_met lines d) is
met_by d (Group name users) deed is needs = as_told d (Group name users) (model.Group name users) deed (group_met name users d) is
met_by d (Count name value) deed is needs = as_told d (Count name value) (model.Count name value) deed (count-met name value d) is
met_by d (Pend p) deed is needs = as_told d (Pend p) (model.Pend (pending_of p)) deed (pend_met (pending_of p) d) is
met_by d (Drop n) deed is needs = as_told d (Drop n) (model.Drop n) deed (drop_met n d needs) is
met_by d (Open o) deed is needs = as_told d (Open o) _ deed (open_met o d needs) is
met_by d (Shut held) deed is needs = as_told d (Shut held) _ deed (shut_met held d needs) is
met_by d (Hold held) deed is needs = as_told d (Hold held) _ deed (hold_met held d needs) is
met_by d (Free held) deed is needs = as_told d (Free held) _ deed (free_met held d needs) is
met_by d (Got held rev) deed is needs = as_told d (Got held rev) _ deed (got_met held.client held.path rev d needs) is
met_by d (Tag label path rev) deed is needs = as_told d (Tag label path rev) _ deed (tag_met label path rev d needs) is
met_by d (Owe o) deed is needs = as_told d (Owe o) _ deed (owe_met o d needs.0 needs.1) is
met_by d (Paid held from how) deed is needs = as_told d (Paid held from how) _ deed (pay_met held from how d needs.0 needs.1) is
met_by d (Land l) deed is needs = λ q. land_met d l is.0 is.2 needs q ∙ ap (λ (x : model.Deed). record_of (x ∷ d) q) is.1

-- a deed that may follow has what it needs
pub needed : (d : List model.Deed) (done : Deed) → NotBoth d → May done (record_of d) → Needs done d
needed d (Spec kind name form) apart may = tt
needed d (Guard lines) apart may = tt
needed d (Group name users) apart may = tt
needed d (Count name value) apart may = tt
needed d (Pend p) apart may = tt
needed d (Drop n) apart may = not_landed d n apart may
needed d (Open o) apart may = may
needed d (Shut held) apart may = may
needed d (Hold held) apart may = may.0
needed d (Free held) apart may = may
needed d (Got held rev) apart may = may
needed d (Tag label path rev) apart may = may
needed d (Owe o) apart may = may
needed d (Paid held from how) apart may = may
needed d (Land l) apart may = may

pub met : (d : List model.Deed) (done : Deed) (deed : model.Deed) → NotBoth d → IsDeed d done deed → May done (record_of d) → IsMet d done deed
met d done deed apart is may = met_by d done deed is (needed d done apart may)

pub rows_by : (table : TableId) (before : Rows) (d : List model.Deed) (done : Deed) (deed : model.Deed) → AreRowsIn before d table → IsDeed d done deed
    → Needs done d → AreRowsIn (effect done before) (deed ∷ d) table
rows_by table before d done deed are is needs q e =
    effect-alike table done before (record_of d) (λ x f. are x f ∙ sym (flat_row d x)) q e ∙ met_by d done deed is needs q

pub rows_after : (table : TableId) (before : Rows) (d : List model.Deed) (done : Deed) (deed : model.Deed) → AreRowsIn before d table → NotBoth d
    → IsDeed d done deed → May done (record_of d) → AreRowsIn (effect done before) (deed ∷ d) table
rows_after table before d done deed are apart is may q e =
    effect-alike table done before (record_of d) (λ x f. are x f ∙ sym (flat_row d x)) q e ∙ met d done deed apart is may q

-- ---- no number is pending and landed

abbrev Apart : List model.Deed → Type 0
Apart d = NotBoth d

pend_apart : (p : model.Pending) (d : List model.Deed) → Apart d → landing d p.change ≡ None → Apart (model.Pend p ∷ d)
pend_apart p d apart none n = go (p.change == n) refl
  where
    go : (b : Bool) → (p.change == n) ≡ b → IsSome (option_flatten (option_or (when b (Some p)) (latest (pending_said n) d))) → IsSome (landing d n) → ⊥
    go true e there landed = absurd (let one : landing d n ≡ None = ap (landing d) (sym (number-is p.change n e)) ∙ none in let two : false ≡ true = sym (ap is_some one) ∙ landed in cc)
    go false e there landed = apart n there landed

drop_apart : (m : ℕ) (d : List model.Deed) → Apart d → Apart (model.Drop m ∷ d)
drop_apart m d apart n = go (m == n)
  where
    go : (b : Bool) → IsSome (option_flatten (option_or (when b None) (latest (pending_said n) d))) → IsSome (landing d n) → ⊥
    go true there landed = absurd cc
    go false there landed = apart n there landed

land_apart : (l : model.Landing) (d : List model.Deed) → Apart d → Apart (model.Land l ∷ d)
land_apart l d apart n = go (l.change == n)
  where
    go : (b : Bool) → IsSome (option_flatten (option_or (when b None) (latest (pending_said n) d))) → IsSome (if b then Some l else landing d n) → ⊥
    go true there landed = absurd cc
    go false there landed = apart n there landed

told_apart : (d : List model.Deed) (told deed : model.Deed) → Apart (told ∷ d) → Some told ≡ Some deed → Apart (deed ∷ d)
told_apart d told deed apart is = let P : model.Deed → Type 0 = λ x. Apart (x ∷ d) in subst P (some-is is) apart

pub stays_apart : (d : List model.Deed) (done : Deed) (deed : model.Deed) → NotBoth d → IsDeed d done deed → May done (record_of d) → NotBoth (deed ∷ d)
stays_apart d (Spec kind name form) deed apart is may = told_apart d _ deed apart is
stays_apart d (Guard lines) deed apart is may = told_apart d _ deed apart is
stays_apart d (Group name users) deed apart is may = told_apart d _ deed apart is
stays_apart d (Count name value) deed apart is may = told_apart d _ deed apart is
stays_apart d (Pend p) deed apart is may = told_apart d _ deed (pend_apart (pending_of p) d apart (not_landed d p.change apart may)) is
stays_apart d (Drop n) deed apart is may = told_apart d _ deed (drop_apart n d apart) is
stays_apart d (Open o) deed apart is may = told_apart d _ deed apart is
stays_apart d (Shut held) deed apart is may = told_apart d _ deed apart is
stays_apart d (Hold held) deed apart is may = told_apart d _ deed apart is
stays_apart d (Free held) deed apart is may = told_apart d _ deed apart is
stays_apart d (Got held rev) deed apart is may = told_apart d _ deed apart is
stays_apart d (Tag label path rev) deed apart is may = told_apart d _ deed apart is
stays_apart d (Owe o) deed apart is may = told_apart d _ deed apart is
stays_apart d (Paid held from how) deed apart is may = told_apart d _ deed apart is
stays_apart d (Land l) deed apart is may = let P : model.Deed → Type 0 = λ x. Apart (x ∷ d) in subst P is.1 (land_apart is.0 d apart)

-- ---- deeds one after another

pub rows_after_all : (table : TableId) (before : Rows) (d : List model.Deed) (dones : List Deed) (deeds : List model.Deed) → AreRowsIn before d table → NotBoth d
    → Follow d dones deeds → AreRowsIn (effects dones before) (after d deeds) table
rows_after_all table before d [] [] are apart follow = are
rows_after_all table before d [] (deed ∷ deeds) are apart follow = absurd follow
rows_after_all table before d (done ∷ dones) [] are apart follow = absurd follow
rows_after_all table before d (done ∷ dones) (deed ∷ deeds) are apart follow =
    rows_after_all table (effect done before) (deed ∷ d) dones deeds (rows_after table before d done deed are apart follow.0 follow.1)
    (stays_apart d done deed apart follow.0 follow.1) follow.2

pub all_apart : (d : List model.Deed) (dones : List Deed) (deeds : List model.Deed) → NotBoth d → Follow d dones deeds → NotBoth (after d deeds)
all_apart d [] [] apart follow = apart
all_apart d [] (deed ∷ deeds) apart follow = absurd follow
all_apart d (done ∷ dones) [] apart follow = absurd follow
all_apart d (done ∷ dones) (deed ∷ deeds) apart follow =
    all_apart (deed ∷ d) dones deeds (stays_apart d done deed apart follow.0 follow.1) follow.2
