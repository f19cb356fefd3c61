-- The credits of an entry: the integration rows to its revision whose other row is there.
use Rattle.std.proofs.Common.{◌≡◌, ℕ, Bool, true, false, List, [], ◌∷◌, map, Some, inl, inr, refl, sym, ap, subst, ◌∙◌}
use Rattle.std.specs.Prelude.{◌&&◌, flat_map, is_some, IsSome}
use Rattle.std.proofs.lemmas.Bool.{and_parts}
use Rattle.depot_rows.specs.depot_path.Path.{printed, is_path}
use Rattle.depot_rows.specs.db_records.Record.{key_of}
use Rattle.depot_rows.specs.db_records.declared.key.Key.{Key}
use Rattle.depot_rows.specs.db_records.declared.key.Key.TheVariants as keys
use Rattle.depot_rows.specs.db_records.declared.record.Record.{Record}
use Rattle.depot_rows.specs.db_records.declared.record.Record.TheVariants as records
use Rattle.depot_rows.specs.db_records.declared.rows.IntegedRecord.{IntegedRecord}
use Rattle.depot_rows.specs.depot_model.Records.{is_at, into_word, pair_of}
use Rattle.depot_rows.specs.depot_model.Rules.{Rows}
use Rattle.depot_rows.specs.declared.deed.Credit.{Credit}
use Rattle.depot_rows.specs.declared.deed.How.{How}
use Rattle.depot_rows.specs.declared.deed.How.TheVariants.{CopyFrom, BranchFrom, DeleteFrom, Ignored, MovedFrom}
use Rattle.depot_rows.specs.Deed.{how_of, credit_of}
use Rattle.depot_rows.proofs.Entries.{In}
use Rattle.depot_rows.proofs.Keys.{at-self}
use Rattle.depot_facts.proofs.Listed.{flat_in, map_in}
use Rattle.depots_of_rows.specs.Telling.{Contents}
use Rattle.depots_of_rows.proofs.Given.{Given, row_keeps}
use Rattle.depots_of_rows.proofs.Revised.{some_is}
use Rattle.depots_of_rows.proofs.Words.{word_of_how, Spells, path_in}

-- a row at a key of integrations is the one that the key spells
abbrev pub integed_at : List ℕ → List ℕ → ℕ → ℕ → ℕ → ℕ → List ℕ → ℕ → IntegedRecord
integed_at to from a b x y how change =
    record { to_file = to; from_file = from; start_from = a; end_from = b; start_to = x; end_to = y; how = how; change = change }

pub integed_as : (r : Record) (to from : List ℕ) (a b x y : ℕ) (how : List ℕ) (change : ℕ) → key_of r ≡ keys.Integed to from a b x y how change
    → r ≡ records.Integed (integed_at to from a b x y how change)
integed_as (records.Integed r) to from a b x y how change k =
    let e0 : r.to_file ≡ to = cc in
    let e1 : r.from_file ≡ from = cc in
    let e2 : r.start_from ≡ a = cc in
    let e3 : r.end_from ≡ b = cc in
    let e4 : r.start_to ≡ x = cc in
    let e5 : r.end_to ≡ y = cc in
    let e6 : r.how ≡ how = cc in
    let e7 : r.change ≡ change = cc in
    λ i. records.Integed (integed_at (e0 i) (e1 i) (e2 i) (e3 i) (e4 i) (e5 i) (e6 i) (e7 i))
integed_as (records.Counter r) to from a b x y how change k = absurd cc
integed_as (records.Group r) to from a b x y how change k = absurd cc
integed_as (records.Protect r) to from a b x y how change k = absurd cc
integed_as (records.Domain r) to from a b x y how change k = absurd cc
integed_as (records.Have r) to from a b x y how change k = absurd cc
integed_as (records.Label r) to from a b x y how change k = absurd cc
integed_as (records.Resolve r) to from a b x y how change k = absurd cc
integed_as (records.Working r) to from a b x y how change k = absurd cc
integed_as (records.Change r) to from a b x y how change k = absurd cc
integed_as (records.Rev r) to from a b x y how change k = absurd cc

abbrev pub all_hows : List How
all_hows = CopyFrom ∷ BranchFrom ∷ DeleteFrom ∷ Ignored ∷ MovedFrom ∷ []

pub is_how : (how : How) → In all_hows how
is_how CopyFrom = inl refl
is_how BranchFrom = inr (inl refl)
is_how DeleteFrom = inr (inr (inl refl))
is_how Ignored = inr (inr (inr (inl refl)))
is_how MovedFrom = inr (inr (inr (inr (inl refl))))

-- what a key of integrations takes in
abbrev pub source_of : Key → List ℕ
source_of key = elim key [
  | keys.Integed to from a b x y how change ↦ from
  | _ ↦ []
]

abbrev pub first_of : Key → ℕ
first_of key = elim key [
  | keys.Integed to from a b x y how change ↦ a
  | _ ↦ 0
]

abbrev pub last_of : Key → ℕ
last_of key = elim key [
  | keys.Integed to from a b x y how change ↦ b
  | _ ↦ 0
]

module _ (rows : Rows) (contents : Contents) (g : Given rows contents) where
  pub integed_is : (to from : List ℕ) (a b x y : ℕ) (how : List ℕ) (change : ℕ) → IsSome (rows (keys.Integed to from a b x y how change))
      → rows (keys.Integed to from a b x y how change) ≡ Some (records.Integed (integed_at to from a b x y how change))
  integed_is to from a b x y how change h =
      let key : Key = keys.Integed to from a b x y how change in
      let r = some_is (rows key) h in
      r.1 ∙ ap (λ (y : Record). Some y) (integed_as r.0 to from a b x y how change (g.keyed key r.0 r.1))

  -- the credits of revision n of a path in change c
  module _ (c : ℕ) (path : List ℕ) (n : ℕ) where
    -- both rows of a credit
    abbrev pub one_key : List ℕ → ℕ → ℕ → How → Key
    one_key from a b how = keys.Integed (printed path) from a b n n (word_of_how how) c

    abbrev pub other_key : List ℕ → ℕ → ℕ → How → Key
    other_key from a b how = keys.Integed from (printed path) n n a b (into_word (how_of how)) c

    abbrev is_taken : Key × How → Bool
    is_taken k =
        is_at k.0 (one_key (source_of k.0) (first_of k.0) (last_of k.0) k.1)
        && (is_some (rows (one_key (source_of k.0) (first_of k.0) (last_of k.0) k.1))
        && is_some (rows (other_key (source_of k.0) (first_of k.0) (last_of k.0) k.1)))

    pub record IsGood (k : Credit) : Type 0 where
      pub from_path : is_path k.from ≡ true
      pub pair : (r : IntegedRecord) → In (pair_of c path n (credit_of k)) r → rows (key_of (records.Integed r)) ≡ Some (records.Integed r)

    pub record Takes (credits : List Credit) (from : List ℕ) (a b : ℕ) (how : How) : Type 0 where
      pub credit : Credit
      pub there : In credits credit
      pub from_is : printed credit.from ≡ from
      pub first_is : credit.first ≡ a
      pub last_is : credit.last ≡ b
      pub how_is : credit.how ≡ how

    pub record Credits (ks : List (Key × How)) : Type 0 where
      pub credits : List Credit
      pub good : (k : Credit) → In credits k → IsGood k
      pub all : (k : Key × How) → In ks k → is_taken k ≡ true → Takes credits (source_of k.0) (first_of k.0) (last_of k.0) k.1

    module _ (k : Key × How) (taken : is_taken k ≡ true) where
      abbrev from : List ℕ
      from = source_of k.0

      abbrev first : ℕ
      first = first_of k.0

      abbrev last : ℕ
      last = last_of k.0

      both_there : (is_some (rows (one_key from first last k.1)) && is_some (rows (other_key from first last k.1))) ≡ true
      both_there = (and_parts (is_at k.0 (one_key from first last k.1)) _ taken).1

      one_is : rows (one_key from first last k.1) ≡ Some (records.Integed (integed_at (printed path) from first last n n (word_of_how k.1) c))
      one_is = integed_is (printed path) from first last n n (word_of_how k.1) c (and_parts _ _ both_there).0

      other_is : rows (other_key from first last k.1) ≡ Some (records.Integed (integed_at from (printed path) n n first last (into_word (how_of k.1)) c))
      other_is = integed_is from (printed path) n n first last (into_word (how_of k.1)) c (and_parts (is_some (rows (one_key from first last k.1))) _ both_there).1

      spelled : Spells from
      spelled = path_in from (row_keeps rows g.keep (one_key from first last k.1) _ one_is).1

      abbrev credit : Credit
      credit = record { from = spelled.path; first = first; last = last; how = k.1 }

      is_good : IsGood credit
      is_good = record { from_path = spelled.is; pair = pair }
        where
          pair : (r : IntegedRecord) → In (pair_of c path n (credit_of credit)) r → rows (key_of (records.Integed r)) ≡ Some (records.Integed r)
          pair r (inl e) = subst (λ (x : IntegedRecord). rows (key_of (records.Integed x)) ≡ Some (records.Integed x)) e
              (subst (λ (t : List ℕ). rows (one_key t first last k.1) ≡ Some (records.Integed (integed_at (printed path) t first last n n (word_of_how k.1) c)))
              (sym spelled.text_is) one_is)
          pair r (inr (inl e)) = subst (λ (x : IntegedRecord). rows (key_of (records.Integed x)) ≡ Some (records.Integed x)) e
              (subst (λ (t : List ℕ). rows (other_key t first last k.1) ≡ Some (records.Integed (integed_at t (printed path) n n first last (into_word (how_of k.1)) c)))
              (sym spelled.text_is) other_is)
          pair r (inr (inr h)) = absurd h

      taken_more : (ks : List (Key × How)) → Credits ks → Credits (k ∷ ks)
      taken_more ks rest = record { credits = credit ∷ rest.credits; good = good; all = all }
        where
          good : (x : Credit) → In (credit ∷ rest.credits) x → IsGood x
          good x (inl e) = subst IsGood e is_good
          good x (inr h) = rest.good x h

          all : (y : Key × How) → In (k ∷ ks) y → is_taken y ≡ true → Takes (credit ∷ rest.credits) (source_of y.0) (first_of y.0) (last_of y.0) y.1
          all y (inl e) h = subst (λ (z : Key × How). Takes (credit ∷ rest.credits) (source_of z.0) (first_of z.0) (last_of z.0) z.1) e
              (record { credit = credit; there = inl refl; from_is = spelled.text_is; first_is = refl; last_is = refl; how_is = refl })
          all y (inr there) h =
              let t = rest.all y there h in
              record { credit = t.credit; there = inr t.there; from_is = t.from_is; first_is = t.first_is; last_is = t.last_is; how_is = t.how_is }

    left_out : (k : Key × How) (ks : List (Key × How)) → is_taken k ≡ false → Credits ks → Credits (k ∷ ks)
    left_out k ks none rest = record { credits = rest.credits; good = rest.good; all = all }
      where
        all : (y : Key × How) → In (k ∷ ks) y → is_taken y ≡ true → Takes rest.credits (source_of y.0) (first_of y.0) (last_of y.0) y.1
        all y (inl e) h = absurd (let f : true ≡ false = sym h ∙ ap is_taken (sym e) ∙ none in cc)
        all y (inr there) h = rest.all y there h

    credits_in : (ks : List (Key × How)) → Credits ks
    credits_in [] = record { credits = []; good = λ k h. absurd h; all = λ k h e. absurd h }
    credits_in (k ∷ ks) = go (is_taken k) refl (credits_in ks)
      where
        go : (x : Bool) → is_taken k ≡ x → Credits ks → Credits (k ∷ ks)
        go true e rest = taken_more k e ks rest
        go false e rest = left_out k ks e rest

    -- ---- of all keys

    pub record AllCredits : Type 0 where
      pub credits : List Credit
      pub good : (k : Credit) → In credits k → IsGood k
      pub all : (from : List ℕ) (a b : ℕ) (how : How) → IsSome (rows (one_key from a b how)) → IsSome (rows (other_key from a b how)) → Takes credits from a b how

    abbrev with_hows : Key → List (Key × How)
    with_hows key = map (λ (how : How). let k : Key × How = (key, how) in k) all_hows

    pub all_credits : (ks : List Key) → ((q : Key) → IsSome (rows q) → In ks q) → AllCredits
    all_credits ks listed = record { credits = found.credits; good = found.good; all = all }
      where
        found : Credits (flat_map with_hows ks)
        found = credits_in (flat_map with_hows ks)

        all : (from : List ℕ) (a b : ℕ) (how : How) → IsSome (rows (one_key from a b how)) → IsSome (rows (other_key from a b how)) → Takes found.credits from a b how
        all from a b how one other =
            let key : Key = one_key from a b how in
            let k : Key × How = (key, how) in
            let there : In (flat_map with_hows ks) k =
            flat_in with_hows ks key k (listed key one) (map_in (λ (h : How). let y : Key × How = (key, h) in y) all_hows how (is_how how)) in
            found.all k there (λ i. at-self key key refl i && (one i && other i))
