-- Owed and paid resolves after a deed that speaks of them.
use Rattle.std.proofs.Common.{◌≡◌, ◌≢◌, ℕ, Bool, true, false, List, ◌∷◌, Option, Some, None, refl, sym, ap, ◌∙◌}
use Rattle.std.specs.Prelude.{◌&&◌, if◌then◌else◌, option_map}
use Rattle.std.proofs.lemmas.Bool.{true≢false, and_parts}
use Rattle.depot_model.specs.depot_path.Bytes.{same}
use Rattle.depot_model.specs.depot_path.Path.{printed, is_path}
use Rattle.depot_model.specs.db_records.declared.key.Key.{Key}
use Rattle.depot_model.specs.db_records.declared.key.Key.TheVariants as keys
use Rattle.depot_model.specs.db_records.declared.record.Record.{Record}
use Rattle.depot_model.specs.Deeds.{Deed, Shut, Owe, Paid}
use Rattle.depot_model.specs.Opened.{owed, paid_by, Resolve}
use Rattle.depot_model.specs.Records.{record_of, resolve_record, at_path}
use Rattle.depot_model.specs.Rows.{how_word}
use Rattle.depot_rows.specs.declared.deed.Owing.{Owing}
use Rattle.depot_rows.specs.declared.deed.Held.{Held}
use Rattle.depot_rows.specs.declared.deed.How.{How}
use Rattle.depot_rows.specs.Deed.{owing_of, held_of, how_of}
use Rattle.depot_rows.specs.Effects.{put_at, changed_at, owed_key, owed_row, paid_key, with_how, ended}
use Rattle.depot_rows.proofs.Keys.{same-is, same-self, put-is}
use Rattle.depot_rows.proofs.Spelled.{at_path-here, at_path-alike, at_path-nothing}
use Rattle.depot_rows.proofs.Openings.{shut_working}

-- the row of a resolve of two paths
abbrev resolve_row : List Deed → List ℕ → List ℕ → List ℕ → Option Record
resolve_row d c p f = option_map resolve_record (owed d c p f)

resolve_here : (d : List Deed) (c p f : List ℕ) → is_path p ≡ true → is_path f ≡ true
    → record_of d (keys.Resolve c (printed p) (printed f)) ≡ resolve_row d c p f
resolve_here d c p f is from =
    at_path-here p (λ x. at_path (printed f) (λ y. resolve_row d c x y)) is ∙ at_path-here f (λ y. resolve_row d c p y) from

-- two depots have the same row where they say the same of its paths
resolve_alike : (d e : List Deed) (c text from : List ℕ)
    → ((x y : List ℕ) → printed x ≡ text → printed y ≡ from → resolve_row d c x y ≡ resolve_row e c x y)
    → record_of d (keys.Resolve c text from) ≡ record_of e (keys.Resolve c text from)
resolve_alike d e c text from alike =
    at_path-alike text (λ x. at_path from (λ y. resolve_row d c x y)) (λ x. at_path from (λ y. resolve_row e c x y))
    (λ x spelled. at_path-alike from (λ y. resolve_row d c x y) (λ y. resolve_row e c x y) (λ y source. alike x y spelled source))

pub three_true : (a b c : Bool) → (a && b && c) ≡ true → (a ≡ true) × (b ≡ true) × (c ≡ true)
three_true true true c e = (refl, refl, e)
three_true true false c e = absurd cc
three_true false b c e = absurd cc

-- a test of three texts that holds makes the keys one
one_key : (a b f c x y text from : List ℕ) → printed x ≡ text → printed y ≡ from → same a c ≡ true → same b x ≡ true → same f y ≡ true
    → keys.Resolve a (printed b) (printed f) ≡ keys.Resolve c text from
one_key a b f c x y text from spelled source h k l =
    let one : a ≡ c = same-is a c h in
    let two : printed b ≡ text = ap printed (same-is b x k) ∙ spelled in
    let three : printed f ≡ from = ap printed (same-is f y l) ∙ source in
    λ i. keys.Resolve (one i) (two i) (three i)

-- ---- a resolve is owed

module _ (o : Owing) (d : List Deed) where
  abbrev owe : List Deed
  owe = Owe (owing_of o) ∷ d

  abbrev owe_row : Bool → List ℕ → List ℕ → List ℕ → Option Record
  owe_row b c x y = option_map resolve_record (if b then Some (record { owing = owing_of o; how = None }) else owed d c x y)

  owe_here : is_path o.path ≡ true → is_path o.from ≡ true → record_of owe (owed_key o) ≡ Some (owed_row o)
  owe_here is from =
      resolve_here owe o.client o.path o.from is from
      ∙ go (same o.client o.client && same o.path o.path && same o.from o.from) (rw (same-self o.client, same-self o.path, same-self o.from) refl)
    where
      go : (b : Bool) → b ≡ true → owe_row b o.client o.path o.from ≡ Some (owed_row o)
      go true e = refl
      go false e = absurd cc

  owe_other : (q : Key) → owed_key o ≢ q → record_of owe q ≡ record_of d q
  owe_other (keys.Resolve c text from) apart =
      resolve_alike owe d c text from (λ x y spelled source. go x y spelled source (same o.client c && same o.path x && same o.from y) refl)
    where
      go : (x y : List ℕ) → printed x ≡ text → printed y ≡ from → (b : Bool) → (same o.client c && same o.path x && same o.from y) ≡ b
          → owe_row b c x y ≡ resolve_row d c x y
      go x y spelled source false e = refl
      go x y spelled source true e =
          let h = three_true (same o.client c) (same o.path x) (same o.from y) e in
          absurd (apart (one_key o.client o.path o.from c x y text from spelled source h.0 h.1 h.2))
  owe_other _ apart = refl

  pub owe_met : is_path o.path ≡ true → is_path o.from ≡ true → (q : Key) → record_of owe q ≡ put_at (owed_key o) (Some (owed_row o)) (record_of d) q
  owe_met is from q = put-is (owed_key o) (Some (owed_row o)) (record_of d) (record_of owe) q
      (λ one. ap (record_of owe) (sym one) ∙ owe_here is from) (owe_other q)

-- ---- a resolve is paid

module _ (held : Held) (f : List ℕ) (how : How) (d : List Deed) where
  abbrev pay : List Deed
  pay = Paid (held_of held) f (how_of how) ∷ d

  abbrev pay_row : Bool → List ℕ → List ℕ → List ℕ → Option Record
  pay_row b c x y = option_map resolve_record (if b then option_map (paid_by (how_of how)) (owed d c x y) else owed d c x y)

  paid_row : (o : Option Resolve) → option_map resolve_record (option_map (paid_by (how_of how)) o) ≡ option_map (with_how (how_word (how_of how))) (option_map resolve_record o)
  paid_row None = refl
  paid_row (Some r) = refl

  pay_here : is_path held.path ≡ true → is_path f ≡ true
      → record_of pay (paid_key held f) ≡ option_map (with_how (how_word (how_of how))) (record_of d (paid_key held f))
  pay_here is from =
      resolve_here pay held.client held.path f is from
      ∙ go ((same held.client held.client && same held.path held.path) && same f f) (rw (same-self held.client, same-self held.path, same-self f) refl)
      ∙ ap (option_map (with_how (how_word (how_of how)))) (sym (resolve_here d held.client held.path f is from))
    where
      go : (b : Bool) → b ≡ true → pay_row b held.client held.path f ≡ option_map (with_how (how_word (how_of how))) (resolve_row d held.client held.path f)
      go true e = paid_row (owed d held.client held.path f)
      go false e = absurd cc

  pay_other : (q : Key) → paid_key held f ≢ q → record_of pay q ≡ record_of d q
  pay_other (keys.Resolve c text from) apart =
      resolve_alike pay d c text from (λ x y spelled source. go x y spelled source (same held.client c) refl (same held.path x) refl (same f y) refl)
    where
      go : (x y : List ℕ) → printed x ≡ text → printed y ≡ from → (a : Bool) → same held.client c ≡ a → (b : Bool) → same held.path x ≡ b
          → (g : Bool) → same f y ≡ g → pay_row ((a && b) && g) c x y ≡ resolve_row d c x y
      go x y spelled source false h b k g l = refl
      go x y spelled source true h false k g l = refl
      go x y spelled source true h true k false l = refl
      go x y spelled source true h true k true l = absurd (apart (one_key held.client held.path f c x y text from spelled source h k l))
  pay_other _ apart = refl

  pub pay_met : is_path held.path ≡ true → is_path f ≡ true → (q : Key)
      → record_of pay q ≡ changed_at (paid_key held f) (with_how (how_word (how_of how))) (record_of d) q
  pay_met is from q =
      put-is (paid_key held f) (option_map (with_how (how_word (how_of how))) (record_of d (paid_key held f))) (record_of d) (record_of pay) q
      (λ one. ap (record_of pay) (sym one) ∙ pay_here is from) (pay_other q)

-- ---- a file is shut

module _ (held : Held) (d : List Deed) where
  abbrev shut : List Deed
  shut = Shut (held_of held) ∷ d

  abbrev left : Bool → List ℕ → List ℕ → List ℕ → Option Record
  left b c x y = option_map resolve_record (if b then None else owed d c x y)

  shut_resolve : is_path held.path ≡ true → (c text from : List ℕ)
      → record_of shut (keys.Resolve c text from) ≡ ended held (record_of d) (keys.Resolve c text from)
  shut_resolve is c text from = go (same held.client c && same (printed held.path) text) refl
    where
      gone : (b : Bool) → b ≡ true → (y : List ℕ) → left b c held.path y ≡ None
      gone true e y = refl
      gone false e y = absurd cc

      stays : (x y : List ℕ) (b : Bool) → b ≡ false → left b c x y ≡ resolve_row d c x y
      stays x y true e = absurd cc
      stays x y false e = refl

      other : (x : List ℕ) → printed x ≡ text → (same held.client c && same (printed held.path) text) ≡ false → (same held.client c && same held.path x) ≡ false
      other x spelled e = test (same held.client c && same held.path x) refl
        where
          test : (b : Bool) → (same held.client c && same held.path x) ≡ b → b ≡ false
          test false f = refl
          test true f = absurd (true≢false (
              let one : same held.client c ≡ true = (and_parts (same held.client c) (same held.path x) f).0 in
              let two : printed held.path ≡ text = ap printed (same-is held.path x (and_parts (same held.client c) (same held.path x) f).1) ∙ spelled in
              let three : same (printed held.path) text ≡ true = ap (same (printed held.path)) (sym two) ∙ same-self (printed held.path) in
              (λ i. (sym one i) && (sym three i)) ∙ e))

      go : (b : Bool) → (same held.client c && same (printed held.path) text) ≡ b
          → record_of shut (keys.Resolve c text from) ≡ (if b then None else record_of d (keys.Resolve c text from))
      go true e =
          let one : same held.client c ≡ true = (and_parts (same held.client c) (same (printed held.path) text) e).0 in
          let two : printed held.path ≡ text = same-is (printed held.path) text (and_parts (same held.client c) (same (printed held.path) text) e).1 in
          ap (λ (t : List ℕ). record_of shut (keys.Resolve c t from)) (sym two)
          ∙ at_path-here held.path (λ x. at_path from (λ y. resolve_row shut c x y)) is
          ∙ at_path-alike from (λ y. resolve_row shut c held.path y) (λ y. None)
          (λ y source. gone (same held.client c && same held.path held.path) (rw (one, same-self held.path) refl) y)
          ∙ at_path-nothing from
      go false e = resolve_alike shut d c text from (λ x y spelled source. stays x y (same held.client c && same held.path x) (other x spelled e))

  pub shut_met : is_path held.path ≡ true → (q : Key) → record_of shut q ≡ ended held (record_of d) q
  shut_met is (keys.Working text c) = shut_working held d is text c
  shut_met is (keys.Resolve c text from) = shut_resolve is c text from
  shut_met is _ = refl
