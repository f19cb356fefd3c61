-- Which revisions are credited to a file, in sound depots with the same rows: integration records tell it.
use Rattle.std.proofs.Common.{◌≡◌, ℕ, suc, Bool, true, false, List, Option, Some, None, refl, sym, ap, subst, ◌∙◌}
use Rattle.std.specs.Prelude.{◌&&◌, ◌||◌, nat_le, option_map}
use Rattle.std.specs.List.{list_any}
use Rattle.std.specs.Option.{option_map_or}
use Rattle.std.proofs.Math.Bool.{or-true}
use Rattle.depot_rows.specs.depot_path.Bytes.{same}
use Rattle.depot_rows.specs.depot_path.Path.{is_path}
use Rattle.depot_rows.specs.db_records.declared.rows.IntegedRecord.{IntegedRecord}
use Rattle.depot_rows.specs.depot_model.Deeds.{Deed, Credit}
use Rattle.depot_rows.specs.depot_model.Records.{integrations}
use Rattle.depot_rows.specs.depot_model.Revisions.{Revision, revisions, revision, credits_from, has_credit, credited}
use Rattle.depot_rows.proofs.Entries.{In}
use Rattle.depot_facts.specs.Contents.{seen}
use Rattle.depot_facts.proofs.Credits.{Tells, Written, one_number, tells, writes}
use Rattle.depot_facts.proofs.Listed.{any_of, one_of, place_of}
use Rattle.depot_facts.proofs.PathTexts.{one_path}
use Rattle.depot_facts.proofs.Revisions.{in_revision}
use Rattle.depots_alike.proofs.Integrations.{is_same, one_same, self_same, integrations_same}
use Rattle.depots_alike.proofs.Ordered.{has_by}
use Rattle.depots_alike.proofs.Revisions.{revision_same}
use Rattle.depots_alike.proofs.Twins.{Twins, turned}

-- what the other depot tells of a credit
record Answers (e : List Deed) (path : List ℕ) (r : Revision) (c : Credit) : Type 0 where
  made : Revision
  credit : Credit
  there : In (revisions e path) made
  listed : In (made.entry).credits credit
  from : credit.from ≡ c.from
  first : credit.first ≡ c.first
  last : credit.last ≡ c.last
  change : (made.landing).change ≡ (r.landing).change
  pathed : is_path path ≡ true

module _ (d e : List Deed) (twins : Twins d e) where
  moved : (z : IntegedRecord) → In (integrations d) z → In (integrations e) z
  moved z h =
      let there : has_by is_same (integrations e) z ≡ true = sym (integrations_same d e twins z) ∙ any_of (is_same z) (integrations d) z h (self_same z) in
      let found = one_of (is_same z) (integrations e) there in
      subst (λ (x : IntegedRecord). In (integrations e) x) (sym (one_same z found.0 found.2)) found.1

  answers : (path : List ℕ) (r : Revision) (c : Credit) → In (revisions d path) r → In (r.entry).credits c → Answers e path r c
  answers path r c h listed =
      let w : Written d path r c = writes d (twins.left).paths path r c h listed in
      let t : Tells e w.written = tells e (twins.right).paths w.written (moved w.written w.there) w.word in
      let at : t.path ≡ path = one_path t.path path (t.of).pathed (w.of).pathed (sym (t.of).to ∙ (w.of).to) in
      record {
        made = t.made;
        credit = t.credit;
        there = subst (λ (p : List ℕ). In (revisions e p) t.made) at t.there;
        listed = t.listed;
        from = one_path (t.credit).from c.from (t.of).from_pathed (w.of).from_pathed (sym (t.of).from ∙ (w.of).from);
        first = sym (t.of).first ∙ (w.of).first;
        last = sym (t.of).last ∙ (w.of).last;
        change = sym (t.of).change ∙ (w.of).change;
        pathed = (w.of).pathed;
      }

  -- a revision of s that takes in t from its credits
  taken_in : (s t : List ℕ) (n : ℕ) → list_any (has_credit (credits_from s n)) (revisions d t) ≡ true → list_any (has_credit (credits_from s n)) (revisions e t) ≡ true
  taken_in s t n h =
      let r = one_of (has_credit (credits_from s n)) (revisions d t) h in
      let c = one_of (credits_from s n) ((r.0).entry).credits r.2 in
      let a : Answers e t r.0 c.0 = answers t r.0 c.0 r.1 c.1 in
      let passes : credits_from s n a.credit ≡ true = (λ i. same (a.from i) s && nat_le (a.first i) n && nat_le n (a.last i)) ∙ c.2 in
      any_of (has_credit (credits_from s n)) (revisions e t) a.made a.there (any_of (credits_from s n) ((a.made).entry).credits a.credit a.listed passes)

module _ (d e : List Deed) (twins : Twins d e) where
  -- the revision of s has a credit from t
  gives : (s t : List ℕ) (n : ℕ) → option_map_or (has_credit (λ credit. same credit.from t)) (revision d s n) false ≡ true
      → option_map_or (has_credit (λ credit. same credit.from t)) (revision e s n) false ≡ true
  gives s t n h = go (revision d s n) refl (revision e s n) refl (revision_same d e twins s n) h
    where
      test : Credit → Bool
      test credit = same credit.from t

      go : (x : Option Revision) → revision d s n ≡ x → (y : Option Revision) → revision e s n ≡ y → option_map seen x ≡ option_map seen y
          → option_map_or (has_credit test) x false ≡ true → option_map_or (has_credit test) (revision e s n) false ≡ true
      go None k y l one h = absurd cc
      go (Some r) k None l one h = absurd cc
      go (Some r) k (Some b) l one h =
          let c = one_of test (r.entry).credits h in
          let a : Answers e s r c.0 = answers d e twins s r c.0 (in_revision d s n r k) c.1 in
          let place = place_of (revisions e s) a.made a.there in
          let changes : (b.landing).change ≡ (r.landing).change = sym (seen_change one) in
          let number : suc place.0 ≡ n = one_number e twins.right s a.pathed (suc place.0) n a.made b place.1 l (a.change ∙ sym changes) in
          let there : revision e s n ≡ Some a.made = ap (revision e s) (sym number) ∙ place.1 in
          ap (λ (o : Option Revision). option_map_or (has_credit test) o false) there
          ∙ any_of test ((a.made).entry).credits a.credit a.listed (ap (λ (x : List ℕ). same x t) a.from ∙ c.2)
        where
          seen_change : Some (seen r) ≡ Some (seen b) → (r.landing).change ≡ (b.landing).change
          seen_change f = ap (λ (o : Option Revision). option_map_or (λ (x : Revision). (x.landing).change) o 0) f

  one_way : (s t : List ℕ) (n : ℕ) → credited d s t n ≡ true → credited e s t n ≡ true
  one_way s t n h = go (list_any (has_credit (credits_from s n)) (revisions d t)) refl h
    where
      go : (b : Bool) → list_any (has_credit (credits_from s n)) (revisions d t) ≡ b
          → (b || option_map_or (has_credit (λ credit. same credit.from t)) (revision d s n) false) ≡ true → credited e s t n ≡ true
      go true k f = ap (λ b. b || option_map_or (has_credit (λ credit. same credit.from t)) (revision e s n) false) (taken_in d e twins s t n k)
      go false k f = ap (λ b. list_any (has_credit (credits_from s n)) (revisions e t) || b) (gives s t n f)
          ∙ or-true (list_any (has_credit (credits_from s n)) (revisions e t))

one_answer : (a b : Bool) → (a ≡ true → b ≡ true) → (b ≡ true → a ≡ true) → a ≡ b
one_answer true b f g = sym (f refl)
one_answer false true f g = g refl
one_answer false false f g = refl

pub credited_same : (d e : List Deed) → Twins d e → (s t : List ℕ) (n : ℕ) → credited d s t n ≡ credited e s t n
credited_same d e twins s t n = one_answer (credited d s t n) (credited e s t n) (one_way d e twins s t n) (one_way e d (turned d e twins) s t n)
