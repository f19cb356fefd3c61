-- Have lists, labels, saved forms, groups and the protections table after a deed that speaks of them.
use Rattle.std.proofs.Common.{◌≡◌, ◌≢◌, ℕ, zero, suc, Bool, true, false, List, [], ◌∷◌, Option, Some, None, refl, sym, ap, ◌∙◌}
use Rattle.std.specs.Prelude.{◌&&◌, if◌then◌else◌, option_map, option_and_then, unwrap_or, find}
use Rattle.std.specs.Option.{option_or}
use Rattle.std.specs.List.{list_any}
use Rattle.std.proofs.lemmas.Bool.{and_parts}
use Rattle.depot_model.specs.depot_path.Bytes.{same}
use Rattle.depot_model.specs.depot_path.Path.{printed, is_path}
use Rattle.depot_model.specs.spec_form.Form.{FormValue}
use Rattle.depot_model.specs.spec_form.Printing.{printed_form}
use Rattle.depot_model.specs.db_records.declared.key.Key.{Key}
use Rattle.depot_model.specs.db_records.declared.key.Key.TheVariants as keys
use Rattle.depot_model.specs.db_records.declared.record.Record.{Record}
use Rattle.depot_model.specs.Deeds.{Deed, Spec, Guard, Group, Got, Tag, SpecKind, ClientForm, LabelForm, ShelfForm, JobForm, FixForm}
use Rattle.depot_model.specs.Latest.{latest, when, have_said, label_said, spec_said, group_said, kind_word, same_kind}
use Rattle.depot_model.specs.Records.{record_of, numbered_record, kind_of, kinds}
use Rattle.depot_rows.specs.Effects.{put_at, have_row, label_row, form_row, group_row, grouped, guarded}
use Rattle.depot_rows.proofs.Keys.{same-is, same-self, put-is}
use Rattle.depot_rows.proofs.Spelled.{at_path-here, at_path-alike}

-- ---- have lists

module _ (client path : List ℕ) (rev : ℕ) (d : List Deed) where
  abbrev got : Deed
  got = Got (record { client = client; path = path }) rev

  abbrev have_in : List ℕ → List ℕ → List ℕ → Option ℕ → Option Record
  have_in c text x said = numbered_record (have_row c text) (unwrap_or (option_or said (latest (have_said c x) d)) 0)

  got_here : is_path path ≡ true → record_of (got ∷ d) (keys.Have client (printed path)) ≡ numbered_record (have_row client (printed path)) rev
  got_here is = at_path-here path (λ x. have_in client (printed path) x (when (same client client && same path x) rev)) is
      ∙ rw (same-self client, same-self path) refl

  got_other : (q : Key) → keys.Have client (printed path) ≢ q → record_of (got ∷ d) q ≡ record_of d q
  got_other (keys.Have c text) apart = at_path-alike text (λ x. have_in c text x (when (same client c && same path x) rev)) (λ x. have_in c text x None)
      (λ x spelled. go x spelled (same client c && same path x) refl)
    where
      go : (x : List ℕ) → printed x ≡ text → (b : Bool) → (same client c && same path x) ≡ b → have_in c text x (when b rev) ≡ have_in c text x None
      go x spelled true e = absurd (apart (
          let one : client ≡ c = same-is client c (and_parts (same client c) (same path x) e).0 in
          let two : printed path ≡ text = ap printed (same-is path x (and_parts (same client c) (same path x) e).1) ∙ spelled in
          λ i. keys.Have (one i) (two i)))
      go x spelled false e = refl
  got_other _ apart = refl

  pub got_met : is_path path ≡ true → (q : Key) → record_of (got ∷ d) q
      ≡ put_at (keys.Have client (printed path)) (numbered_record (have_row client (printed path)) rev) (record_of d) q
  got_met is q = put-is (keys.Have client (printed path)) (numbered_record (have_row client (printed path)) rev) (record_of d) (record_of (got ∷ d)) q
      (λ one. ap (record_of (got ∷ d)) (sym one) ∙ got_here is) (got_other q)

-- ---- labels

module _ (label path : List ℕ) (rev : ℕ) (d : List Deed) where
  abbrev label_in : List ℕ → List ℕ → List ℕ → Option ℕ → Option Record
  label_in l text x said = numbered_record (label_row l text) (unwrap_or (option_or said (latest (label_said l x) d)) 0)

  tag_here : is_path path ≡ true → record_of (Tag label path rev ∷ d) (keys.Label label (printed path)) ≡ numbered_record (label_row label (printed path)) rev
  tag_here is = at_path-here path (λ x. label_in label (printed path) x (when (same label label && same path x) rev)) is
      ∙ rw (same-self label, same-self path) refl

  tag_other : (q : Key) → keys.Label label (printed path) ≢ q → record_of (Tag label path rev ∷ d) q ≡ record_of d q
  tag_other (keys.Label l text) apart = at_path-alike text (λ x. label_in l text x (when (same label l && same path x) rev)) (λ x. label_in l text x None)
      (λ x spelled. go x spelled (same label l && same path x) refl)
    where
      go : (x : List ℕ) → printed x ≡ text → (b : Bool) → (same label l && same path x) ≡ b → label_in l text x (when b rev) ≡ label_in l text x None
      go x spelled true e = absurd (apart (
          let one : label ≡ l = same-is label l (and_parts (same label l) (same path x) e).0 in
          let two : printed path ≡ text = ap printed (same-is path x (and_parts (same label l) (same path x) e).1) ∙ spelled in
          λ i. keys.Label (one i) (two i)))
      go x spelled false e = refl
  tag_other _ apart = refl

  pub tag_met : is_path path ≡ true → (q : Key) → record_of (Tag label path rev ∷ d) q
      ≡ put_at (keys.Label label (printed path)) (numbered_record (label_row label (printed path)) rev) (record_of d) q
  tag_met is q = put-is (keys.Label label (printed path)) (numbered_record (label_row label (printed path)) rev) (record_of d) (record_of (Tag label path rev ∷ d)) q
      (λ one. ap (record_of (Tag label path rev ∷ d)) (sym one) ∙ tag_here is) (tag_other q)

-- ---- saved forms

kind_found : (kind : SpecKind) → kind_of (kind_word kind) ≡ Some kind
kind_found ClientForm = refl
kind_found LabelForm = refl
kind_found ShelfForm = refl
kind_found JobForm = refl
kind_found FixForm = refl

kind_same : (kind : SpecKind) → same_kind kind kind ≡ true
kind_same kind = same-self (kind_word kind)

pub found_passes : {A : Type 0} (test : A → Bool) (xs : List A) (x : A) → find test xs ≡ Some x → test x ≡ true
found_passes test [] x e = absurd cc
found_passes test (y ∷ ys) x e = go (test y) refl e (found_passes test ys x)
  where
    go : (b : Bool) → test y ≡ b → (if b then Some y else find test ys) ≡ Some x → (find test ys ≡ Some x → test x ≡ true) → test x ≡ true
    go true h f later = let one : y ≡ x = cc in ap test (sym one) ∙ h
    go false h f later = later f

module _ (kind : SpecKind) (name : List ℕ) (form : FormValue) (d : List Deed) where
  abbrev key : Key
  key = keys.Domain (kind_word kind) name

  abbrev row : Option Record
  row = Some (form_row (kind_word kind) name (printed_form form))

  abbrev form_in : List ℕ → List ℕ → Option FormValue → Option Record
  form_in word x saved = option_map (λ text. form_row word x text) (option_map printed_form saved)

  abbrev saved : Bool → SpecKind → List ℕ → Option FormValue
  saved b k x = option_or (when b form) (latest (spec_said k x) d)

  spec_here : record_of (Spec kind name form ∷ d) key ≡ row
  spec_here =
      ap (λ (o : Option SpecKind). option_and_then (λ k. form_in (kind_word kind) name (saved (same_kind kind k && same name name) k name)) o) (kind_found kind)
      ∙ rw (kind_same kind, same-self name) refl

  spec_other : (q : Key) → key ≢ q → record_of (Spec kind name form ∷ d) q ≡ record_of d q
  spec_other (keys.Domain word x) apart = go (kind_of word) refl
    where
      go : (o : Option SpecKind) → kind_of word ≡ o
          → option_and_then (λ k. form_in word x (saved (same_kind kind k && same name x) k x)) o
          ≡ option_and_then (λ k. form_in word x (latest (spec_said k x) d)) o
      go None e = refl
      go (Some k) e = test (same_kind kind k && same name x) refl
        where
          test : (b : Bool) → (same_kind kind k && same name x) ≡ b → form_in word x (saved b k x) ≡ form_in word x (latest (spec_said k x) d)
          test true h = absurd (apart (
              let one : kind_word kind ≡ word =
              same-is (kind_word kind) (kind_word k) (and_parts (same_kind kind k) (same name x) h).0
              ∙ same-is (kind_word k) word (found_passes (λ y. same (kind_word y) word) kinds k e) in
              let two : name ≡ x = same-is name x (and_parts (same_kind kind k) (same name x) h).1 in
              λ i. keys.Domain (one i) (two i)))
          test false h = refl
  spec_other _ apart = refl

  pub spec_met : (q : Key) → record_of (Spec kind name form ∷ d) q ≡ put_at key row (record_of d) q
  spec_met q = put-is key row (record_of d) (record_of (Spec kind name form ∷ d)) q (λ one. ap (record_of (Spec kind name form ∷ d)) (sym one) ∙ spec_here) (spec_other q)

-- ---- groups and the protections table

abbrev pub user_row : List ℕ → List ℕ → List (List ℕ) → Option Record
user_row group user users = if list_any (same user) users then Some (group_row group user) else None

pub group_met : (group : List ℕ) (users : List (List ℕ)) (d : List Deed) (q : Key) → record_of (Group group users ∷ d) q ≡ grouped group users (record_of d) q
group_met group users d (keys.Group x user) = go (same group x)
  where
    go : (b : Bool) → user_row x user (unwrap_or (option_or (when b users) (latest (group_said x) d)) [])
        ≡ (if b then user_row x user users else user_row x user (unwrap_or (latest (group_said x) d) []))
    go true = refl
    go false = refl
group_met group users d _ = refl

pub guard_met : (lines : List (List ℕ)) (d : List Deed) (q : Key) → record_of (Guard lines ∷ d) q ≡ guarded lines (record_of d) q
guard_met lines d (keys.Protect zero) = refl
guard_met lines d (keys.Protect (suc n)) = refl
guard_met lines d _ = refl
