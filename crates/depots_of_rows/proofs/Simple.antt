-- Rows that one deed puts: counters, users of groups, saved forms, have lists and labels.
use Rattle.std.proofs.Common.{◌≡◌, ◌≢◌, ◌≤◌, ℕ, Bool, true, false, List, ◌∷◌, Option, Some, None, refl, sym, ap, subst, ◌∙◌}
use Rattle.std.specs.Prelude.{◌&&◌, ◌||◌, codes, if◌then◌else◌, IfSome}
use Rattle.std.specs.Option.{option_or}
use Rattle.std.specs.List.{list_any}
use Rattle.std.proofs.lemmas.Bool.{and_parts}
use Rattle.depot_rows.specs.depot_path.Bytes.{same}
use Rattle.depot_rows.specs.depot_path.Path.{printed, is_path}
use Rattle.depot_rows.specs.spec_form.Form.{FormValue}
use Rattle.depot_rows.specs.spec_form.Printing.{printed_form}
use Rattle.depot_rows.specs.db_records.declared.key.Key.{Key}
use Rattle.depot_rows.specs.db_records.declared.key.Key.TheVariants as keys
use Rattle.depot_rows.specs.db_records.declared.record.Record.{Record}
use Rattle.depot_rows.specs.depot_model.Deeds.{Deed, SpecKind, ClientForm, LabelForm, ShelfForm, JobForm, FixForm, Spec, Count, Group, Got, Tag, Held}
use Rattle.depot_rows.specs.depot_model.Latest.{kind_word, same_kind, spec, spec_said, latest, users, when}
use Rattle.depot_rows.specs.depot_model.Records.{record_of, numbered_record, kind_of}
use Rattle.depot_rows.specs.depot_model.Rules.{Rows, IsSpelled}
use Rattle.depot_rows.specs.Effects.{put_at, counter_row, group_row, form_row, have_row, label_row, grouped}
use Rattle.depot_rows.proofs.Keys.{same-is, same-self, put-is}
use Rattle.depot_rows.proofs.Counters.{count-met}
use Rattle.depot_rows.proofs.Lists.{got_met, tag_met, spec_met, group_met}
use Rattle.depots_of_rows.specs.Telling.{Contents}
use Rattle.depots_of_rows.proofs.Given.{or_at, put_only}
use Rattle.depots_of_rows.proofs.Side.{Side, Built, side_count, side_group, side_got, side_tag, one_path}
use Rattle.depots_of_rows.proofs.Words.{numbered_some}

kind_found : (kind : SpecKind) → kind_of (kind_word kind) ≡ Some kind
kind_found ClientForm = refl
kind_found LabelForm = refl
kind_found ShelfForm = refl
kind_found JobForm = refl
kind_found FixForm = refl

kind_is : (k l : SpecKind) → kind_word k ≡ kind_word l → k ≡ l
kind_is k l e = let h : Some k ≡ Some l = sym (kind_found k) ∙ ap kind_of e ∙ kind_found l in cc

-- a depot with a further row
abbrev pub Further : Rows → Contents → (Key → Bool) → Key → Type 0
Further rows contents test key = (e : List Deed) × Built rows contents (or_at key test) e

module _ (rows : Rows) (contents : Contents) (test : Key → Bool) (d : List Deed) (b : Built rows contents test d) where
  put_one : (key : Key) (there : Option Record) (e : List Deed) → rows key ≡ there → ((q : Key) → record_of e q ≡ put_at key there (record_of d) q)
      → Side contents e → Further rows contents test key
  put_one key there e is met side = (
    e,
    record {
      rows_are = λ q. met q ∙ ap (λ (o : Option Record). put_at key o (record_of d) q) (sym is) ∙ put_only rows test key (record_of d) q (b.rows_are q);
      side = side;
    },
  )

  pub count_one : (name : List ℕ) (value : ℕ) → same name (codes "change") ≡ false → rows (keys.Counter name) ≡ Some (counter_row name value) → Further rows contents test (keys.Counter name)
  count_one name value free is =
      let key : Key = keys.Counter name in
      let there : Option Record = Some (counter_row name value) in
      put_one key there (Count name (Some value) ∷ d) is
      (λ q. count-met name (Some value) d q ∙ ap (λ (x : Bool). if x then record_of d q else put_at key there (record_of d) q) free)
      (side_count contents d b.side name (Some value))

  -- ---- groups

  module _ (group user : List ℕ) where
    abbrev added : List (List ℕ)
    added = user ∷ users d group

    abbrev group_key : Key
    group_key = keys.Group group user

    group_here : (q : Key) → group_key ≡ q → grouped group added (record_of d) q ≡ Some (group_row group user)
    group_here q one = ap (grouped group added (record_of d)) (sym one) ∙ rw (same-self group, same-self user) refl

    group_other : (q : Key) → group_key ≢ q → grouped group added (record_of d) q ≡ record_of d q
    group_other (keys.Group g u) apart = go (same group g) refl (same u user) refl
      where
        go : (x : Bool) → same group g ≡ x → (y : Bool) → same u user ≡ y
            → (if x then (if y || list_any (same u) (users d group) then Some (group_row g u) else None) else record_of d (keys.Group g u)) ≡ record_of d (keys.Group g u)
        go false e y f = refl
        go true e true f = absurd (apart (let one : group ≡ g = same-is group g e in let two : u ≡ user = same-is u user f in λ i. keys.Group (one i) (sym two i)))
        go true e false f = ap (λ (x : List ℕ). if list_any (same u) (users d x) then Some (group_row g u) else None) (same-is group g e)
    group_other _ apart = refl

    pub group_one : rows group_key ≡ Some (group_row group user) → Further rows contents test group_key
    group_one is =
        put_one group_key (Some (group_row group user)) (Group group added ∷ d) is
        (λ q. group_met group added d q
        ∙ put-is group_key (Some (group_row group user)) (record_of d) (grouped group added (record_of d)) q (group_here q) (group_other q))
        (side_group contents d b.side group added)

  -- ---- saved forms

  side_spec : (kind : SpecKind) (name : List ℕ) (form : FormValue) → IsSpelled kind form → Side contents (Spec kind name form ∷ d)
  side_spec kind name form spelled =
      let s = b.side in
      record { agree = s.agree; apart = s.apart; stay = s.stay; lines = s.lines; forms = forms; paths = s.paths; whole = s.whole; these = s.these }
    where
      forms : (k : SpecKind) (x : List ℕ) → IfSome (spec (Spec kind name form ∷ d) k x) (IsSpelled k)
      forms k x = go (same_kind kind k && same name x) refl
        where
          go : (y : Bool) → (same_kind kind k && same name x) ≡ y → IfSome (option_or (when y form) (latest (spec_said k x) d)) (IsSpelled k)
          go true e = subst (λ (l : SpecKind). IsSpelled l form) (kind_is kind k (same-is (kind_word kind) (kind_word k) (and_parts (same_kind kind k) (same name x) e).0)) spelled
          go false e = b.side.forms k x

  pub spec_one : (kind : SpecKind) (name : List ℕ) (form : FormValue) → IsSpelled kind form
      → rows (keys.Domain (kind_word kind) name) ≡ Some (form_row (kind_word kind) name (printed_form form)) → Further rows contents test (keys.Domain (kind_word kind) name)
  spec_one kind name form spelled is =
      put_one (keys.Domain (kind_word kind) name) (Some (form_row (kind_word kind) name (printed_form form))) (Spec kind name form ∷ d) is
      (spec_met kind name form d) (side_spec kind name form spelled)

  -- ---- have lists and labels

  pub have_one : (client path : List ℕ) (rev : ℕ) → is_path path ≡ true → 1 ≤ rev
      → rows (keys.Have client (printed path)) ≡ Some (have_row client (printed path) rev) → Further rows contents test (keys.Have client (printed path))
  have_one client path rev is some there =
      let held : Held = record { client = client; path = path } in
      put_one (keys.Have client (printed path)) (numbered_record (have_row client (printed path)) rev) (Got held rev ∷ d)
      (there ∙ sym (numbered_some (have_row client (printed path)) rev some)) (got_met client path rev d is)
      (side_got contents d b.side held rev (one_path path is))

  pub label_one : (label path : List ℕ) (rev : ℕ) → is_path path ≡ true → 1 ≤ rev
      → rows (keys.Label label (printed path)) ≡ Some (label_row label (printed path) rev) → Further rows contents test (keys.Label label (printed path))
  label_one label path rev is some there =
      put_one (keys.Label label (printed path)) (numbered_record (label_row label (printed path)) rev) (Tag label path rev ∷ d)
      (there ∙ sym (numbered_some (label_row label (printed path)) rev some)) (tag_met label path rev d is)
      (side_tag contents d b.side label path rev (one_path path is))
