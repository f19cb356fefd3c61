-- The deeds by which the fixes of a change follow it keep a depot sound, and leave none with the number that is dropped.
use Rattle.std.proofs.Common.{◌≡◌, ◌≢◌, ◌⊎◌, ◌≤◌, ◌<◌, ◌^◌, ℕ, Bool, true, false, List, [], ◌∷◌, ◌++◌, length, Option, Some, None, inl, inr, refl, sym, ap, subst, ◌∙◌, arith}
use Rattle.std.specs.Prelude.{◌&&◌, ◌||◌, ◌==◌, IsTrue, IfSome, IsSome, option_map, flat_map, codes, decimal}
use Rattle.std.specs.List.{list_all, list_any}
use Rattle.std.specs.Option.{option_or}
use Rattle.std.proofs.lemmas.Option.{same_Some}
use Rattle.std.proofs.lemmas.Bool.{and_parts}
use Rattle.depot_rows.specs.depot_path.Bytes.{same}
use Rattle.depot_rows.specs.depot_path.Digits.{number_of}
use Rattle.depot_rows.specs.spec_form.Form.{FormValue, with_field, has_field}
use Rattle.depot_rows.specs.spec_form.Printing.{printed_form}
use Rattle.depot_rows.specs.spec_form.declared.shape.Shape.TheVariants.{Job as JobShape}
use Rattle.depot_rows.specs.db_records.declared.key.Key.TheVariants as keys
use Rattle.depot_rows.specs.db_records.declared.record.Record.{Record}
use Rattle.depot_rows.specs.db_records.declared.record.Record.TheVariants as records
use Rattle.depot_rows.specs.depot_model.Deeds.{Deed, Spec, JobForm, FixForm}
use Rattle.depot_rows.specs.depot_model.Fixes.{job, fix_name, fixed_job, is_on, has_fix, fixes_of, closed, closes, closing, renumbers_where}
use Rattle.depot_rows.specs.depot_model.Latest.{when, spec}
use Rattle.depot_rows.specs.depot_model.Numbers.{landing, top}
use Rattle.depot_rows.specs.depot_model.Numerals.{is_numeral}
use Rattle.depot_rows.specs.depot_model.Records.{record_of}
use Rattle.depot_rows.specs.depot_model.Rules.{IsSound, IsRow, IsForm, IsJob, IsOneOf, IsSpelled, value_in}
use Rattle.depot_rows.specs.depot_model.Step.{after}
use Rattle.depot_rows.specs.depot_model.Values.{value_of}
use Rattle.depot_rows.proofs.Entries.{In}
use Rattle.depot_rows.proofs.Keys.{same-is, same-self, number-self}
use Rattle.depot_facts.specs.Fields.{number_of_field}
use Rattle.sound_deeds.specs.Keeping.{FixKeeps, JobKeeps, FixesFit, HasNoFix}
use Rattle.depot_facts.proofs.Read.{spelled_reads, value_is}
use Rattle.sound_deeds.proofs.Whole.{one_sound}
use Rattle.depot_facts.proofs.Fields.{other_value, own_value, has_value, state_spelled, change_spelled, status_spelled}
use Rattle.depot_facts.proofs.Decimals.{numeral_is, numeral_digits, number_decimal, numeral_decimal, value_digits, decimal_digits, parts_is}
use Rattle.depot_facts.proofs.Fixes.{FixTells, fix_in, fix_tells, IsFixOf, fix_of, fixed}
use Rattle.depot_facts.proofs.Found.{spelled}
use Rattle.sound_landing.proofs.Ordered.{after_both}
use Rattle.sound_deeds.proofs.Ties.{fixes_fit}

-- a text of a list that isn't empty isn't empty
first_of : (words : List (List ℕ)) (text : List ℕ) → IsOneOf words text → (P : List ℕ → Type 0) → ((w : List ℕ) → In words w → P w) → P text
first_of [] text is P each = absurd (let no : false ≡ true = is in cc)
first_of (w ∷ words) text is P each = go (same text w) refl is (λ h. first_of words text h P (λ x k. each x (inr k)))
  where
    go : (b : Bool) → same text w ≡ b → (b || list_any (same text) words) ≡ true → (list_any (same text) words ≡ true → P text) → P text
    go true e h later = subst P (sym (same-is text w e)) (each w (inl refl))
    go false e h later = later h

digits_field : (name text : List ℕ) (form : FormValue) → value_of form name ≡ text → is_numeral text ≡ true → has_field name form.fields ≡ true
digits_field name [] form e numeral = absurd (let no : false ≡ true = numeral in cc)
digits_field name (b ∷ bs) form e numeral = has_value name form.fields b bs e

all_turn : (test other : List ℕ → Bool) (names : List (List ℕ)) → ((x : List ℕ) → test x ≡ true → other x ≡ true) → list_all test names ≡ true → list_all other names ≡ true
all_turn test other [] each all = refl
all_turn test other (x ∷ names) each all =
    let here = each x (and_parts (test x) (list_all test names) all).0 in
    let rest = all_turn test other names each (and_parts (test x) (list_all test names) all).1 in
    (λ i. here i && rest i)

module _ (d : List Deed) (sound : IsSound d) (n m : ℕ) (small : m ≤ 2147483647) (above : (n == m) ≡ false → top d < m) where
  wide : m < 2 ^ 64
  wide = omega arith

  number_m : number_of (decimal m) ≡ m
  number_m = number_decimal m wide

  -- the name of a fix that went over
  abbrev IsNewName : List ℕ → Type 0
  IsNewName name = ((n == m) ≡ false) × ((f : FormValue) × (In (fixes_of d n) f × (name ≡ fix_name (fixed_job f) m)))

  abbrev AreOldOrNew : List Deed → Type 0
  AreOldOrNew e = (name : List ℕ) (g : FormValue) → spec e FixForm name ≡ Some g → is_on g ≡ true → (spec d FixForm name ≡ Some g) ⊎ IsNewName name

  abbrev IsLeft : FormValue → Type 0
  IsLeft g = is_on g ≡ true → number_of_field g (codes "Change") ≢ n

  -- ---- no change gets too many

  module _ (e : List Deed) (names_are : AreOldOrNew e) where
    on_form : (k k' : ℕ) (x : List ℕ) → ((g : FormValue) → is_on g ≡ true → (spec d FixForm (fix_name x k) ≡ Some g) ⊎ IsNewName (fix_name x k) → has_fix d k' x ≡ true)
        → has_fix e k x ≡ true → has_fix d k' x ≡ true
    on_form k k' x each on = go (spec e FixForm (fix_name x k)) refl on
      where
        go : (o : Option FormValue) → spec e FixForm (fix_name x k) ≡ o → (elim o as (λ _. Bool) [ None ↦ false | Some g ↦ is_on g ]) ≡ true → has_fix d k' x ≡ true
        go None f h = absurd cc
        go (Some g) f h = each g h (names_are (fix_name x k) g f h)

    saved_on : (k : ℕ) (x : List ℕ) (g : FormValue) → spec d FixForm (fix_name x k) ≡ Some g → is_on g ≡ true → has_fix d k x ≡ true
    saved_on k x g f on = ap (λ (o : Option FormValue). elim o as (λ _. Bool) [ None ↦ false | Some y ↦ is_on y ]) f ∙ on

    fits : FixesFit e
    fits k names distinct all = go (n == m) refl (same (decimal k) (decimal m)) refl
      where
        old_alone : ((x : List ℕ) → IsNewName (fix_name x k) → ⊥) → length names ≤ 100
        old_alone none_new = fixes_fit d sound k names distinct (all_turn (has_fix e k) (has_fix d k) names one all)
          where
            one : (x : List ℕ) → has_fix e k x ≡ true → has_fix d k x ≡ true
            one x = on_form k k x (λ g on which. by g on which)
              where
                by : (g : FormValue) → is_on g ≡ true → (spec d FixForm (fix_name x k) ≡ Some g) ⊎ IsNewName (fix_name x k) → has_fix d k x ≡ true
                by g on (inl saved) = saved_on k x g saved on
                by g on (inr new) = absurd (none_new x new)

        same_number : (x : List ℕ) → IsNewName (fix_name x k) → (f : FormValue) × (In (fixes_of d n) f × ((x ≡ fixed_job f) × (decimal k ≡ decimal m)))
        same_number x new =
            let parts = parts_is x (fixed_job new.1.0) (decimal k) (decimal m) (decimal_digits k) (decimal_digits m) new.1.1.1 in
            (new.1.0, (new.1.1.0, (parts.0, parts.1)))

        new_alone : (n == m) ≡ false → decimal k ≡ decimal m → length names ≤ 100
        new_alone apart is = fixes_fit d sound n names distinct (all_turn (has_fix e k) (has_fix d n) names one all)
          where
            one : (x : List ℕ) → has_fix e k x ≡ true → has_fix d n x ≡ true
            one x = on_form k n x (λ g on which. by g on which)
              where
                by : (g : FormValue) → is_on g ≡ true → (spec d FixForm (fix_name x k) ≡ Some g) ⊎ IsNewName (fix_name x k) → has_fix d n x ≡ true
                by g on (inl saved) = absurd (
                    let tells = fix_tells d sound (fix_name x k) g saved in
                    let parts = parts_is x (value_of g (codes "Job")) (decimal k) (value_of g (codes "Change")) (decimal_digits k)
                    (numeral_digits (value_of g (codes "Change")) tells.numeral) tells.named in
                    let number : number_of_field g (codes "Change") ≡ m = ap number_of (sym parts.1 ∙ is) ∙ number_m in
                    let most = tells.fits in
                    let up = above apart in
                    omega (arith, number, most, up))
                by g on (inr new) =
                    let s = same_number x new in
                    subst (λ (y : List ℕ). has_fix d n y ≡ true) (sym s.1.1.0) (fixed d sound n s.0 s.1.0)

        go : (a : Bool) → (n == m) ≡ a → (b : Bool) → same (decimal k) (decimal m) ≡ b → length names ≤ 100
        go true f b g = old_alone (λ x new. let no : true ≡ false = sym f ∙ new.0 in cc)
        go false f true g = new_alone f (same-is (decimal k) (decimal m) g)
        go false f false g = old_alone (λ x new. let no : true ≡ false = sym (same-self (decimal k)) ∙ ap (same (decimal k)) (same_number x new).1.1.1 ∙ g in cc)

  -- ---- a depot on the way

  pub record IsOnWay (e : List Deed) (done : List FormValue) : Type 0 where
    pub sound_now : IsSound e
    pub top_now : m ≤ top e
    pub top_old : top d ≤ top e
    pub landed : IsSome (landing e m)
    pub jobs : (name : List ℕ) → IsSome (job d name) → IsSome (job e name)
    pub names_are : AreOldOrNew e
    pub left : (n == m) ≡ false → (name : List ℕ) (g : FormValue) → spec e FixForm name ≡ Some g → is_on g ≡ true → number_of_field g (codes "Change") ≡ n → spec d FixForm name ≡ Some g
    pub gone : (n == m) ≡ false → (f : FormValue) → In done f → IfSome (spec e FixForm (fix_name (fixed_job f) n)) IsLeft

  marked : (e : List Deed) (done : List FormValue) (f : FormValue) → IsOnWay e done → ((n == m) ≡ false → IfSome (spec e FixForm (fix_name (fixed_job f) n)) IsLeft) → IsOnWay e (f ∷ done)
  marked e done f way here = record {
    sound_now = way.sound_now;
    top_now = way.top_now;
    top_old = way.top_old;
    landed = way.landed;
    jobs = way.jobs;
    names_are = way.names_are;
    left = way.left;
    gone = λ apart g h. go apart g h;
  }
    where
      go : (n == m) ≡ false → (g : FormValue) → In (f ∷ done) g → IfSome (spec e FixForm (fix_name (fixed_job g) n)) IsLeft
      go apart g (inl is) = subst (λ (x : FormValue). IfSome (spec e FixForm (fix_name (fixed_job x) n)) IsLeft) is (here apart)
      go apart g (inr h) = way.gone apart g h

  -- a fix is saved
  module _ (e : List Deed) (done : List FormValue) (way : IsOnWay e done) (nm : List ℕ) (g : FormValue) (is : IsSpelled FixForm g) (keeps : FixKeeps e nm g)
      (tied : is_on g ≡ true → IsSome (landing e (number_of_field g (codes "Change")))) (new : is_on g ≡ true → IsNewName nm) (left : (n == m) ≡ false → IsLeft g) where
    abbrev next : List Deed
    next = Spec FixForm nm g ∷ e

    next_names : AreOldOrNew next
    next_names name x f on = go (same nm name) refl f
      where
        go : (b : Bool) → same nm name ≡ b → option_or (when b g) (spec e FixForm name) ≡ Some x → (spec d FixForm name ≡ Some x) ⊎ IsNewName name
        go true h k =
            let one : g ≡ x = same_Some _ _ k in
            inr (subst (λ (y : List ℕ). IsNewName y) (same-is nm name h) (new (ap is_on one ∙ on)))
        go false h k = way.names_are name x k on

    next_left : (n == m) ≡ false → (name : List ℕ) (x : FormValue) → spec next FixForm name ≡ Some x → is_on x ≡ true → number_of_field x (codes "Change") ≡ n → spec d FixForm name ≡ Some x
    next_left apart name x f on number = go (same nm name) f
      where
        go : (b : Bool) → option_or (when b g) (spec e FixForm name) ≡ Some x → spec d FixForm name ≡ Some x
        go true k =
            let one : g ≡ x = same_Some _ _ k in
            absurd (left apart (ap is_on one ∙ on) (ap (λ (y : FormValue). number_of_field y (codes "Change")) one ∙ number))
        go false k = way.left apart name x k on number

    next_gone : (n == m) ≡ false → (f : FormValue) → In done f → IfSome (spec next FixForm (fix_name (fixed_job f) n)) IsLeft
    next_gone apart f h = go (same nm (fix_name (fixed_job f) n)) (way.gone apart f h)
      where
        go : (b : Bool) → IfSome (spec e FixForm (fix_name (fixed_job f) n)) IsLeft → IfSome (option_or (when b g) (spec e FixForm (fix_name (fixed_job f) n))) IsLeft
        go true k = left apart
        go false k = k

    fix_saved : IsOnWay next done
    fix_saved = record {
      sound_now = one_sound e (Spec FixForm nm g) way.sound_now refl (is, keeps) ((λ on. inr (tied on)), fits next next_names);
      top_now = way.top_now;
      top_old = way.top_old;
      landed = way.landed;
      jobs = way.jobs;
      names_are = next_names;
      left = next_left;
      gone = next_gone;
    }

  -- a job is saved
  job_saved : (e : List Deed) (done : List FormValue) → IsOnWay e done → (nm : List ℕ) (g : FormValue) → IsSpelled JobForm g → JobKeeps nm g → IsOnWay (Spec JobForm nm g ∷ e) done
  job_saved e done way nm g is keeps = record {
    sound_now = one_sound e (Spec JobForm nm g) way.sound_now refl (is, keeps) tt;
    top_now = way.top_now;
    top_old = way.top_old;
    landed = way.landed;
    jobs = λ name there. go name (same nm name) (way.jobs name there);
    names_are = way.names_are;
    left = way.left;
    gone = way.gone;
  }
    where
      go : (name : List ℕ) (b : Bool) → IsSome (job e name) → IsSome (option_or (when b g) (job e name))
      go name true h = refl
      go name false h = h

  -- ---- one fix

  module _ (f : FormValue) (there : In (fixes_of d n) f) where
    of : IsFixOf d sound n f
    of = fix_of d sound n f there

    tells : FixTells d sound of.name f
    tells = fix_tells d sound of.name f of.saved

    f_spelled : IsSpelled FixForm f
    f_spelled = spelled d sound FixForm of.name f of.saved

    state_there : has_field (codes "State") f.fields ≡ true
    state_there = has_value (codes "State") f.fields 111 (110 ∷ []) (same-is (value_of f (codes "State")) (codes "on") of.on)

    change_there : has_field (codes "Change") f.fields ≡ true
    change_there = digits_field (codes "Change") (value_of f (codes "Change")) f refl tells.numeral

    -- the fix of the old number is turned off
    off : FormValue
    off = with_field (codes "State") (codes "off") f

    not_on : is_on (with_field (codes "State") (codes "off") f) ≡ false
    not_on = ap (λ (t : List ℕ). same t (codes "on")) (own_value (codes "State") (codes "off") f state_there)

    off_keeps : (e : List Deed) (done : List FormValue) → IsOnWay e done → FixKeeps e (fix_name (fixed_job f) n) (with_field (codes "State") (codes "off") f)
    off_keeps e done way = record {
      named = (λ i. sym job_same i ++ 0x20 ∷ sym change_same i);
      job = subst (λ (x : List ℕ). IsSome (job e x)) (sym job_same) (way.jobs (value_of f (codes "Job")) tells.job_there);
      change_is = ap is_numeral (other_value (codes "State") (codes "off") f (codes "Change") refl) ∙ tells.numeral;
      change_fits =
          let one : number_of_field (with_field (codes "State") (codes "off") f) (codes "Change") ≡ number_of_field f (codes "Change") = ap number_of (other_value (codes "State") (codes "off") f (codes "Change") refl) in
          let low = tells.fits in
          let up = way.top_old in
          omega (arith, one, low, up);
      state = subst (λ (x : List ℕ). IsOneOf (codes "on" ∷ codes "off" ∷ []) x) (sym (own_value (codes "State") (codes "off") f state_there)) refl;
    }
      where
        job_same : value_of (with_field (codes "State") (codes "off") f) (codes "Job") ≡ fixed_job f
        job_same = other_value (codes "State") (codes "off") f (codes "Job") refl

        change_same : value_of (with_field (codes "State") (codes "off") f) (codes "Change") ≡ decimal n
        change_same = other_value (codes "State") (codes "off") f (codes "Change") refl ∙ of.of_change

    turned_off : (e : List Deed) (done : List FormValue) → IsOnWay e done → IsOnWay (Spec FixForm (fix_name (fixed_job f) n) (with_field (codes "State") (codes "off") f) ∷ e) (f ∷ done)
    turned_off e done way =
        marked (Spec FixForm (fix_name (fixed_job f) n) (with_field (codes "State") (codes "off") f) ∷ e) done f
        (fix_saved e done way (fix_name (fixed_job f) n) (with_field (codes "State") (codes "off") f)
        (state_spelled f (codes "off") f_spelled state_there refl) (off_keeps e done way) (λ on. absurd (no on)) (λ on. absurd (no on)) (λ apart on. absurd (no on)))
        (λ apart. by (same (fix_name (fixed_job f) n) (fix_name (fixed_job f) n)) (same-self (fix_name (fixed_job f) n)))
      where
        no : is_on (with_field (codes "State") (codes "off") f) ≡ true → ⊥
        no on = let two : true ≡ false = sym on ∙ not_on in cc

        by : (b : Bool) → b ≡ true → IfSome (option_or (when b (with_field (codes "State") (codes "off") f)) (spec e FixForm (fix_name (fixed_job f) n))) IsLeft
        by true h = λ on. absurd (no on)
        by false h = absurd cc

    -- one of the new number is on
    went_over : (n == m) ≡ false → (e : List Deed) (done : List FormValue) → IsOnWay e done → IsOnWay (Spec FixForm (fix_name (fixed_job f) m) (with_field (codes "Change") (decimal m) f) ∷ e) done
    went_over apart e done way =
        fix_saved e done way (fix_name (fixed_job f) m) (with_field (codes "Change") (decimal m) f)
        (change_spelled f (decimal m) f_spelled change_there (value_digits (decimal m) (decimal_digits m))) keeps (λ on. landed_there) (λ on. (apart, (f, (there, refl)))) (λ no on number. differs number)
      where
        job_same : value_of (with_field (codes "Change") (decimal m) f) (codes "Job") ≡ fixed_job f
        job_same = other_value (codes "Change") (decimal m) f (codes "Job") refl

        state_same : value_of (with_field (codes "Change") (decimal m) f) (codes "State") ≡ value_of f (codes "State")
        state_same = other_value (codes "Change") (decimal m) f (codes "State") refl

        change_is_m : value_of (with_field (codes "Change") (decimal m) f) (codes "Change") ≡ decimal m
        change_is_m = own_value (codes "Change") (decimal m) f change_there

        number_is_m : number_of_field (with_field (codes "Change") (decimal m) f) (codes "Change") ≡ m
        number_is_m = ap number_of change_is_m ∙ number_m

        landed_there : IsSome (landing e (number_of_field (with_field (codes "Change") (decimal m) f) (codes "Change")))
        landed_there = subst (λ (k : ℕ). IsSome (landing e k)) (sym number_is_m) way.landed

        differs : number_of_field (with_field (codes "Change") (decimal m) f) (codes "Change") ≡ n → ⊥
        differs number = let no : true ≡ false = sym (number-self n) ∙ ap (λ (k : ℕ). n == k) (sym number ∙ number_is_m) ∙ apart in cc

        keeps : FixKeeps e (fix_name (fixed_job f) m) (with_field (codes "Change") (decimal m) f)
        keeps = record {
          named = (λ i. sym job_same i ++ 0x20 ∷ sym change_is_m i);
          job = subst (λ (x : List ℕ). IsSome (job e x)) (sym job_same) (way.jobs (value_of f (codes "Job")) tells.job_there);
          change_is = ap is_numeral change_is_m ∙ numeral_decimal m wide;
          change_fits = let up = way.top_now in let is = number_is_m in omega (arith, up, is);
          state = subst (λ (x : List ℕ). IsOneOf (codes "on" ∷ codes "off" ∷ []) x) (sym state_same) tells.state;
        }

    renumbered : (e : List Deed) (done : List FormValue) → IsOnWay e done → IsOnWay (after e (renumbers_where (n == m) n m f)) (f ∷ done)
    renumbered e done way = go (n == m) refl
      where
        go : (b : Bool) → (n == m) ≡ b → IsOnWay (after e (renumbers_where b n m f)) (f ∷ done)
        go true h = marked e done f way (λ apart. absurd (let no : true ≡ false = sym h ∙ apart in cc))
        go false h = went_over h (Spec FixForm (fix_name (fixed_job f) n) (with_field (codes "State") (codes "off") f) ∷ e) (f ∷ done) (turned_off e done way)

  -- ---- a job is closed

  module _ (nm : List ℕ) (h : FormValue) (saved : spec d JobForm nm ≡ Some h) where
    h_spelled : IsSpelled JobForm h
    h_spelled = subst (λ (o : Option FormValue). IfSome o (IsSpelled JobForm)) saved (sound.forms_read JobForm nm)

    h_value : (field : List ℕ) → value_in JobShape field (printed_form h) ≡ value_of h field
    h_value field = value_is JobShape h (spelled_reads JobForm h h_spelled) field

    h_rule : IsJob nm (printed_form h)
    h_rule = go (subst (λ (o : Option Record). IfSome o (IsRow (record_of d))) row (sound.rules.each (keys.Domain (codes "job") nm)))
      where
        row : record_of d (keys.Domain (codes "job") nm) ≡ Some (records.Domain (record { kind = codes "job"; name = nm; form = printed_form h }))
        row = ap (λ (o : Option FormValue). option_map (λ (t : List ℕ). records.Domain (record { kind = codes "job"; name = nm; form = t })) (option_map printed_form o)) saved

        go : IsForm (record_of d) (codes "job") nm (printed_form h) → IsJob nm (printed_form h)
        go (inl k) = absurd (let e = ap (same (codes "job")) k.0 in cc)
        go (inr (inl k)) = absurd (let e = ap (same (codes "job")) k.0 in cc)
        go (inr (inr (inl k))) = absurd (let e = ap (same (codes "job")) k.0 in cc)
        go (inr (inr (inr (inl k)))) = k.1
        go (inr (inr (inr (inr k)))) = absurd (let e = ap (same (codes "job")) k.0 in cc)

    status_there : has_field (codes "Status") h.fields ≡ true
    status_there = first_of (codes "open" ∷ codes "suspended" ∷ codes "closed" ∷ []) (value_of h (codes "Status")) one (λ t. value_of h (codes "Status") ≡ t → has_field (codes "Status") h.fields ≡ true) each refl
      where
        one : IsOneOf (codes "open" ∷ codes "suspended" ∷ codes "closed" ∷ []) (value_of h (codes "Status"))
        one = subst (λ (x : List ℕ). IsOneOf (codes "open" ∷ codes "suspended" ∷ codes "closed" ∷ []) x) (h_value (codes "Status")) h_rule.status

        word : (b : ℕ) (bs w : List ℕ) → b ∷ bs ≡ w → value_of h (codes "Status") ≡ w → has_field (codes "Status") h.fields ≡ true
        word b bs w e is = has_value (codes "Status") h.fields b bs (is ∙ sym e)

        each : (w : List ℕ) → In (codes "open" ∷ codes "suspended" ∷ codes "closed" ∷ []) w → value_of h (codes "Status") ≡ w → has_field (codes "Status") h.fields ≡ true
        each w (inl e) = word 111 (112 ∷ 101 ∷ 110 ∷ []) w e
        each w (inr (inl e)) = word 115 (117 ∷ 115 ∷ 112 ∷ 101 ∷ 110 ∷ 100 ∷ 101 ∷ 100 ∷ []) w e
        each w (inr (inr (inl e))) = word 99 (108 ∷ 111 ∷ 115 ∷ 101 ∷ 100 ∷ []) w e
        each w (inr (inr (inr k))) = absurd k

    closed_keeps : JobKeeps nm (closed h)
    closed_keeps = record {
      named = h_rule.named ∙ h_value (codes "Job") ∙ sym (other_value (codes "Status") (codes "closed") h (codes "Job") refl);
      digits = h_rule.digits;
      status = subst (λ (x : List ℕ). IsOneOf (codes "open" ∷ codes "suspended" ∷ codes "closed" ∷ []) x) (sym (own_value (codes "Status") (codes "closed") h status_there)) refl;
    }

    job_closed : (e : List Deed) (done : List FormValue) → IsOnWay e done → IsOnWay (Spec JobForm nm (closed h) ∷ e) done
    job_closed e done way = job_saved e done way nm (closed h) (status_spelled h (codes "closed") h_spelled status_there refl) closed_keeps

  closes_on_way : (nm : List ℕ) (e : List Deed) (done : List FormValue) → IsOnWay e done → IsOnWay (after e (closes d nm)) done
  closes_on_way nm e done way = go (job d nm) refl
    where
      go : (o : Option FormValue) → job d nm ≡ o → IsOnWay (after e (elim o as (λ _. List Deed) [ None ↦ [] | Some h ↦ Spec JobForm nm (closed h) ∷ [] ])) done
      go None is = way
      go (Some h) is = job_closed nm h is e done way

  -- ---- all fixes

  one_follows : (f : FormValue) → In (fixes_of d n) f → (e : List Deed) (done : List FormValue) → IsOnWay e done → IsOnWay (after e (closing d n m f)) (f ∷ done)
  one_follows f there e done way =
      subst (λ (x : List Deed). IsOnWay x (f ∷ done)) (sym (after_both e (renumbers_where (n == m) n m f) (closes d (fixed_job f))))
      (closes_on_way (fixed_job f) (after e (renumbers_where (n == m) n m f)) (f ∷ done) (renumbered f there e done way))

  record Followed (fs : List FormValue) (e : List Deed) (done : List FormValue) : Type 0 where
    pub all_done : List FormValue
    pub way : IsOnWay (after e (flat_map (closing d n m) fs)) all_done
    pub new_done : (f : FormValue) → In fs f → In all_done f
    pub old_done : (f : FormValue) → In done f → In all_done f

  all_follow : (fs : List FormValue) → ((f : FormValue) → In fs f → In (fixes_of d n) f) → (e : List Deed) (done : List FormValue) → IsOnWay e done → Followed fs e done
  all_follow [] each e done way = record { all_done = done; way = way; new_done = λ f h. absurd h; old_done = λ f h. h }
  all_follow (f ∷ fs) each e done way = go (all_follow fs (λ g h. each g (inr h)) (after e (closing d n m f)) (f ∷ done) (one_follows f (each f (inl refl)) e done way))
    where
      go : Followed fs (after e (closing d n m f)) (f ∷ done) → Followed (f ∷ fs) e done
      go rest = record {
        all_done = rest.all_done;
        way = subst (λ (x : List Deed). IsOnWay x rest.all_done) (sym (after_both e (closing d n m f) (flat_map (closing d n m) fs))) rest.way;
        new_done = new;
        old_done = λ g h. rest.old_done g (inr h);
      }
        where
          new : (g : FormValue) → In (f ∷ fs) g → In rest.all_done g
          new g (inl is) = rest.old_done g (inl is)
          new g (inr h) = rest.new_done g h

  -- what the deeds of all fixes leave
  pub record AllFollow (e : List Deed) : Type 0 where
    pub sound_then : IsSound (after e (flat_map (closing d n m) (fixes_of d n)))
    pub none_left : (n == m) ≡ false → HasNoFix (after e (flat_map (closing d n m) (fixes_of d n))) n

  pub fixes_follow : (e : List Deed) → IsOnWay e [] → AllFollow e
  fixes_follow e way = record { sound_then = (all.way).sound_now; none_left = none }
    where
      all : Followed (fixes_of d n) e []
      all = all_follow (fixes_of d n) (λ f h. h) e [] way

      last : List Deed
      last = after e (flat_map (closing d n m) (fixes_of d n))

      none : (n == m) ≡ false → HasNoFix last n
      none apart name = go (spec last FixForm name) refl
        where
          found : (g : FormValue) → spec last FixForm name ≡ Some g → is_on g ≡ true → number_of_field g (codes "Change") ≢ n
          found g f on number =
              let saved = (all.way).left apart name g f on number in
              let tells = fix_tells d sound name g saved in
              let change : value_of g (codes "Change") ≡ decimal n = numeral_is (value_of g (codes "Change")) tells.numeral ∙ ap decimal number in
              let of_change = ap (λ (t : List ℕ). same t (decimal n)) change ∙ same-self (decimal n) in
              let there = fix_in d n name g saved on of_change in
              let name_is : name ≡ fix_name (fixed_job g) n = tells.named ∙ ap (λ (t : List ℕ). fixed_job g ++ 0x20 ∷ t) change in
              let gone = (all.way).gone apart g (all.new_done g there) in
              subst (λ (o : Option FormValue). IfSome o IsLeft) (ap (spec last FixForm) (sym name_is) ∙ f) gone on number

          go : (o : Option FormValue) → spec last FixForm name ≡ o → IfSome o (λ form. IsTrue (is_on form) → number_of_field form (codes "Change") ≢ n)
          go None f = tt
          go (Some g) f = λ on number. found g f on number
