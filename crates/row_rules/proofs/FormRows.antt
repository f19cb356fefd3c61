-- The tests of forms decide the rules of each form.
use Rattle.std.proofs.Common.{◌≡◌, ◌⊎◌, ◌≤◌, ℕ, Bool, true, false, List, [], ◌∷◌, Option, Some, None, Result, Ok, Err, inl, inr, refl, sym, ◌∙◌}
use Rattle.std.specs.Prelude.{◌&&◌, ◌||◌, ◌==◌, not, nat_le, nat_lt, length, IsTrue, IsFalse, IsSome, IsSomeAnd, is_some, is_ok, codes, if◌then◌else◌}
use Rattle.std.specs.Bool.{Decides}
use Rattle.std.specs.List.{list_all}
use Rattle.std.proofs.lemmas.Bool.{true≢false, and_parts}
use Rattle.std.proofs.lemmas.Bool.Decides.{Decides-and, Decides-or, Decides-like, Decides-eqb}
use Rattle.depot_rows.specs.depot_path.Bytes.{same}
use Rattle.depot_rows.specs.depot_path.Name.{is_name}
use Rattle.depot_rows.specs.depot_path.Digits.{number_of}
use Rattle.depot_rows.specs.spec_form.declared.fault.FormFault.{FormFault}
use Rattle.depot_rows.specs.spec_form.declared.shape.Shape.{Shape}
use Rattle.depot_rows.specs.spec_form.declared.shape.Shape.TheVariants.{Client as ClientShape, Label as LabelShape, Shelf as ShelfShape, Job as JobShape, Fix as FixShape}
use Rattle.depot_rows.specs.spec_form.Reading.{form_of}
use Rattle.depot_rows.specs.spec_form.Printing.{printed_form}
use Rattle.depot_rows.specs.spec_form.Form.{lines_of, FormValue}
use Rattle.depot_rows.specs.view_map.Reading.{view_of}
use Rattle.depot_rows.specs.db_records.declared.key.Key.TheVariants as keys
use Rattle.depot_rows.specs.db_records.declared.record.Record.{Record}
use Rattle.depot_rows.specs.db_records.declared.record.Record.TheVariants.{Domain}
use Rattle.depot_rows.specs.db_records.declared.rows.DomainRecord.{DomainRecord}
use Rattle.depot_rows.specs.depot_model.Numerals.{is_numeral}
use Rattle.depot_rows.specs.depot_model.Values.{value_of as form_value, first_or_empty}
use Rattle.depot_rows.specs.depot_model.Rules.{Rows, IsRow, IsForm, IsShelf, IsJob, IsFix, HasRev, IsBase, IsLiveRow, IsPending, reads_as, lines_in, is_printed_path, is_one_of, is_job_name, is_content_text, top_in}
use Rattle.depot_rows.specs.depot_model.Types.{is_printed_type}
use Rattle.row_rules.specs.Tests.{has_rev, with_form, is_client_text, is_label_text, is_job_text, is_fix_text, is_shelf_text, is_client_form, is_label_form, is_job_form, is_fix_form, is_shelf_form, is_kept_form, is_form, job_words, fix_words, shelf_words, shelf_action_words, spaced, is_numeral_up_to, has_field, field_number, has_small_rev, is_live_row, has_its_source, has_its_fields, has_its_content, has_its_numbers, is_pending}
use Rattle.row_rules.proofs.Deciding.{itself, same_decides, le_decides, never, implies, all3, all4, all5, all6, all9}
use Rattle.row_rules.proofs.Rows.{pending_decides}

-- ---- a form that a text reads as

-- facts of the lines of a form, in the words of the rules
abbrev LinesOf : Type 1
LinesOf = (List ℕ → List (List ℕ)) → Type 0

module _ (shape : Shape) (text : List ℕ) (test : FormValue → Bool) (P : LinesOf) (decides : (form : FormValue) → Decides (test form) (P (lines_of form))) where
  abbrev read_lines : Result FormValue FormFault → List ℕ → List (List ℕ)
  read_lines read field = elim read [ Err fault ↦ [] | Ok form ↦ lines_of form field ]

  abbrev read_test : Result FormValue FormFault → Bool
  read_test read = elim (elim read as (λ _. Option FormValue) [ Err fault ↦ None | Ok form ↦ if same (printed_form form) text then Some form else None ]) [ None ↦ false | Some form ↦ test form ]

  abbrev reads : Result FormValue FormFault → Bool
  reads read = elim read [ Err fault ↦ false | Ok form ↦ same (printed_form form) text ]

  by_form : (form : FormValue) (b : Bool) → Decides (elim (if b then Some form else None) as (λ _. Bool) [ None ↦ false | Some f ↦ test f ]) (IsTrue b × P (lines_of form))
  by_form form true = (λ e. (refl, (decides form).0 e), λ h. (decides form).1 h.1)
  by_form form false = (λ e. absurd cc, λ h. h.0)

  by_read : (read : Result FormValue FormFault) → Decides (read_test read) (IsTrue (reads read) × P (read_lines read))
  by_read (Err fault) = (λ e. absurd cc, λ h. h.0)
  by_read (Ok form) = by_form form (same (printed_form form) text)

  pub form_decides : Decides (with_form shape text test) (IsTrue (reads_as shape text) × P (λ field. lines_in shape field text))
  form_decides = by_read (form_of shape text)

implies_same : {Q : Type 0} (a b : List ℕ) (y : Bool) → Decides y Q → Decides (not (same a b) || y) (a ≡ b → Q)
implies_same {Q} a b y d =
    Decides-like (not (same a b) || y) (λ h e. h ((same_decides a b).1 e)) (λ h e. h ((same_decides a b).0 e)) (implies (same a b) y d)

-- the value of a field by its lines
abbrev at_field : (List ℕ → List (List ℕ)) → List ℕ → List ℕ
at_field lines field = first_or_empty (lines field)

abbrev is_given : (List ℕ → List (List ℕ)) → List ℕ → Bool
is_given lines field = nat_lt 0 (length (lines field))

-- ---- clients, labels and jobs

client_decides : (name text : List ℕ) → Decides (is_client_text name text) (IsTrue (reads_as ClientShape text) × (IsTrue (is_name name) × IsTrue (is_ok (view_of name (lines_in ClientShape (codes "View") text)))))
unfolding is_client_text
client_decides name text =
    form_decides ClientShape text (is_client_form name) (λ lines. IsTrue (is_name name) × IsTrue (is_ok (view_of name (lines (codes "View")))))
    (λ form. Decides-and (is_name name) (is_ok (view_of name (lines_of form (codes "View")))) (itself (is_name name))
    (itself (is_ok (view_of name (lines_of form (codes "View"))))))

label_decides : (name text : List ℕ) → Decides (is_label_text name text) (IsTrue (reads_as LabelShape text) × IsTrue (is_name name))
unfolding is_label_text
label_decides name text =
    form_decides LabelShape text (is_label_form name) (λ lines. IsTrue (is_name name)) (λ form. itself (is_name name))

abbrev JobLines : List ℕ → LinesOf
JobLines name lines = (name ≡ at_field lines (codes "Job")) × IsTrue (is_job_name name) × IsTrue (is_one_of job_words (at_field lines (codes "Status")))

job_decides : (name text : List ℕ) → Decides (is_job_text name text) (IsJob name text)
unfolding is_job_text
job_decides name text =
    Decides-like (with_form JobShape text (is_job_form name))
    (λ h. record { reads = h.0; named = h.1.0; digits = h.1.1; status = h.1.2 })
    (λ h. (h.reads, (h.named, h.digits, h.status)))
    (form_decides JobShape text (is_job_form name) (JobLines name)
    (λ form. all3 (same name (form_value form (codes "Job"))) (is_job_name name) (is_one_of job_words (form_value form (codes "Status")))
    (same_decides name (form_value form (codes "Job"))) (itself (is_job_name name)) (itself (is_one_of job_words (form_value form (codes "Status"))))))

module _ (rows : Rows) where
  -- ---- fixes

  abbrev FixLines : List ℕ → LinesOf
  FixLines name lines =
      (name ≡ spaced (at_field lines (codes "Job")) (at_field lines (codes "Change")))
      × IsSome (rows (keys.Domain (codes "job") (at_field lines (codes "Job"))))
      × IsTrue (is_numeral_up_to (top_in rows) (at_field lines (codes "Change")))
      × IsTrue (is_one_of fix_words (at_field lines (codes "State")))
      × (at_field lines (codes "State") ≡ codes "on" → IsSome (rows (keys.Change (number_of (at_field lines (codes "Change"))))))

  fix_form_decides : (name : List ℕ) (form : FormValue) → Decides (is_fix_form rows name form) (FixLines name (lines_of form))
  fix_form_decides name form =
      let job = form_value form (codes "Job") in
      let change = form_value form (codes "Change") in
      let state = form_value form (codes "State") in
      all5 (same name (spaced job change)) (is_some (rows (keys.Domain (codes "job") job))) (is_numeral_up_to (top_in rows) change)
      (same_decides name (spaced job change)) (itself (is_some (rows (keys.Domain (codes "job") job)))) (itself (is_numeral_up_to (top_in rows) change))
      (is_one_of fix_words state) (itself (is_one_of fix_words state))
      (not (same state (codes "on")) || is_some (rows (keys.Change (number_of change))))
      (implies_same state (codes "on") (is_some (rows (keys.Change (number_of change)))) (itself (is_some (rows (keys.Change (number_of change))))))

  fix_decides : (name text : List ℕ) → Decides (is_fix_text rows name text) (IsFix rows name text)
  unfolding is_fix_text
  fix_decides name text =
      Decides-like (with_form FixShape text (is_fix_form rows name))
      (λ h. record { reads = h.0; named = h.1.0; job = h.1.1; change = h.1.2; state = h.1.3; there = h.1.4 })
      (λ h. (h.reads, (h.named, h.job, h.change, h.state, h.there)))
      (form_decides FixShape text (is_fix_form rows name) (FixLines name) (fix_form_decides name))

  -- ---- shelved files

  live_decides : (o : Option Record) → Decides (is_live_row o) (IsSomeAnd o IsLiveRow)
  live_decides None = never
  live_decides (Some r) = itself (is_live_row (Some r))

  false_decides : (b : Bool) → Decides (not b) (IsFalse b)
  false_decides true = (λ e. absurd cc, λ e. absurd cc)
  false_decides false = (λ e. refl, λ e. refl)

  module _ (small : (path : List ℕ) (n : ℕ) → HasRev rows path n → n ≤ 4294967295) where
    small_decides : (path : List ℕ) (n : ℕ) → Decides (has_small_rev rows path n) (HasRev rows path n)
    small_decides path n = (
      λ e. (and_parts (nat_le n 4294967295) (has_rev rows path n) e).1,
      λ h. (Decides-and (nat_le n 4294967295) (has_rev rows path n) (le_decides n 4294967295) (itself (has_rev rows path n))).1 (small path n h, h),
    )

    abbrev SourceLines : LinesOf
    SourceLines lines =
        (IsFalse (is_given lines (codes "From")) × IsFalse (is_given lines (codes "FromRev")))
        ⊎ (IsTrue (is_given lines (codes "From")) × IsTrue (is_given lines (codes "FromRev"))
        × HasRev rows (at_field lines (codes "From")) (number_of (at_field lines (codes "FromRev")))
        × (IsSomeAnd (rows (keys.Rev (at_field lines (codes "From")) (number_of (at_field lines (codes "FromRev"))))) IsLiveRow →
        IsFalse (is_given lines (codes "Content"))))

    source_decides : (form : FormValue) → Decides (has_its_source rows form) (SourceLines (lines_of form))
    source_decides form =
        let from = form_value form (codes "From") in
        let n = field_number form (codes "FromRev") in
        let live = is_live_row (rows (keys.Rev from n)) in
        let a = has_field form (codes "From") in
        let b = has_field form (codes "FromRev") in
        let c = has_field form (codes "Content") in
        Decides-or (not a && not b) (a && b && has_small_rev rows from n && (not live || not c))
        (Decides-and (not a) (not b) (false_decides a) (false_decides b))
        (all4 a b (has_small_rev rows from n) (itself a) (itself b) (small_decides from n) (not live || not c)
        (Decides-like (not live || not c) (λ h l. h ((live_decides (rows (keys.Rev from n))).1 l)) (λ h l. h ((live_decides (rows (keys.Rev from n))).0 l))
        (implies live (not c) (false_decides c))))

    abbrev KeptLines : LinesOf
    KeptLines lines =
        IsSomeAnd (rows (keys.Change (number_of (at_field lines (codes "Change"))))) IsPending
        × IsTrue (list_all (is_given lines) (codes "Client" ∷ codes "User" ∷ codes "Action" ∷ codes "Type" ∷ codes "Base" ∷ []))
        × IsTrue (is_name (at_field lines (codes "Client")))
        × IsTrue (is_name (at_field lines (codes "User")))
        × IsTrue (is_one_of shelf_action_words (at_field lines (codes "Action")))
        × IsTrue (is_printed_type (at_field lines (codes "Type")))
        × IsBase rows (at_field lines (codes "Path")) (number_of (at_field lines (codes "Base")))
        × SourceLines lines
        × IsTrue (not (is_given lines (codes "Content")) || is_content_text (at_field lines (codes "Content")))

    kept_decides : (form : FormValue) → Decides (is_kept_form rows form) (KeptLines (lines_of form))
    kept_decides form =
        let change = rows (keys.Change (field_number form (codes "Change"))) in
        let path = form_value form (codes "Path") in
        let base = field_number form (codes "Base") in
        all9 (is_pending change) (has_its_fields form) (is_name (form_value form (codes "Client")))
        (pending_decides change) (itself (has_its_fields form)) (itself (is_name (form_value form (codes "Client"))))
        (is_name (form_value form (codes "User"))) (itself (is_name (form_value form (codes "User"))))
        (is_one_of shelf_action_words (form_value form (codes "Action"))) (itself (is_one_of shelf_action_words (form_value form (codes "Action"))))
        (is_printed_type (form_value form (codes "Type"))) (itself (is_printed_type (form_value form (codes "Type"))))
        ((base == 0) || has_small_rev rows path base)
        (Decides-or (base == 0) (has_small_rev rows path base) (Decides-eqb base 0) (small_decides path base))
        (has_its_source rows form) (source_decides form) (has_its_content form) (itself (has_its_content form))

    abbrev ShelfLines : List ℕ → LinesOf
    ShelfLines name lines =
        (name ≡ spaced (at_field lines (codes "Change")) (at_field lines (codes "Path")))
        × IsTrue (is_printed_path (at_field lines (codes "Path")))
        × IsTrue (list_all (λ field. not (is_given lines field) || is_numeral (at_field lines field)) (codes "Change" ∷ codes "Base" ∷ codes "FromRev" ∷ []))
        × IsTrue (is_numeral_up_to (top_in rows) (at_field lines (codes "Change")))
        × IsTrue (is_one_of shelf_words (at_field lines (codes "State")))
        × (at_field lines (codes "State") ≡ codes "kept" → KeptLines lines)

    shelf_form_decides : (name : List ℕ) (form : FormValue) → Decides (is_shelf_form rows name form) (ShelfLines name (lines_of form))
    shelf_form_decides name form =
        let change = form_value form (codes "Change") in
        let path = form_value form (codes "Path") in
        let state = form_value form (codes "State") in
        all6 (same name (spaced change path)) (is_printed_path path) (has_its_numbers form)
        (same_decides name (spaced change path)) (itself (is_printed_path path)) (itself (has_its_numbers form))
        (is_numeral_up_to (top_in rows) change) (itself (is_numeral_up_to (top_in rows) change))
        (is_one_of shelf_words state) (itself (is_one_of shelf_words state))
        (not (same state (codes "kept")) || is_kept_form rows form)
        (implies_same state (codes "kept") (is_kept_form rows form) (kept_decides form))

    shelf_decides : (name text : List ℕ) → Decides (is_shelf_text rows name text) (IsShelf rows name text)
    unfolding is_shelf_text
    shelf_decides name text =
        Decides-like (with_form ShelfShape text (is_shelf_form rows name))
        (λ h. record {
          reads = h.0;
          named = h.1.0;
          path = h.1.1;
          numbers = h.1.2;
          change = h.1.3;
          state = h.1.4;
          kept = λ e. let k = h.1.5 e in record {
            pending = k.0;
            whole = k.1;
            client = k.2;
            user = k.3;
            action = k.4;
            file_type = k.5;
            base = k.6;
            source = k.7;
            content = k.8;
          };
        })
        (λ h. (
          h.reads,
          (
            h.named,
            h.path,
            h.numbers,
            h.change,
            h.state,
            λ e. let k = h.kept e in (k.pending, k.whole, k.client, k.user, k.action, k.file_type, k.base, k.source, k.content),
          ),
        ))
        (form_decides ShelfShape text (is_shelf_form rows name) (ShelfLines name) (shelf_form_decides name))

    -- ---- all forms

    differ : (kind a b : List ℕ) → same a b ≡ false → kind ≡ a → kind ≡ b → ⊥
    differ kind a b apart e f = true≢false (sym ((same_decides a b).1 (sym e ∙ f)) ∙ apart)

    picked : {P R : Type 0} (kind word : List ℕ) (x rest : Bool) → Decides x P → Decides rest R → (R → kind ≡ word → ⊥)
        → Decides (if same kind word then x else rest) (((kind ≡ word) × P) ⊎ R)
    picked {P} {R} kind word x rest d k apart = go (same kind word) refl
      where
        go : (b : Bool) → same kind word ≡ b → Decides (if b then x else rest) (((kind ≡ word) × P) ⊎ R)
        go true e = (λ f. inl ((same_decides kind word).0 e, d.0 f), back)
          where
            back : ((kind ≡ word) × P) ⊎ R → x ≡ true
            back (inl h) = d.1 h.1
            back (inr r) = absurd (apart r ((same_decides kind word).0 e))
        go false e = (λ f. inr (k.0 f), back)
          where
            back : ((kind ≡ word) × P) ⊎ R → rest ≡ true
            back (inl h) = absurd (true≢false (sym ((same_decides kind word).1 h.0) ∙ e))
            back (inr r) = k.1 r

    module _ (r : DomainRecord) where
      abbrev Fixes : Type 0
      Fixes = ((r.kind ≡ codes "fix") × IsFix rows r.name r.form) ⊎ ⊥

      abbrev Jobs : Type 0
      Jobs = ((r.kind ≡ codes "job") × IsJob r.name r.form) ⊎ Fixes

      abbrev Shelves : Type 0
      Shelves = ((r.kind ≡ codes "shelf") × IsShelf rows r.name r.form) ⊎ Jobs

      abbrev Labels : Type 0
      Labels = ((r.kind ≡ codes "label") × (IsTrue (reads_as LabelShape r.form) × IsTrue (is_name r.name))) ⊎ Shelves

      abbrev Clients : Type 0
      Clients = ((r.kind ≡ codes "client") × (IsTrue (reads_as ClientShape r.form)
          × (IsTrue (is_name r.name) × IsTrue (is_ok (view_of r.name (lines_in ClientShape (codes "View") r.form)))))) ⊎ Labels

      not_job : Fixes → r.kind ≡ codes "job" → ⊥
      not_job (inl h) e = differ r.kind (codes "job") (codes "fix") refl e h.0
      not_job (inr h) e = h

      not_shelf : Jobs → r.kind ≡ codes "shelf" → ⊥
      not_shelf (inl h) e = differ r.kind (codes "shelf") (codes "job") refl e h.0
      not_shelf (inr (inl h)) e = differ r.kind (codes "shelf") (codes "fix") refl e h.0
      not_shelf (inr (inr h)) e = h

      not_label : Shelves → r.kind ≡ codes "label" → ⊥
      not_label (inl h) e = differ r.kind (codes "label") (codes "shelf") refl e h.0
      not_label (inr (inl h)) e = differ r.kind (codes "label") (codes "job") refl e h.0
      not_label (inr (inr (inl h))) e = differ r.kind (codes "label") (codes "fix") refl e h.0
      not_label (inr (inr (inr h))) e = h

      not_client : Labels → r.kind ≡ codes "client" → ⊥
      not_client (inl h) e = differ r.kind (codes "client") (codes "label") refl e h.0
      not_client (inr (inl h)) e = differ r.kind (codes "client") (codes "shelf") refl e h.0
      not_client (inr (inr (inl h))) e = differ r.kind (codes "client") (codes "job") refl e h.0
      not_client (inr (inr (inr (inl h)))) e = differ r.kind (codes "client") (codes "fix") refl e h.0
      not_client (inr (inr (inr (inr h)))) e = h

      abbrev fix_test : Bool
      fix_test = if same r.kind (codes "fix") then is_fix_text rows r.name r.form else false

      abbrev job_test : Bool
      job_test = if same r.kind (codes "job") then is_job_text r.name r.form else fix_test

      abbrev shelf_test : Bool
      shelf_test = if same r.kind (codes "shelf") then is_shelf_text rows r.name r.form else job_test

      abbrev label_test : Bool
      label_test = if same r.kind (codes "label") then is_label_text r.name r.form else shelf_test

      fixes : Decides fix_test Fixes
      fixes = picked r.kind (codes "fix") (is_fix_text rows r.name r.form) false (fix_decides r.name r.form) never (λ h e. h)

      jobs : Decides job_test Jobs
      jobs = picked r.kind (codes "job") (is_job_text r.name r.form) fix_test (job_decides r.name r.form) fixes not_job

      shelves : Decides shelf_test Shelves
      shelves = picked r.kind (codes "shelf") (is_shelf_text rows r.name r.form) job_test (shelf_decides r.name r.form) jobs not_shelf

      labels : Decides label_test Labels
      labels = picked r.kind (codes "label") (is_label_text r.name r.form) shelf_test (label_decides r.name r.form) shelves not_label

      clients : Decides (is_form rows r) Clients
      unfolding is_form
      clients = picked r.kind (codes "client") (is_client_text r.name r.form) label_test (client_decides r.name r.form) labels not_client

      told : Clients → IsForm rows r.kind r.name r.form
      told (inl h) = inl (h.0, h.1.1.0, h.1.0, h.1.1.1)
      told (inr (inl h)) = inr (inl (h.0, h.1.1, h.1.0))
      told (inr (inr (inl h))) = inr (inr (inl h))
      told (inr (inr (inr (inl h)))) = inr (inr (inr (inl h)))
      told (inr (inr (inr (inr (inl h))))) = inr (inr (inr (inr h)))
      told (inr (inr (inr (inr (inr h))))) = absurd h

      tells : IsForm rows r.kind r.name r.form → Clients
      tells (inl h) = inl (h.0, (h.2, (h.1, h.3)))
      tells (inr (inl h)) = inr (inl (h.0, (h.2, h.1)))
      tells (inr (inr (inl h))) = inr (inr (inl h))
      tells (inr (inr (inr (inl h)))) = inr (inr (inr (inl h)))
      tells (inr (inr (inr (inr h)))) = inr (inr (inr (inr (inl h))))

      pub form_row_decides : Decides (is_form rows r) (IsRow rows (Domain r))
      unfolding is_form
      form_row_decides = Decides-like (is_form rows r) told tells clients
