-- Rows that keep the rules keep them where they are cut to a filter.
use Rattle.std.proofs.Common.{◌≡◌, ◌≤◌, ◌<◌, ◌⊎◌, ℕ, suc, Bool, true, false, cond, List, [], Option, Some, None, inl, inr, refl, sym, ap, ◌∙◌, subst}
use Rattle.std.specs.Prelude.{◌&&◌, not, codes, nat_le, IfSome, IsSome, IsSomeAnd, is_some, option_map}
use Rattle.std.specs.List.{list_all}
use Rattle.std.proofs.lemmas.Bool.{true≢false, and_from, and_parts}
use Rattle.depot_rows.specs.depot_path.Bytes.{same}
use Rattle.depot_rows.specs.db_records.Record.{key_of}
use Rattle.depot_rows.specs.db_records.declared.key.Key.{Key}
use Rattle.depot_rows.specs.db_records.declared.key.Key.TheVariants as keys
use Rattle.depot_rows.specs.db_records.declared.record.Record.{Record}
use Rattle.depot_rows.specs.db_records.declared.record.Record.TheVariants as records
use Rattle.depot_rows.specs.db_records.declared.rows.IntegedRecord.{IntegedRecord}
use Rattle.depot_rows.specs.db_records.declared.rows.WorkingRecord.{WorkingRecord}
use Rattle.depot_rows.specs.spec_form.declared.shape.Shape.TheVariants.{Fix as FixShape}
use Rattle.depot_rows.specs.depot_model.Deeds.{How}
use Rattle.depot_rows.specs.depot_model.Numerals.{is_numeral}
use Rattle.depot_rows.specs.depot_model.Fixes.{fix_name}
use Rattle.depot_rows.specs.depot_model.Records.{into_word}
use Rattle.depot_rows.specs.depot_model.Rows.{how_word}
use Rattle.depot_rows.specs.depot_model.Rules.{Rows, KeepRules, IsRow, IsForm, IsFix, IsBase, IsSource, IsCredit, IsCredited, IsPaired, IsSubmitted, IsPendingOf, IsOpenIn, IsMadeIn, HasRev, HasRevs, top_in, number_in, value_in, value_of, change_of, lock_of, is_on_fix, has_fix}
use Rattle.depot_rows.specs.depot_model.declared.filter.FilterRule.{FilterRule}
use Rattle.depot_rows.specs.Cut.{is_text_inside, is_left, cut_row, cut_rows}
use Rattle.cut_depots.proofs.Keyed.{HasKey}

-- ---- what a cut row tells

module _ (rules : List FilterRule) where
  abbrev without : WorkingRecord → Bool → Record
  without r b = cond b (records.Working r) (records.Working (record r { source = []; source_rev = 0 }))

  -- of an opened file no more than its source is cut
  other_cut : {A : Type 0} (told : Record → A) → ((r : WorkingRecord) (b : Bool) → told (without r b) ≡ told (records.Working r)) → (r : Record)
      → told (cut_row rules r) ≡ told r
  other_cut told of (records.Working r) = of r (is_text_inside rules r.source)
  other_cut told of (records.Counter r) = refl
  other_cut told of (records.Group r) = refl
  other_cut told of (records.Protect r) = refl
  other_cut told of (records.Domain r) = refl
  other_cut told of (records.Have r) = refl
  other_cut told of (records.Label r) = refl
  other_cut told of (records.Integed r) = refl
  other_cut told of (records.Resolve r) = refl
  other_cut told of (records.Change r) = refl
  other_cut told of (records.Rev r) = refl

  other_of : {A : Type 0} (told : Option Record → A) → ((r : WorkingRecord) (b : Bool) → told (Some (without r b)) ≡ told (Some (records.Working r)))
      → (o : Option Record) → told (option_map (cut_row rules) o) ≡ told o
  other_of told of None = refl
  other_of told of (Some r) = other_cut (λ x. told (Some x)) of r

  value_cut : (o : Option Record) → value_of (option_map (cut_row rules) o) ≡ value_of o
  value_cut = other_of value_of of
    where
      of : (r : WorkingRecord) (b : Bool) → value_of (Some (without r b)) ≡ value_of (Some (records.Working r))
      of r true = refl
      of r false = refl

  change_cut : (o : Option Record) → change_of (option_map (cut_row rules) o) ≡ change_of o
  change_cut = other_of change_of of
    where
      of : (r : WorkingRecord) (b : Bool) → change_of (Some (without r b)) ≡ change_of (Some (records.Working r))
      of r true = refl
      of r false = refl

  lock_cut : (o : Option Record) → lock_of (option_map (cut_row rules) o) ≡ lock_of o
  lock_cut = other_of lock_of of
    where
      of : (r : WorkingRecord) (b : Bool) → lock_of (Some (without r b)) ≡ lock_of (Some (records.Working r))
      of r true = refl
      of r false = refl

  fix_cut : (o : Option Record) → is_on_fix (option_map (cut_row rules) o) ≡ is_on_fix o
  fix_cut = other_of is_on_fix of
    where
      of : (r : WorkingRecord) (b : Bool) → is_on_fix (Some (without r b)) ≡ is_on_fix (Some (records.Working r))
      of r true = refl
      of r false = refl

  some_cut : (o : Option Record) → is_some (option_map (cut_row rules) o) ≡ is_some o
  some_cut None = refl
  some_cut (Some r) = refl

  -- what holds of no opened file
  still : (P : Record → Type 0) → ((r : WorkingRecord) → P (records.Working r) → ⊥) → (o : Option Record) → IsSomeAnd o P → IsSomeAnd (option_map (cut_row rules) o) P
  still P apart None h = h
  still P apart (Some r) h = of r h
    where
      of : (r : Record) → P r → P (cut_row rules r)
      of (records.Working r) k = absurd (apart r k)
      of (records.Counter r) k = k
      of (records.Group r) k = k
      of (records.Protect r) k = k
      of (records.Domain r) k = k
      of (records.Have r) k = k
      of (records.Label r) k = k
      of (records.Integed r) k = k
      of (records.Resolve r) k = k
      of (records.Change r) k = k
      of (records.Rev r) k = k

-- ---- the rules

module _ (rules : List FilterRule) (before after : Rows) (cuts : (q : Key) → after q ≡ cut_rows rules before q) where
  kept : (q : Key) → is_left rules q ≡ true → after q ≡ option_map (cut_row rules) (before q)
  kept q left = cuts q ∙ ap (λ (b : Bool). cond b (option_map (cut_row rules) (before q)) None) left

  there : (q : Key) → is_left rules q ≡ true → IsSome (before q) → IsSome (after q)
  there q left some = ap is_some (kept q left) ∙ some_cut rules (before q) ∙ some

  -- what is there was there and is left
  was : (q : Key) → IsSome (after q) → (is_left rules q ≡ true) × IsSome (before q)
  was q some = go (is_left rules q) refl (sym (ap is_some (cuts q)) ∙ some)
    where
      go : (b : Bool) → is_left rules q ≡ b → is_some (cond b (option_map (cut_row rules) (before q)) None) ≡ true → (is_left rules q ≡ true) × IsSome (before q)
      go true left h = (left, sym (some_cut rules (before q)) ∙ h)
      go false left h = absurd (true≢false (sym h))

  same_top : top_in after ≡ top_in before
  same_top = ap value_of (kept (keys.Counter (codes "change")) refl) ∙ value_cut rules (before (keys.Counter (codes "change")))

  -- ---- what rows speak of

  submitted_there : (n : ℕ) → IsSomeAnd (before (keys.Change n)) IsSubmitted → IsSomeAnd (after (keys.Change n)) IsSubmitted
  submitted_there n h = subst (λ (o : Option Record). IsSomeAnd o IsSubmitted) (sym (kept (keys.Change n) refl)) (still rules IsSubmitted (λ r k. k) (before (keys.Change n)) h)

  open_there : (client : List ℕ) (n : ℕ) → IsOpenIn before client n → IsOpenIn after client n
  open_there client n (inl none) = inl none
  open_there client n (inr h) =
      inr (subst (λ (o : Option Record). IsSomeAnd o (IsPendingOf client)) (sym (kept (keys.Change n) refl)) (still rules (IsPendingOf client) (λ r k. k) (before (keys.Change n)) h))

  form_there : (kind name : List ℕ) → same kind (codes "shelf") ≡ false → IsSome (before (keys.Domain kind name)) → IsSome (after (keys.Domain kind name))
  form_there kind name other h = there (keys.Domain kind name) (ap not other) h

  module _ (path : List ℕ) (inside : is_text_inside rules path ≡ true) where
    rev_there : (n : ℕ) → HasRev before path n → HasRev after path n
    rev_there n h = there (keys.Rev path n) inside h

    revs_there : (first last : ℕ) → HasRevs before path first last → HasRevs after path first last
    revs_there first last h = (h.0, rev_there first h.1, rev_there last h.2)

    base_there : (n : ℕ) → IsBase before path n → IsBase after path n
    base_there n (inl none) = inl none
    base_there n (inr some) = inr (rev_there n some)

    source_there : (n : ℕ) → IsSource before path n → IsSource after path n
    source_there n (inl none) = inl none
    source_there n (inr some) = inr (some.0, rev_there n some.1)

    made_there : (n change : ℕ) → IsSomeAnd (before (keys.Rev path n)) (IsMadeIn change) → IsSomeAnd (after (keys.Rev path n)) (IsMadeIn change)
    made_there n change h =
        subst (λ (o : Option Record). IsSomeAnd o (IsMadeIn change)) (sym (kept (keys.Rev path n) inside)) (still rules (IsMadeIn change) (λ r k. k) (before (keys.Rev path n)) h)

  -- ---- integration records

  module _ (r : IntegedRecord) (to : is_text_inside rules r.to_file ≡ true) (from : is_text_inside rules r.from_file ≡ true) where
    both : (is_text_inside rules r.from_file && is_text_inside rules r.to_file) ≡ true
    both = and_from (is_text_inside rules r.from_file) (is_text_inside rules r.to_file) from to

    credit_there : (how : How) → IsCredit before r how → IsCredit after r how
    credit_there how h = (
      h.0,
      h.1,
      made_there r.to_file to r.end_to r.change h.2,
      there (keys.Integed r.from_file r.to_file r.start_to r.end_to r.start_from r.end_from (into_word how) r.change) both h.3,
    )

    credited_there : (how : How) → IsCredited before r how → IsCredited after r how
    credited_there how h = (
      h.0,
      h.1,
      made_there r.from_file from r.end_from r.change h.2,
      there (keys.Integed r.from_file r.to_file r.start_to r.end_to r.start_from r.end_from (how_word how) r.change) both h.3,
    )

    paired_there : IsPaired before r → IsPaired after r
    paired_there h = (h.0, either h.1)
      where
        either : IsCredit before r h.0 ⊎ IsCredited before r h.0 → IsCredit after r h.0 ⊎ IsCredited after r h.0
        either (inl credit) = inl (credit_there h.0 credit)
        either (inr credited) = inr (credited_there h.0 credited)

  -- ---- forms

  fix_there : (name text : List ℕ) → IsFix before name text → IsFix after name text
  fix_there name text h = record {
    reads = h.reads;
    named = h.named;
    job = form_there (codes "job") _ refl h.job;
    change = subst (λ (n : ℕ). (is_numeral (value_in FixShape (codes "Change") text) && nat_le (number_in FixShape (codes "Change") text) n) ≡ true) (sym same_top) h.change;
    state = h.state;
    there = λ on. there (keys.Change _) refl (h.there on);
  }

  saved_there : (kind name text : List ℕ) → not (same kind (codes "shelf")) ≡ true → IsForm before kind name text → IsForm after kind name text
  saved_there kind name text left (inl client) = inl client
  saved_there kind name text left (inr (inl label)) = inr (inl label)
  saved_there kind name text left (inr (inr (inl shelf))) =
      absurd (true≢false (sym left ∙ ap (λ (k : List ℕ). not (same k (codes "shelf"))) shelf.0))
  saved_there kind name text left (inr (inr (inr (inl job)))) = inr (inr (inr (inl job)))
  saved_there kind name text left (inr (inr (inr (inr fix)))) = inr (inr (inr (inr (fix.0, fix_there name text fix.1))))

  -- ---- each row

  opened_row : (r : WorkingRecord) → is_text_inside rules r.path ≡ true → IsRow before (records.Working r) → IsRow after (cut_row rules (records.Working r))
  opened_row r inside h = go (is_text_inside rules r.source) refl
    where
      client : IsSome (after (keys.Domain (codes "client") r.client))
      client = form_there (codes "client") r.client refl h.0

      go : (b : Bool) → is_text_inside rules r.source ≡ b → IsRow after (without rules r b)
      go true from = (client, h.1, base_there r.path inside r.base h.2, h.3, h.4, h.5, source_there r.source from r.source_rev h.6, h.7, open_there r.client r.change h.8)
      go false from = (client, h.1, base_there r.path inside r.base h.2, h.3, h.4, h.5, inl (refl, refl), h.7, open_there r.client r.change h.8)

  row_there : (r : Record) → is_left rules (key_of r) ≡ true → IsRow before r → IsRow after (cut_row rules r)
  row_there (records.Counter r) left h = h
  row_there (records.Group r) left h = h
  row_there (records.Protect r) left h = h
  row_there (records.Domain r) left h = saved_there r.kind r.name r.form left h
  row_there (records.Have r) left h = (form_there (codes "client") r.client refl h.0, h.1, rev_there r.path left r.rev h.2)
  row_there (records.Label r) left h = (form_there (codes "label") r.label refl h.0, h.1, rev_there r.path left r.rev h.2)
  row_there (records.Integed r) left h =
      let to : is_text_inside rules r.to_file ≡ true = (and_parts (is_text_inside rules r.to_file) (is_text_inside rules r.from_file) left).0 in
      let from : is_text_inside rules r.from_file ≡ true = (and_parts (is_text_inside rules r.to_file) (is_text_inside rules r.from_file) left).1 in
      (h.0, h.1, revs_there r.from_file from r.start_from r.end_from h.2, revs_there r.to_file to r.start_to r.end_to h.3, paired_there r to from h.4)
  row_there (records.Resolve r) left h =
      let path : is_text_inside rules r.path ≡ true = (and_parts (is_text_inside rules r.path) (is_text_inside rules r.from) left).0 in
      let from : is_text_inside rules r.from ≡ true = (and_parts (is_text_inside rules r.path) (is_text_inside rules r.from) left).1 in
      (h.0, h.1, revs_there r.from from r.first r.last h.2, h.3, form_there (codes "client") r.client refl h.4, there (keys.Working r.path r.client) path h.5)
  row_there (records.Working r) left h = opened_row r left h
  row_there (records.Change r) left h = h
  row_there (records.Rev r) left h = (h.0, h.1, h.2, h.3, h.4, h.5, submitted_there r.change h.6)

  module _ (keyed : (q : Key) → IfSome (before q) (HasKey q)) (keep : KeepRules before) where
    each_there : (q : Key) → IfSome (after q) (IsRow after)
    each_there q = subst (λ (o : Option Record). IfSome o (IsRow after)) (sym (cuts q)) (go (is_left rules q) refl (before q) (keyed q) (keep.each q))
      where
        go : (b : Bool) → is_left rules q ≡ b → (o : Option Record) → IfSome o (HasKey q) → IfSome o (IsRow before)
            → IfSome (cond b (option_map (cut_row rules) o) None) (IsRow after)
        go false left o key h = tt
        go true left None key h = tt
        go true left (Some r) key h = row_there r (ap (is_left rules) key ∙ left) h

    same_change : (path : List ℕ) (n : ℕ) → is_text_inside rules path ≡ true → change_of (after (keys.Rev path n)) ≡ change_of (before (keys.Rev path n))
    same_change path n inside = ap change_of (kept (keys.Rev path n) inside) ∙ change_cut rules (before (keys.Rev path n))

    locked : (path client : List ℕ) → lock_of (after (keys.Working path client)) ≡ 1 → lock_of (before (keys.Working path client)) ≡ 1
    locked path client h = go (is_text_inside rules path) (sym (ap lock_of (cuts (keys.Working path client))) ∙ h)
      where
        go : (b : Bool) → lock_of (cond b (option_map (cut_row rules) (before (keys.Working path client))) None) ≡ 1 → lock_of (before (keys.Working path client)) ≡ 1
        go true e = sym (lock_cut rules (before (keys.Working path client))) ∙ e
        go false e = absurd cc

    same_fix : (n : ℕ) (job : List ℕ) → has_fix after n job ≡ has_fix before n job
    same_fix n job = ap is_on_fix (kept (keys.Domain (codes "fix") (fix_name job n)) refl) ∙ fix_cut rules (before (keys.Domain (codes "fix") (fix_name job n)))

    pub rules_cut : KeepRules after
    rules_cut = record {
      each = each_there;
      revisions_run = λ path n h. let w = was (keys.Rev path (suc (suc n))) h in there (keys.Rev path (suc n)) w.0 (keep.revisions_run path n w.1);
      changes_rise = λ path m n less a b.
          let w = was (keys.Rev path m) a in
          let v = was (keys.Rev path n) b in
          subst (λ (x : ℕ). x < change_of (after (keys.Rev path n))) (sym (same_change path m w.0))
          (subst (λ (x : ℕ). change_of (before (keys.Rev path m)) < x) (sym (same_change path n w.0)) (keep.changes_rise path m n less w.1 v.1));
      lines_run = λ n h. there (keys.Protect (suc n)) refl (keep.lines_run n (was (keys.Protect (suc (suc n))) h).1);
      one_lock = λ path a b h k. keep.one_lock path a b (locked path a h) (locked path b k);
      top_is = λ n h. subst (λ (x : ℕ). n ≤ x) (sym same_top) (keep.top_is n (was (keys.Change n) h).1);
      top_fits = subst (λ (x : ℕ). x ≤ 2147483647) (sym same_top) keep.top_fits;
      generation_fits = subst (λ (x : ℕ). x ≤ 4095)
          (sym (ap value_of (kept (keys.Counter (codes "journal")) refl) ∙ value_cut rules (before (keys.Counter (codes "journal"))))) keep.generation_fits;
      fixes_fit = λ n jobs apart all. keep.fixes_fit n jobs apart (ap (λ (test : List ℕ → Bool). list_all test jobs) (λ i job. sym (same_fix n job) i) ∙ all);
    }
