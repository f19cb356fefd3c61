-- The integration records of a file tell which revisions of another one are credited to it: the record of a credit, and the other one of its pair.
use Rattle.std.proofs.Common.{◌≡◌, ◌⊎◌, ℕ, suc, Bool, true, false, cond, List, [], ◌∷◌, ◌++◌, Option, Some, None, inl, inr, refl, sym, ap, subst, ◌∙◌, arith}
use Rattle.std.specs.Prelude.{◌&&◌, ◌||◌, nat_le, filter, find, flat_map, IfSome, IsSome, IsSomeAnd, option_map, if◌then◌else◌}
use Rattle.std.specs.List.{list_any}
use Rattle.std.specs.Option.{option_map_or, option_to_list}
use Rattle.std.proofs.lemmas.Bool.{true≢false, and_parts}
use Rattle.std.proofs.lemmas.Bool.Decides.{nat_tests}
use Rattle.depot_rows.specs.depot_path.Bytes.{same}
use Rattle.depot_rows.specs.depot_path.Path.{is_path, printed}
use Rattle.depot_rows.specs.db_records.Key.{key_table}
use Rattle.depot_rows.specs.db_records.Record.{key_of}
use Rattle.depot_rows.specs.db_records.declared.key.Key.{Key}
use Rattle.depot_rows.specs.db_records.declared.key.Key.TheVariants as keys
use Rattle.depot_rows.specs.db_records.declared.record.Record.{Record}
use Rattle.depot_rows.specs.db_records.declared.record.Record.TheVariants as records
use Rattle.depot_rows.specs.db_records.declared.rows.IntegedRecord.{IntegedRecord}
use Rattle.depot_rows.specs.db_records.declared.table.TableId.{TableId}
use Rattle.depot_rows.specs.db_records.declared.table.TableId.TheVariants as tables
use Rattle.depot_rows.specs.table_store.Rows.{AllOfTable, IsRising, TableRows, is_at, row_at}
use Rattle.row_ranges.specs.Ranges.{has_row}
use Rattle.row_ranges.specs.declared.range.KeyRange.TheVariants.{Integrations}
use Rattle.depot_rows.specs.depot_model.Deeds.{Credit, Deed, How}
use Rattle.depot_rows.specs.depot_model.Records.{integrations, into_word, record_of, rev_record}
use Rattle.depot_rows.specs.depot_model.Revisions.{Revision, credited, credits_from, has_credit, revision, revisions}
use Rattle.depot_rows.specs.depot_model.Rows.{how_word}
use Rattle.depot_rows.specs.depot_model.Rules.{IsCredit, IsCredited, IsMadeIn, IsPaired, IsRow, IsSound}
use Rattle.depot_rows.proofs.Entries.{In}
use Rattle.depot_rows.proofs.Keys.{at-is, same-is, same-self}
use Rattle.depot_rows.proofs.Spelled.{at_path-here}
use Rattle.depot_rows.specs.Standing.{unplaced_at}
use Rattle.depot_facts.proofs.Listed.{found_in, any_of, one_of, place_of}
use Rattle.depot_facts.proofs.Credits.{of_key, own_row, Tells, Written, is_how, one_number, other_word, own_word, tells, writes, test_at, integed_key}
use Rattle.row_reads.proofs.Alike.{unplaced_row}
use Rattle.row_rules.proofs.Found.{at_own, found_behind}
use Rattle.depot_facts.proofs.PathTexts.{one_path}
use Rattle.depot_facts.proofs.Revisions.{in_revision}
use Rattle.std.proofs.Math.Bool.{or-true}
use Rattle.integ_records.specs.Crediting.{is_within, span_of_row, span_of_rows}
use Rattle.integ_records.specs.declared.crediting.Span.{Span}

-- the other record of the pair
abbrev mirror : IntegedRecord → List ℕ → IntegedRecord
mirror z how = record {
  to_file = z.from_file;
  from_file = z.to_file;
  start_from = z.start_to;
  end_from = z.end_to;
  start_to = z.start_from;
  end_to = z.end_from;
  how = how;
  change = z.change;
}

between : (first last n : ℕ) → first ≡ last → nat_le first n ≡ true → nat_le n last ≡ true → last ≡ n
between first last n one low high = grind (arith, nat_tests)

at_most : (m n : ℕ) → m ≡ n → nat_le m n ≡ true
at_most m n one = grind (arith, nat_tests)

one_answer : (a b : Bool) → (a ≡ true → b ≡ true) → (b ≡ true → a ≡ true) → a ≡ b
one_answer true b f g = sym (f refl)
one_answer false true f g = g refl
one_answer false false f g = refl

abbrev span : IntegedRecord → Span
span z = record { first = z.start_from; last = z.end_from }

-- ---- rows

in_there : (rows : List Record) → IsRising rows → (row : Record) → In rows row → row_at (key_of row) rows ≡ Some row
in_there [] up row h = absurd h
in_there (x ∷ rows) up row (inl e) =
    subst (λ (r : Record). row_at (key_of r) (x ∷ rows) ≡ Some r) e (ap (λ b. cond b (Some x) (row_at (key_of x) rows)) (at_own x))
in_there (x ∷ rows) up row (inr h) = found_behind (key_of row) x row rows up.0 (in_there rows up.1 row h)

any_first : (p : Span → Bool) (o : Option Span) (more : List Span) → list_any p (option_to_list o ++ more) ≡ (option_map_or p o false || list_any p more)
any_first p None more = refl
any_first p (Some x) more = refl

any_kept : (p : Span → Bool) (h : Record → Bool) (f : Record → Option Span) (rows : List Record)
    → list_any p (flat_map (λ row. option_to_list (f row)) (filter h rows)) ≡ list_any (λ row. h row && option_map_or p (f row) false) rows
any_kept p h f [] = refl
any_kept p h f (row ∷ rows) = go (h row) (any_kept p h f rows)
  where
    go : (b : Bool) → list_any p (flat_map (λ row. option_to_list (f row)) (filter h rows)) ≡ list_any (λ row. h row && option_map_or p (f row) false) rows
        → list_any p (flat_map (λ row. option_to_list (f row)) (if b then row ∷ filter h rows else filter h rows))
        ≡ ((b && option_map_or p (f row) false) || list_any (λ row. h row && option_map_or p (f row) false) rows)
    go true more =
        any_first p (f row) (flat_map (λ row. option_to_list (f row)) (filter h rows))
        ∙ ap (λ b. option_map_or p (f row) false || b) more
    go false more = more

-- ---- records by their keys

module _ (d : List Deed) where
  abbrev HasRow : IntegedRecord → Type 0
  HasRow z = record_of d (integed_key z) ≡ Some (records.Integed z)

  row_of_found : (found : Option IntegedRecord) (z : IntegedRecord) → option_map (λ (r : IntegedRecord). records.Integed r) found ≡ Some (records.Integed z) → found ≡ Some z
  row_of_found None z e = absurd cc
  row_of_found (Some y) z e = let one : y ≡ z = cc in ap Some one

  -- a row is one of the integration records
  row_is : (z : IntegedRecord) → HasRow z → In (integrations d) z
  row_is z e = (found_in (test_at (integed_key z)) (integrations d) z (row_of_found (find (test_at (integed_key z)) (integrations d)) z e)).0

  -- a key has the record that it spells
  spelled : (z : IntegedRecord) → IsSome (record_of d (integed_key z)) → HasRow z
  spelled z has = go (find (test_at (integed_key z)) (integrations d)) refl has
    where
      go : (found : Option IntegedRecord) → find (test_at (integed_key z)) (integrations d) ≡ found → IsSome (option_map (λ (r : IntegedRecord). records.Integed r) found)
          → option_map (λ (r : IntegedRecord). records.Integed r) (find (test_at (integed_key z)) (integrations d)) ≡ Some (records.Integed z)
      go None e k = absurd cc
      go (Some y) e k =
          let at = found_in (test_at (integed_key z)) (integrations d) y e in
          ap (option_map (λ (r : IntegedRecord). records.Integed r)) e
          ∙ ap (λ (r : IntegedRecord). Some (records.Integed r)) (sym (of_key z y (at-is (integed_key z) (integed_key y) at.1)))

  ruled : (sound : IsSound d) (z : IntegedRecord) → HasRow z → IsRow (record_of d) (records.Integed z)
  ruled sound z e = subst (λ (o : Option Record). IfSome o (IsRow (record_of d))) e (sound.rules.each (integed_key z))

-- ---- what the records of a file say of another one

module _ (d : List Deed) (sound : IsSound d) (s t : List ℕ) (is_s : is_path s ≡ true) (is_t : is_path t ≡ true) (n : ℕ) where
  -- a record of t that tells of revision n of s
  pub record Told : Type 0 where
    pub said : IntegedRecord
    pub there : record_of d (key_of (records.Integed said)) ≡ Some (records.Integed said)
    pub to : said.to_file ≡ printed t
    pub from : said.from_file ≡ printed s
    pub first : nat_le said.start_from n ≡ true
    pub last : nat_le n said.end_from ≡ true

  -- the revision of a number has the change
  abbrev IsMadeAt : ℕ → ℕ → Type 0
  IsMadeAt m change = (b : Revision) × (revision d s m ≡ Some b) × ((b.landing).change ≡ change)

  made_at : (file : List ℕ) (m change : ℕ) → file ≡ printed s → IsSomeAnd (record_of d (keys.Rev file m)) (IsMadeIn change) → IsMadeAt m change
  made_at file m change of made =
      let there : record_of d (keys.Rev file m) ≡ option_map (rev_record m) (revision d s m) =
      ap (λ (x : List ℕ). record_of d (keys.Rev x m)) of ∙ at_path-here s (λ x. option_map (rev_record m) (revision d x m)) is_s in
      go (revision d s m) refl (subst (λ (o : Option Record). IsSomeAnd o (IsMadeIn change)) there made)
    where
      go : (o : Option Revision) → revision d s m ≡ o → IsSomeAnd (option_map (rev_record m) o) (IsMadeIn change) → IsMadeAt m change
      go None e k = absurd k
      go (Some b) e k = (b, e, k)

  -- one of the revisions that has the same change is that of the number
  numbered : (m change : ℕ) (r : Revision) → IsMadeAt m change → In (revisions d s) r → change ≡ (r.landing).change → revision d s m ≡ Some r
  numbered m change r at there same_change =
      let place = place_of (revisions d s) r there in
      let number : suc place.0 ≡ m = one_number d sound s is_s (suc place.0) m r at.0 place.1 at.1 (sym (at.2 ∙ same_change)) in
      ap (revision d s) (sym number) ∙ place.1

  abbrev taken_in : Bool
  taken_in = list_any (has_credit (credits_from s n)) (revisions d t)

  abbrev test_from : Credit → Bool
  test_from credit = same credit.from t

  abbrev given : Option Revision → Bool
  given r = option_map_or (has_credit test_from) r false

  of_left : taken_in ≡ true → credited d s t n ≡ true
  of_left h = ap (λ b. b || given (revision d s n)) h

  of_right : given (revision d s n) ≡ true → credited d s t n ≡ true
  of_right h = ap (λ b. taken_in || b) h ∙ or-true taken_in

  -- the record of a credit
  credit_credits : (z : IntegedRecord) → record_of d (integed_key z) ≡ Some (records.Integed z) → is_how z.how ≡ true → z.to_file ≡ printed t → z.from_file ≡ printed s
      → nat_le z.start_from n ≡ true → nat_le n z.end_from ≡ true → credited d s t n ≡ true
  credit_credits z there how to from first last =
      let k : Tells d z = tells d sound.paths z (row_is d z there) how in
      let at : k.path ≡ t = one_path k.path t (k.of).pathed is_t (sym (k.of).to ∙ to) in
      let of : (k.credit).from ≡ s = one_path (k.credit).from s (k.of).from_pathed is_s (sym (k.of).from ∙ from) in
      let passes : credits_from s n k.credit ≡ true =
      (λ i. same (of i) s && nat_le ((sym (k.of).first) i) n && nat_le n ((sym (k.of).last) i))
      ∙ (λ i. same-self s i && first i && last i) in
      of_left (any_of (has_credit (credits_from s n)) (revisions d t) k.made (subst (λ (p : List ℕ). In (revisions d p) k.made) at k.there)
      (any_of (credits_from s n) ((k.made).entry).credits k.credit k.listed passes))

  -- the other one of its pair
  mirror_credits : (z : IntegedRecord) (how : How) → z.to_file ≡ printed t → z.from_file ≡ printed s → nat_le z.start_from n ≡ true → nat_le n z.end_from ≡ true
      → IsCredited (record_of d) z how → credited d s t n ≡ true
  mirror_credits z how to from first last pair =
      let m : IntegedRecord = mirror z (how_word how) in
      let there : record_of d (integed_key m) ≡ Some (records.Integed m) = spelled d m pair.3 in
      let number : z.end_from ≡ n = between z.start_from z.end_from n pair.1 first last in
      let at : IsMadeAt z.end_from z.change = made_at z.from_file z.end_from z.change from pair.2 in
      let k : Tells d m = tells d sound.paths m (row_is d m there) (own_word how) in
      let path_is : k.path ≡ s = one_path k.path s (k.of).pathed is_s (sym (k.of).to ∙ from) in
      let of : (k.credit).from ≡ t = one_path (k.credit).from t (k.of).from_pathed is_t (sym (k.of).from ∙ to) in
      let made : revision d s n ≡ Some k.made =
      ap (revision d s) (sym number) ∙ numbered z.end_from z.change k.made at (subst (λ (p : List ℕ). In (revisions d p) k.made) path_is k.there) (k.of).change in
      of_right (ap given made ∙ any_of test_from ((k.made).entry).credits k.credit k.listed (ap (λ x. same x t) of ∙ same-self t))

  told_credits : Told → credited d s t n ≡ true
  told_credits z =
      let pair : IsPaired (record_of d) z.said = (ruled d sound z.said z.there).4 in
      go pair.0 pair.1
    where
      go : (how : How) → IsCredit (record_of d) z.said how ⊎ IsCredited (record_of d) z.said how → credited d s t n ≡ true
      go how (inl pair) = credit_credits z.said z.there (ap is_how pair.0 ∙ own_word how) z.to z.from z.first z.last
      go how (inr pair) = mirror_credits z.said how z.to z.from z.first z.last pair

  -- ---- the other way

  taken_told : taken_in ≡ true → Told
  taken_told h =
      let r = one_of (has_credit (credits_from s n)) (revisions d t) h in
      let c = one_of (credits_from s n) ((r.0).entry).credits r.2 in
      let w : Written d t r.0 c.0 = writes d sound.paths t r.0 c.0 r.1 c.1 in
      let begun = (and_parts (same (c.0).from s && nat_le (c.0).first n) (nat_le n (c.0).last) c.2).0 in
      let from : (c.0).from ≡ s = same-is (c.0).from s (and_parts (same (c.0).from s) (nat_le (c.0).first n) begun).0 in
      record {
        said = w.written;
        there = own_row d w.written w.there;
        to = (w.of).to;
        from = (w.of).from ∙ ap printed from;
        first = ap (λ x. nat_le x n) (w.of).first ∙ (and_parts (same (c.0).from s) (nat_le (c.0).first n) begun).1;
        last = ap (λ x. nat_le n x) (w.of).last ∙ (and_parts (same (c.0).from s && nat_le (c.0).first n) (nat_le n (c.0).last) c.2).1;
      }

  -- the record of a credit of revision n of s, and the other one of its pair
  paired_told : (r : Revision) (c : Credit) → revision d s n ≡ Some r → (w : Written d s r c) → c.from ≡ t → (how : How) → IsCredit (record_of d) w.written how → Told
  paired_told r c there w from how pair =
      let z : IntegedRecord = w.written in
      let at : IsMadeAt z.end_to z.change = made_at z.to_file z.end_to z.change (w.of).to pair.2 in
      let number : z.end_to ≡ n = one_number d sound s is_s z.end_to n at.0 r at.1 there (at.2 ∙ (w.of).change) in
      record {
        said = mirror z (into_word how);
        there = spelled d (mirror z (into_word how)) pair.3;
        to = (w.of).from ∙ ap printed from;
        from = (w.of).to;
        first = at_most z.start_to n (pair.1 ∙ number);
        last = at_most n z.end_to (sym number);
      }

  given_told : (r : Revision) → revision d s n ≡ Some r → has_credit test_from r ≡ true → Told
  given_told r there h =
      let c = one_of test_from (r.entry).credits h in
      let w : Written d s r c.0 = writes d sound.paths s r c.0 (in_revision d s n r there) c.1 in
      let pair : IsPaired (record_of d) w.written = (ruled d sound w.written (own_row d w.written w.there)).4 in
      go c.0 w (same-is (c.0).from t c.2) pair.0 pair.1
    where
      go : (c : Credit) (w : Written d s r c) → c.from ≡ t → (how : How) → IsCredit (record_of d) w.written how ⊎ IsCredited (record_of d) w.written how → Told
      go c w from how (inl pair) = paired_told r c there w from how pair
      go c w from how (inr pair) = absurd (true≢false (sym w.word ∙ ap is_how pair.0 ∙ other_word how))

  credits_told : credited d s t n ≡ true → Told
  credits_told h = go taken_in refl h
    where
      by : (o : Option Revision) → revision d s n ≡ o → given o ≡ true → Told
      by None e k = absurd cc
      by (Some r) e k = given_told r e k

      go : (b : Bool) → taken_in ≡ b → (b || given (revision d s n)) ≡ true → Told
      go true e k = taken_told e
      go false e k = by (revision d s n) refl k

  -- ---- in the rows of the table

  module _ (rows : List Record) (up : IsRising rows) (has : (key : Key) → key_table key ≡ tables.Integed → row_at key rows ≡ record_of d key) where
    abbrev test : Record → Bool
    test row = has_row (Integrations (printed t)) row && option_map_or (is_within n) (span_of_row (printed s) row) false

    spanned : (z : IntegedRecord) (b : Bool) → option_map_or (is_within n) (if b then Some (span z) else None) false ≡ true → (b ≡ true) × (is_within n (span z) ≡ true)
    spanned z true e = (refl, e)
    spanned z false e = absurd cc

    row_told : (row : Record) → In rows row → test row ≡ true → Told
    row_told (records.Integed z) there h =
        let begun = (and_parts (same (printed t) z.to_file && true) (option_map_or (is_within n) (span_of_row (printed s) (records.Integed z)) false) h).0 in
        let within = spanned z (same z.from_file (printed s)) (and_parts (same (printed t) z.to_file && true) (option_map_or (is_within n) (span_of_row (printed s) (records.Integed z)) false) h).1 in
        record {
          said = z;
          there = sym (has (integed_key z) refl) ∙ in_there rows up (records.Integed z) there;
          to = sym (same-is (printed t) z.to_file (and_parts (same (printed t) z.to_file) true begun).0);
          from = same-is z.from_file (printed s) within.0;
          first = (and_parts (nat_le z.start_from n) (nat_le n z.end_from) within.1).0;
          last = (and_parts (nat_le z.start_from n) (nat_le n z.end_from) within.1).1;
        }
    row_told (records.Counter r) there h = absurd cc
    row_told (records.Group r) there h = absurd cc
    row_told (records.Protect r) there h = absurd cc
    row_told (records.Domain r) there h = absurd cc
    row_told (records.Have r) there h = absurd cc
    row_told (records.Label r) there h = absurd cc
    row_told (records.Resolve r) there h = absurd cc
    row_told (records.Working r) there h = absurd cc
    row_told (records.Change r) there h = absurd cc
    row_told (records.Rev r) there h = absurd cc

    told_passes : (z : Told) → list_any test rows ≡ true
    told_passes z =
        let row : Record = records.Integed z.said in
        let there : In rows row = (found_in (is_at (integed_key z.said)) rows row (has (integed_key z.said) refl ∙ z.there)).0 in
        any_of test rows row there
        ((λ i. (same (printed t) (z.to i) && true) && option_map_or (is_within n) (if same (z.from i) (printed s) then Some (span z.said) else None) false)
        ∙ (λ i. (same-self (printed t) i && true) && option_map_or (is_within n) (if same-self (printed s) i then Some (span z.said) else None) false)
        ∙ (λ i. z.first i && z.last i))

    read : list_any test rows ≡ credited d s t n
    read = one_answer (list_any test rows) (credited d s t n)
        (λ h. let row = one_of test rows h in told_credits (row_told row.0 row.1 row.2))
        (λ h. told_passes (credits_told h))

pub credits_read : (version : TableRows) (rows : List Record) → version.rows ≡ rows → version.table ≡ tables.Integed → AllOfTable version.table version.rows → IsRising version.rows
    → (d : List Deed) (s t : List ℕ) (n : ℕ) → IsSound d → is_path s ≡ true → is_path t ≡ true → ((key : Key) → key_table key ≡ tables.Integed → unplaced_at rows key ≡ record_of d key)
    → list_any (is_within n) (span_of_rows (printed s) (filter (has_row (Integrations (printed t))) rows)) ≡ credited d s t n
credits_read version rows are is of up d s t n sound is_s is_t has =
    let P : TableId → Type 0 = λ table. AllOfTable table rows in
    let Q : List Record → Type 0 = λ rs. AllOfTable version.table rs in
    let ours : AllOfTable tables.Integed rows = subst P is (subst Q are of) in
    any_kept (is_within n) (has_row (Integrations (printed t))) (span_of_row (printed s)) rows
    ∙ read d sound s t is_s is_t n rows (subst IsRising are up) (λ key k. sym (unplaced_row tables.Integed (λ e. cc) rows ours key) ∙ has key k)
