-- What is told of a change by its record, and of its revisions by theirs, is what the model tells.
use Rattle.std.proofs.Common.{Bor, ◌≤◌, ◌≡◌, ℕ, Bool, true, false, ◌+◌, append_assoc, List, [], ◌∷◌, ◌++◌, Option, Some, None, refl, sym, ap, subst, ◌∙◌, length, arith}
use Rattle.std.specs.Prelude.{◌==◌, codes, decimal, flat_map, if◌then◌else◌, IsSome, map, option_map}
use Rattle.std.specs.List.{enumerate_from}
use Rattle.std.proofs.lemmas.Bool.Decides.{nat_tests}
use Rattle.depot_rows.specs.depot_path.Path.{printed}
use Rattle.depot_rows.specs.db_records.declared.record.Record.{Record}
use Rattle.depot_rows.specs.db_records.declared.record.Record.TheVariants as records
use Rattle.depot_rows.specs.db_records.declared.rows.ChangeRecord.{ChangeRecord}
use Rattle.depot_rows.specs.db_records.declared.rows.RevRecord.{RevRecord}
use Rattle.depot_rows.specs.table_changes.Changed.{AllRows}
use Rattle.hex.specs.Hex.{encode_upper, encode_with}
use Rattle.md5.specs.Md5.{md5}
use Rattle.md5.proofs.StandardFacts.{length-md5}
use Rattle.depot_rows.specs.depot_model.declared.refusal.Refusal.TheVariants.{NoSuchChange}
use Rattle.depot_rows.specs.depot_model.declared.reply.Field.{Field}
use Rattle.depot_rows.specs.depot_model.declared.reply.Row.{Row}
use Rattle.depot_rows.specs.depot_model.declared.request.Caller.{Caller}
use Rattle.depot_rows.specs.depot_model.Deeds.{Deed, Landing, Pending}
use Rattle.depot_rows.specs.depot_model.Numbers.{landing, pending}
use Rattle.depot_rows.specs.depot_model.Records.{change_record, digest, landed_record, pending_record}
use Rattle.depot_rows.specs.depot_model.Refusals.{refusal_row}
use Rattle.depot_rows.specs.depot_model.Rows.{action_word, if_any, number_field, path_field, row, text_field}
use Rattle.depot_rows.specs.depot_model.Rules.{NotBoth}
use Rattle.depot_rows.specs.depot_model.Step.{Step as ModelStep, refuse_if, refuses, tells, unless}
use Rattle.depot_rows.specs.depot_model.Steps.History.{change_fields, describe, describe_fields, describe_landed, landed_files}
use Rattle.depot_rows.specs.depot_model.Steps.Listing.{Numbered}
use Rattle.reply_rows.specs.declared.step.Step.{Step}
use Rattle.reply_rows.specs.Made.{IsMade, told}
use Rattle.reply_rows.proofs.Joined.{made_row}
use Rattle.revision_reads.specs.History.{numbered_record, seen}
use Rattle.change_lists.specs.Describing.{content_fields, described_told, fields_at, landed_by, landed_told, record_fields, revision_fields}

-- ---- the fields of a revision

abbrev digest_of : Option (List ℕ) → List ℕ
digest_of content = elim content [ None ↦ [] | Some c ↦ digest c ]

abbrev length_of : Option (List ℕ) → ℕ
length_of content = elim content [ None ↦ 0 | Some c ↦ length c ]

-- the digest of a content isn't empty
written : (P : List ℕ → Type 0) (c : List ℕ) → ((b : ℕ) (bytes : List ℕ) → P (b ∷ bytes)) → P (digest c)
unfolding encode_with
written P c each = go (md5 c) (length-md5 c)
  where
    go : (bytes : List ℕ) → length bytes ≡ 16 → P (encode_upper bytes)
    go [] e = absurd (omega (arith, e))
    go (b ∷ bytes) e = each _ _

abbrev content_of : ℕ → Option (List ℕ) → List Field
content_of k content =
    if_any (λ (c : List ℕ). number_field (codes "fileSize" ++ decimal k) (length c)) content
    ++ if_any (λ (c : List ℕ). text_field (codes "digest" ++ decimal k) (digest c)) content

content_is : (k : ℕ) (content : Option (List ℕ)) → content_fields k (digest_of content) (length_of content) ≡ content_of k content
content_is k None = refl
content_is k (Some c) =
    written
    (λ (t : List ℕ). content_fields k t (length c) ≡ number_field (codes "fileSize" ++ decimal k) (length c) ∷ text_field (codes "digest" ++ decimal k) t ∷ []) c (λ b bytes. refl)

fields_are : (d : List Deed) (k : ℕ) (r : RevRecord) (x : Numbered) → seen r ≡ numbered_record x → revision_fields k r ≡ describe_fields d (k, x)
fields_are d k r x e =
    let path : r.path ≡ printed x.made.entry.path = ap (λ (t : Record). elim t as (λ _. List ℕ) [ records.Rev x ↦ x.path | _ ↦ [] ]) e in
    let number : r.rev ≡ x.number = ap (λ (t : Record). elim t as (λ _. ℕ) [ records.Rev x ↦ x.rev | _ ↦ 0 ]) e in
    let action : r.action ≡ action_word x.made.entry.action = ap (λ (t : Record). elim t as (λ _. List ℕ) [ records.Rev x ↦ x.action | _ ↦ [] ]) e in
    let kind : r.file_type ≡ x.made.entry.file_type = ap (λ (t : Record). elim t as (λ _. List ℕ) [ records.Rev x ↦ x.file_type | _ ↦ [] ]) e in
    let sum : r.digest ≡ digest_of x.made.entry.content = ap (λ (t : Record). elim t as (λ _. List ℕ) [ records.Rev x ↦ x.digest | _ ↦ [] ]) e in
    let size : r.length ≡ length_of x.made.entry.content = ap (λ (t : Record). elim t as (λ _. ℕ) [ records.Rev x ↦ x.length | _ ↦ 0 ]) e in
    (λ i. text_field (codes "depotFile" ++ decimal k) (path i) ∷ text_field (codes "action" ++ decimal k) (action i)
    ∷ text_field (codes "type" ++ decimal k) (kind i) ∷ number_field (codes "rev" ++ decimal k) (number i) ∷ content_fields k (sum i) (size i))
    ∙ ap (λ (l : List Field). path_field (codes "depotFile" ++ decimal k) x.made.entry.path ∷ text_field (codes "action" ++ decimal k) (action_word x.made.entry.action)
    ∷ text_field (codes "type" ++ decimal k) x.made.entry.file_type ∷ number_field (codes "rev" ++ decimal k) x.number ∷ l) (content_is k x.made.entry.content)

pub all_fields : (d : List Deed) (k : ℕ) (rs : List RevRecord) (xs : List Numbered) → map seen rs ≡ map numbered_record xs
    → flat_map fields_at (enumerate_from k rs) ≡ flat_map (describe_fields d) (enumerate_from k xs)
all_fields d k [] [] e = refl
all_fields d k [] (x ∷ xs) e = absurd cc
all_fields d k (r ∷ rs) [] e = absurd cc
all_fields d k (r ∷ rs) (x ∷ xs) e =
    let one : seen r ≡ numbered_record x = cc in
    let more : map seen rs ≡ map numbered_record xs = cc in
    λ i. fields_are d k r x one i ++ all_fields d (k + 1) rs xs more i

-- fields one after another
pub five_pushed : (f f1 f2 f3 f4 f5 : List Field) (a b c n : Field) (more : List Field) → f1 ≡ f ++ a ∷ [] → f2 ≡ f1 ++ b ∷ [] → f3 ≡ f2 ++ c ∷ [] → f4 ≡ f3 ++ n ∷ []
    → f5 ≡ f4 ++ more → f5 ≡ f ++ a ∷ b ∷ c ∷ n ∷ more
five_pushed f f1 f2 f3 f4 f5 a b c n more e1 e2 e3 e4 e5 =
    e5 ∙ ap (λ (l : List Field). l ++ more) e4 ∙ append_assoc f3 (n ∷ []) more ∙ ap (λ (l : List Field). l ++ n ∷ more) e3 ∙ append_assoc f2 (c ∷ []) (n ∷ more)
    ∙ ap (λ (l : List Field). l ++ c ∷ n ∷ more) e2 ∙ append_assoc f1 (b ∷ []) (c ∷ n ∷ more) ∙ ap (λ (l : List Field). l ++ b ∷ c ∷ n ∷ more) e1
    ∙ append_assoc f (a ∷ []) (b ∷ c ∷ n ∷ more)

-- ---- what is told

abbrev told_by : List Deed → ChangeRecord → List Numbered → Row
told_by d r xs = if length xs == 0 then refusal_row (NoSuchChange r.change) else row (record_fields r ++ flat_map (describe_fields d) (enumerate_from 0 xs))

not_zero : (m : ℕ) → 1 ≤ m → (m == 0) ≡ false
not_zero m h = grind (arith, nat_tests)

told_by_is : (d : List Deed) (r : ChangeRecord) (rs : List RevRecord) (xs : List Numbered) → map seen rs ≡ map numbered_record xs → landed_by r rs ≡ told_by d r xs
told_by_is d r [] [] e = refl
told_by_is d r [] (x ∷ xs) e = absurd cc
told_by_is d r (y ∷ rs) [] e = absurd cc
told_by_is d r (y ∷ rs) (x ∷ xs) e =
    ap (λ (l : List Field). row (record_fields r ++ l)) (all_fields d 0 (y ∷ rs) (x ∷ xs) e)
    ∙ ap (λ (b : Bool). if b then refusal_row (NoSuchChange r.change) else row (record_fields r ++ flat_map (describe_fields d) (enumerate_from 0 (x ∷ xs))))
    (sym (not_zero (length (x ∷ xs)) (omega arith)))

pub rows_seen : (rows : List (Bor RevRecord)) → map seen (map (λ r. r.now) rows) ≡ map (λ r. seen r.now) rows
rows_seen [] = refl
rows_seen (r ∷ rows) = ap (λ (l : List Record). seen r.now ∷ l) (rows_seen rows)

pub landed_by_is : (d : List Deed) (caller : Caller) (r : ChangeRecord) (rows : List (Bor RevRecord))
    → map (λ x. seen x.now) rows ≡ map numbered_record (landed_files d caller r.change) → landed_by r (map (λ x. x.now) rows) ≡ landed_told d caller r
landed_by_is d caller r rows e = told_by_is d r (map (λ x. x.now) rows) (landed_files d caller r.change) (rows_seen rows ∙ e)

-- ---- the step

abbrev landed_model : List Deed → Caller → ℕ → ChangeRecord → ModelStep
landed_model d caller n r =
    unless (refuse_if (length (landed_files d caller r.change) == 0) (NoSuchChange r.change) ∷ [])
    (tells (row (record_fields r ++ flat_map (describe_fields d) (enumerate_from 0 (landed_files d caller r.change))) ∷ []))

abbrev model_of : List Deed → Caller → ℕ → Option Landing → Option Pending → ModelStep
model_of d caller n l p = elim l as (λ _. ModelStep) [
  | None ↦ elim p as (λ _. ModelStep) [
    | None ↦ refuses (NoSuchChange n)
    | Some p ↦ tells (row (change_fields p.change p.user p.client p.moment (codes "pending") p.text) ∷ [])
  ]
  | Some l ↦ describe_landed d caller l
]

abbrev record_in : Option Landing → Option Pending → Option Record
record_in l p = elim p as (λ _. Option Record) [ Some x ↦ Some (pending_record x) | None ↦ option_map landed_record l ]

module _ (all : AllRows) (d : List Deed) (caller : Caller) (n : ℕ) (step : Step) where
  one_row : (a b : Record) → Some a ≡ Some b → a ≡ b
  one_row a b e = cc

  landed_made : (r : ChangeRecord) → step ≡ told (landed_told d caller r ∷ []) → IsMade all d d (landed_model d caller n r) step
  landed_made r made = go (length (landed_files d caller r.change) == 0) made
    where
      go : (b : Bool)
          → step ≡ told ((if b then refusal_row (NoSuchChange r.change)
          else row (record_fields r ++ flat_map (describe_fields d) (enumerate_from 0 (landed_files d caller r.change)))) ∷ [])
          → IsMade all d d (unless (refuse_if b (NoSuchChange r.change) ∷ [])
          (tells (row (record_fields r ++ flat_map (describe_fields d) (enumerate_from 0 (landed_files d caller r.change))) ∷ []))) step
      go true made = made_row all d d _ _ step refl refl made
      go false made = made_row all d d _ _ step refl refl made

  pub described_made : (r : Option ChangeRecord) → NotBoth d → option_map records.Change r ≡ change_record d n → step ≡ told (described_told d caller n r ∷ [])
      → IsMade all d d (describe d caller n) step
  described_made r apart is made = go (landing d n) (pending d n) (apart n) r is made
    where
      go : (l : Option Landing) (p : Option Pending) → (IsSome p → IsSome l → ⊥) → (r : Option ChangeRecord) → option_map records.Change r ≡ record_in l p
          → step ≡ told (described_told d caller n r ∷ []) → IsMade all d d (model_of d caller n l p) step
      go None None apart None e made = made_row all d d _ _ step refl refl made
      go None None apart (Some r) e made = absurd cc
      go None (Some p) apart None e made = absurd cc
      go None (Some p) apart (Some r) e made =
          let is : ChangeRecord = record { change = p.change; status = codes "pending"; user = p.user; client = p.client; moment = p.moment; text = p.text } in
          let same_row = one_row (records.Change r) (records.Change is) e in
          let one : r ≡ is = cc in
          let P : ChangeRecord → Type 0 = λ x. step ≡ told (described_told d caller n (Some x) ∷ []) in
          made_row all d d _ _ step refl refl (subst P one made)
      go (Some l) (Some p) apart r e made = absurd (apart refl refl)
      go (Some l) None apart None e made = absurd cc
      go (Some l) None apart (Some r) e made =
          let is : ChangeRecord = record { change = l.change; status = codes "submitted"; user = l.user; client = l.client; moment = l.moment; text = l.text } in
          let same_row = one_row (records.Change r) (records.Change is) e in
          let one : r ≡ is = cc in
          let P : ChangeRecord → Type 0 = λ x. step ≡ told (described_told d caller n (Some x) ∷ []) in
          landed_made is (subst P one made)
