-- The row of the revision that a reply's row shows: it is that of the content, which is at its spot and has its digest.
use Rattle.std.proofs.Common.{◌≡◌, ◌<◌, ◌≤◌, ◌+◌, ◌^◌, ℕ, zero, suc, Bool, true, false, List, [], ◌∷◌, ◌++◌, length, take, drop, Option, Some, None, Result, Ok, Err, refl, sym, ap, subst, ◌∙◌, arith, append-nil, append_assoc, length-append}
use Rattle.std.specs.Prelude.{IfErr, option_map}
use Rattle.std.proofs.lemmas.Fmt.{decimal_injective}
use Rattle.std.proofs.Math.Seq.{take-add, take-append_seam}
use Rattle.std.proofs.lemmas.List.{drop-drop}
use Rattle.archive_file.specs.Archive.{Has}
use Rattle.archive_file.specs.Contents.{IsFront}
use Rattle.archive_file.proofs.Spots.{front_of}
use Rattle.depot_rows.specs.db_records.declared.change.Spot.{Spot}
use Rattle.depot_rows.specs.db_records.declared.key.Key.TheVariants as keys
use Rattle.depot_rows.specs.db_records.declared.record.Record.{Record}
use Rattle.depot_rows.specs.db_records.declared.record.Record.TheVariants as records
use Rattle.depot_rows.specs.db_records.declared.rows.RevRecord.{RevRecord}
use Rattle.depot_rows.specs.db_records.declared.table.TableId.TheVariants as tables
use Rattle.depot_rows.specs.depot_path.Path.{is_path, path_of, printed}
use Rattle.depot_rows.proofs.depot_path.Paths.{prints_path}
use Rattle.depot_rows.specs.depot_model.Deeds.{Deed}
use Rattle.depot_rows.specs.depot_model.Records.{digest, rev_record, unplaced}
use Rattle.depot_rows.specs.depot_model.Revisions.{Revision, revision, revision_in}
use Rattle.depot_rows.specs.depot_model.declared.reply.Field.{Field}
use Rattle.depot_rows.specs.depot_model.declared.reply.Row.{Row}
use Rattle.depot_rows.specs.Standing.{Stand, row_in}
use Rattle.depot_rows.specs.table_changes.Changed.{AllRows}
use Rattle.depot_facts.proofs.Nowhere.{no_revisions}
use Rattle.recovery.specs.Standing.{HasContent, HasContents}
use Rattle.replica_replies.specs.Prints.{IsShown}
use Rattle.revision_reads.proofs.FileRows.{number_small, rev_row}
use Rattle.replica_answers.specs.Printing.{AreGiven, EndsBehind, Gives, GrowsTo, IsFaultOf, IsGiven, IsGivenIn, IsRowOf, IsUnfit}
use Rattle.replica_answers.specs.declared.printing.PrintFault.{PrintFault}
use Rattle.replica_answers.specs.declared.printing.PrintFault.TheVariants.{Absent, BadContent, Failed, Memory}

-- ---- more bytes of an archive

pub has_more : (before now : List ℕ) (spot : Spot) (bytes : List ℕ) → IsFront before now → Has before spot bytes → Has now spot bytes
has_more before now spot bytes front has =
    let le = has.within in
    let longer = ap length front.is ∙ length-append before front.more in
    let same : take (length before) now ≡ before = ap (take (length before)) front.is ∙ take-append_seam before front.more in
    record {
      within = omega (arith, le, longer);
      is = front_of spot.at spot.length (length before) now le ∙ ap (λ (l : List ℕ). take spot.length (drop spot.at l)) same ∙ has.is;
    }

pub front_longer : (before now : List ℕ) → IsFront before now → length before ≤ length now
front_longer before now front = let longer = ap length front.is ∙ length-append before front.more in omega (arith, longer)

pub fronts : (before mid now : List ℕ) → IsFront before mid → IsFront mid now → IsFront before now
fronts before mid now one two =
    record { more = one.more ++ two.more; is = two.is ∙ (ap (λ (l : List ℕ). l ++ two.more) one.is ∙ append_assoc before one.more two.more) }

pub contents_more : (before now : List ℕ) (all : AllRows) (d : List Deed) → IsFront before now → HasContents before all d → HasContents now all d
contents_more before now all d front has path n r bytes there content =
    let found = has path n r bytes there content in
    (found.0, found.1, has_more before now (record { at = found.0.at; length = found.0.length }) bytes front found.2)

-- ---- the numbers of revisions

some_none : {A : Type 0} {x : A} → None ≡ Some x → ⊥
some_none e = cc

module _ (d : List Deed) (all : AllRows) (stand : Stand all d) where
  pathed : (path : List ℕ) (n : ℕ) (r : Revision) → revision d path n ≡ Some r → is_path path ≡ true
  pathed path zero r there = absurd cc
  pathed path (suc n) r there = go (is_path path) refl
    where
      go : (b : Bool) → is_path path ≡ b → is_path path ≡ true
      go true is = is
      go false is = absurd (some_none (ap (λ (revs : List Revision). revision_in revs (suc n)) (sym (no_revisions d stand.sound.paths path is)) ∙ there))

  own : (path : List ℕ) (n : ℕ) (r : Revision) → revision d path n ≡ Some r → path_of (printed path) ≡ Ok path
  own path n r there = prints_path path (pathed path n r there)

  small : (path : List ℕ) (n : ℕ) (r : Revision) → revision d path n ≡ Some r → n < 2 ^ 64
  small path zero r there = omega arith
  small path (suc n) r there = let le = number_small d path (own path (suc n) r there) stand.sound n r there in omega (arith, le)

-- ---- the row

abbrev file_in : List Field → List ℕ
file_in (field ∷ fields) = field.value
file_in [] = []

abbrev rev_in : List Field → List ℕ
rev_in (file ∷ field ∷ fields) = field.value
rev_in _ = []

abbrev digest_in : Record → List ℕ
digest_in (records.Rev row) = row.digest
digest_in _ = []

abbrev digest_of : Option (List ℕ) → List ℕ
digest_of content = elim content [ None ↦ [] | Some bytes ↦ digest bytes ]

same_row : {a b : RevRecord} → Some (records.Rev a) ≡ Some (records.Rev b) → a ≡ b
same_row e = cc

same_record : {a b : Record} → Some a ≡ Some b → a ≡ b
same_record e = cc

module _ (all : AllRows) (d : List Deed) (stand : Stand all d) (bytes : List ℕ) (has : HasContents bytes all d) (row : Row) (content : List ℕ) (shown : IsShown d row content)
    (revision_row : RevRecord) (is : IsRowOf all row revision_row) where
  found : (r : RevRecord) × (row_in all (keys.Rev (printed shown.path) shown.rev) ≡ Some (records.Rev r)) × HasContent bytes r content
  found = has shown.path shown.rev shown.made content shown.there shown.content_is

  file_same : is.file ≡ printed shown.path
  file_same = ap file_in (sym is.shows.fields ∙ shown.shows.fields)

  rev_same : is.rev ≡ shown.rev
  rev_same =
      let low = is.small in
      decimal_injective is.rev shown.rev (omega (arith, low)) (small d all stand shown.path shown.rev shown.made shown.there) (ap rev_in (sym is.shows.fields ∙ shown.shows.fields))

  one : revision_row ≡ found.0
  one = same_row (sym is.there ∙ (λ i. row_in all (keys.Rev (file_same i) (rev_same i))) ∙ found.1)

  -- the archive has the content at its spot
  pub there : HasContent bytes revision_row content
  there = subst (λ (r : RevRecord). HasContent bytes r content) (sym one) found.2

  -- and it has the content's digest
  pub digested : revision_row.digest ≡ digest content
  digested =
      let key = keys.Rev (printed shown.path) shown.rev in
      let record_is : Some (unplaced (records.Rev found.0)) ≡ Some (rev_record shown.rev shown.made) =
      ap (option_map unplaced) (sym found.1)
      ∙ (stand.each tables.Rev key refl
      ∙ (rev_row d shown.path (own d all stand shown.path shown.rev shown.made shown.there) shown.rev ∙ ap (option_map (rev_record shown.rev)) shown.there)) in
      ap (λ (r : RevRecord). r.digest) one ∙ (ap digest_in (same_record record_is) ∙ ap digest_of shown.content_is)

  -- so what is read there, of this archive or of one with more bytes, is the content
  pub read_is : (now text : List ℕ) → IsFront bytes now → Has now (record { at = revision_row.at; length = revision_row.length }) text → text ≡ content
  read_is now text front read =
      let more = has_more bytes now (record { at = revision_row.at; length = revision_row.length }) content front there in
      sym read.is ∙ more.is

  -- nothing is wrong with it
  pub not_behind : EndsBehind bytes revision_row → ⊥
  not_behind behind = let within = there.within in omega (arith, within, behind)

-- ---- what is given

-- contents that are given are in an archive with more bytes
pub given_more : (all : AllRows) (before now : List ℕ) (rows : List Row) → IsFront before now → AreGiven all before rows → AreGiven all now rows
given_more all before now [] front given = tt
given_more all before now (row ∷ rows) front given = (
  λ content is.
      let own = given.0 content is in
      let r = own.revision in
      record { revision = r; is = own.is; digested = own.digested; there = has_more before now (record { at = r.at; length = r.length }) content front own.there },
  given_more all before now rows front given.1,
)

-- a content that is given is in the row into which it is put
pub given_in : (all : AllRows) (now : List ℕ) (row : Row) (content : List ℕ) → IsGiven all now row content → IsGivenIn all now (record { fields = row.fields; content = Some content })
given_in all now row content given other is =
    let own = given.is in
    subst (IsGiven all now (record { fields = row.fields; content = Some content })) (same_content is)
    (record {
      revision = given.revision;
      is = record {
        file = own.file;
        rev = own.rev;
        small = own.small;
        shows = record { more = own.shows.more; fields = own.shows.fields };
        there = own.there;
      };
      digested = given.digested;
      there = given.there;
    })
  where
    same_content : {x y : List ℕ} → Some x ≡ Some y → x ≡ y
    same_content e = cc

-- no byte came
pub front_same : (before : List ℕ) → IsFront before before
front_same before = record { more = []; is = sym (append-nil before) }

-- ---- a fault that is handed on

pub gives_fault : {T : Type 0} (P : T → Type 0) (fault : PrintFault) → ((at : ℕ) → fault ≡ Absent at → ⊥) → ((at : ℕ) → fault ≡ BadContent at → ⊥) → Gives P (Err fault)
gives_fault P Failed absent bad = tt
gives_fault P Memory absent bad = tt
gives_fault P (Absent at) absent bad = absent at refl
gives_fault P (BadContent at) absent bad = bad at refl

pub gives_on : {S T : Type 0} (P : S → Type 0) (Q : T → Type 0) (fault : PrintFault) → Gives P (Err fault) → Gives Q (Err fault)
gives_on P Q Failed is = tt
gives_on P Q Memory is = tt
gives_on P Q (Absent at) is = is
gives_on P Q (BadContent at) is = is

-- for want of memory nothing is wrong
pub memory_tells : {T : Type 0} (Tells : List ℕ → Type 0) (P : List ℕ → PrintFault → Type 0) (before now : List ℕ) → Tells now → IsFront before now → P now Memory → (result : Result T PrintFault)
    → result ≡ Err Memory → IfErr result (λ fault. GrowsTo Tells before (λ now. P now fault))
memory_tells Tells P before now told front so result is = subst (λ r. IfErr r (λ fault. GrowsTo Tells before (λ now. P now fault))) (sym is) (now, (told, (front, so)))

pub fault_is : (all : AllRows) (bytes : List ℕ) (row : Row) (fault : PrintFault) → ((at : ℕ) → fault ≡ Absent at → IsUnfit all row (EndsBehind bytes) at) → ((at : ℕ) → fault ≡ BadContent at → ⊥)
    → IsFaultOf all bytes row fault
fault_is all bytes row Failed absent bad = tt
fault_is all bytes row Memory absent bad = tt
fault_is all bytes row (Absent at) absent bad = absent at refl
fault_is all bytes row (BadContent at) absent bad = absurd (bad at refl)

-- two pieces, one behind the other
pub joined : (now : List ℕ) (at n m : ℕ) (front behind : List ℕ) → Has now (record { at = at; length = n }) front → Has now (record { at = at + n; length = m }) behind
    → Has now (record { at = at; length = n + m }) (front ++ behind)
joined now at n m front behind one two = record {
  within = (let within = two.within in omega (arith, within));
  is = take-add n m (drop at now) ∙ (λ i. one.is i ++ ((ap (take m) (drop-drop n at now) ∙ two.is) i));
}
