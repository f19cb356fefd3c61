-- The reader of records reads what is spelled so: the parts' laws, one after another.
use Rattle.std.proofs.Common.{◌≡◌, ℕ, ◌+◌, ◌≤◌, Bool, true, false, List, [], ◌∷◌, ◌++◌, length, refl, sym, ap, subst, ◌∙◌, arith, ◌⊎◌, inl, inr, length-append}
use Rattle.std.specs.Str.{bytes_eq}
use Rattle.std.proofs.lemmas.Bool.{not-true, or_cases, or_from, not_from_false, false_from_ne_true, both_ways}
use Rattle.db_records.specs.declared.change.Op.{Op}
use Rattle.db_records.specs.declared.change.Op.TheVariants.{Put, Replace, Remove}
use Rattle.db_records.specs.declared.record.Record.{Record}
use Rattle.db_records.specs.declared.record.Record.TheVariants as rows
use Rattle.db_records.specs.declared.rows.WorkingRecord.{WorkingRecord}
use Rattle.db_records.specs.declared.rows.RevRecord.{RevRecord}
use Rattle.record_text.specs.declared.fault.Part.{Part}
use Rattle.record_text.specs.declared.fault.Part.TheVariants.{Operator, Table, Field}
use Rattle.record_text.specs.declared.fault.Part.TheVariants as parts
use Rattle.record_text.specs.declared.layout.Layout as declared
use Rattle.record_text.specs.declared.layout.Layout.TheVariants.{Counter, Group, Protect, Domain, Have, Label, Integed, Resolve, Working, MovedWorking, Change, Rev, MovedRev}
use Rattle.record_text.specs.declared.layout.Version.{Version}
use Rattle.record_text.specs.declared.layout.Version.TheVariants.{One, Two}
use Rattle.record_text.specs.declared.text.MoveAction.{MoveAction}
use Rattle.record_text.specs.declared.text.MoveAction.TheVariants.{Add, Delete}
use Rattle.record_text.specs.Reading.{Reading, Done, Ends, Wrong, and_then, Reads}
use Rattle.record_text.specs.Spelling.{spelled_text}
use Rattle.record_text.specs.Words.{word_at}
use Rattle.record_text.specs.Layout.{Kind, Line, Count, Wide, Word, Action, Move, Value, Values, version_text, versions, table_text, layouts, version_of, kinds_of, record_of, move_add, move_delete, is_move, Parts, working_parts, rev_parts, parts_of}
use Rattle.record_text.specs.Grammar.{largest_count, largest_wide, any, is_plain, Fits, spelled, move_text, spelled_move, move_actions, field_at, ender_before, AllFit, all_spelled, fields_at, operator_text, operators, row_at, record_at, parts_spelling, spelling, HasNoOther, IsRecord}
use Rattle.record_text.proofs.Chains.{both_at, both_fit, both_spell, both_reads, see, mapped_reads}
use Rattle.record_text.proofs.Numbers.{number_reads}
use Rattle.record_text.proofs.Texts.{Allowed, text_reads}
use Rattle.record_text.proofs.Words.{word_reads, bytes_are}

-- ---- fields

too_long : (text : List ℕ) → 12 ≤ length text → is_move text ≡ false
too_long text long =
    or_from (bytes_eq text move_add) (bytes_eq text move_delete)
    (false_from_ne_true _ (λ e. let l : length text ≡ 8 = ap length (bytes_are text move_add e) in omega arith))
    (false_from_ne_true _ (λ e. let l : length text ≡ 11 = ap length (bytes_are text move_delete e) in omega arith))

twelve : List ℕ
twelve = 120 ∷ 120 ∷ 120 ∷ 120 ∷ 120 ∷ 120 ∷ 120 ∷ 120 ∷ 120 ∷ 120 ∷ 120 ∷ 120 ∷ []

plain_goes_on : (kept : List ℕ) → (more : List ℕ) × Allowed is_plain (kept ++ more)
unfolding twelve
plain_goes_on kept = (twelve, not_from_false (is_move (kept ++ twelve)) (too_long (kept ++ twelve) (let l : length (kept ++ twelve) ≡ length kept + 12 = length-append kept twelve in omega arith)))

move_is : (text : List ℕ) → is_move text ≡ true → (text ≡ move_add) ⊎ (text ≡ move_delete)
move_is text e =
    elim (or_cases (bytes_eq text move_add) (bytes_eq text move_delete) e) [
      | inl h ↦ inl (bytes_are text move_add h)
      | inr h ↦ inr (bytes_are text move_delete h)
    ]

is_one : (move : MoveAction) → is_move (move_text move) ≡ true
is_one Add = refl
is_one Delete = refl

abbrev moves_at : ℕ → List ℕ → Reading MoveAction
moves_at ender bytes = word_at (spelled_move ender) move_actions Field bytes

move_back : (text : List ℕ) → Allowed is_move text → (move : MoveAction) × (Unit {0}) × (move_text move ≡ text)
move_back text fits = elim (move_is text fits) [ inl e ↦ (Add, tt, sym e) | inr e ↦ (Delete, tt, sym e) ]

again_space : (move : MoveAction) (rest : List ℕ) → moves_at 0x20 (spelled_move 0x20 move ++ rest) ≡ Done move rest
again_space Add rest = refl
again_space Delete rest = refl

again_line : (move : MoveAction) (rest : List ℕ) → moves_at 0x0A (spelled_move 0x0A move ++ rest) ≡ Done move rest
again_line Add rest = refl
again_line Delete rest = refl

abbrev Each : MoveAction → Type 0
Each move = Unit {0}

move_reads : (ender : ℕ) → ((move : MoveAction) (rest : List ℕ) → moves_at ender (spelled_move ender move ++ rest) ≡ Done move rest) → Reads (λ bytes. see move_text (moves_at ender bytes)) (Allowed is_move) (spelled_text ender)
move_reads ender again =
    mapped_reads (moves_at ender) Each (spelled_move ender) move_text (Allowed is_move) (spelled_text ender)
    (word_reads (spelled_move ender) move_actions Field Each (tt, (tt, tt)) (record { value = Add; fits = tt; next = _; more = _; whole = refl }) (λ move rest fits. again move rest))
    (λ move fits. (is_one move, refl)) move_back

field_reads : (kind : Kind) (kinds : List Kind) → Reads (field_at kind (ender_before kinds)) (Fits kind) (spelled kind (ender_before kinds))
field_reads Line [] = number_reads 1 largest_count 0x0A (omega arith) (omega arith) (omega arith) (omega arith)
field_reads Line (k ∷ kinds) = number_reads 1 largest_count 0x20 (omega arith) (omega arith) (omega arith) (omega arith)
field_reads Count [] = number_reads 0 largest_count 0x0A (omega arith) (omega arith) (omega arith) (omega arith)
field_reads Count (k ∷ kinds) = number_reads 0 largest_count 0x20 (omega arith) (omega arith) (omega arith) (omega arith)
field_reads Wide [] = number_reads 0 largest_wide 0x0A (omega arith) (omega arith) (omega arith) (omega arith)
field_reads Wide (k ∷ kinds) = number_reads 0 largest_wide 0x20 (omega arith) (omega arith) (omega arith) (omega arith)
field_reads Word [] = text_reads any 0x0A refl (λ kept. ([], refl))
field_reads Word (k ∷ kinds) = text_reads any 0x20 refl (λ kept. ([], refl))
field_reads Action [] = text_reads is_plain 0x0A refl plain_goes_on
field_reads Action (k ∷ kinds) = text_reads is_plain 0x20 refl plain_goes_on
field_reads Move [] = move_reads 0x0A again_line
field_reads Move (k ∷ kinds) = move_reads 0x20 again_space

some_field : (kind : Kind) → (x : Value kind) × Fits kind x
some_field Line = (1, (omega arith, omega arith))
some_field Count = (0, (omega arith, omega arith))
some_field Wide = (0, (omega arith, omega arith))
some_field Word = ([], refl)
some_field Action = ([], refl)
some_field Move = (move_add, refl)

some_fields : (kinds : List Kind) → (x : Values kinds) × AllFit kinds x
some_fields [] = (tt, tt)
some_fields (kind ∷ kinds) =
    let a = some_field kind in
    let b = some_fields kinds in
    ((a.0, b.0), (a.1, b.1))

abbrev values_at : (kinds : List Kind) → List ℕ → Reading (Values kinds)
values_at [] bytes = Done tt bytes
values_at (kind ∷ kinds) bytes = both_at (field_at kind (ender_before kinds)) (λ x. values_at kinds) bytes

nothing_done : (bytes rest : List ℕ) (x : Unit {0}) → (let r : Reading (Unit {0}) = Done tt bytes in r) ≡ Done x rest → bytes ≡ rest
nothing_done bytes rest x e = cc

nothing_ends : (bytes : List ℕ) → (let r : Reading (Unit {0}) = Done tt bytes in r) ≡ Ends → ⊥
nothing_ends bytes e = cc

nothing_wrong : (bytes : List ℕ) (part : Part) (left : ℕ) → (let r : Reading (Unit {0}) = Done tt bytes in r) ≡ Wrong part left → ⊥
nothing_wrong bytes part left e = cc

values_read : (kinds : List Kind) → Reads (values_at kinds) (AllFit kinds) (all_spelled kinds)
values_read [] = record {
  done = λ bytes x rest e. (tt, nothing_done bytes rest x e);
  again = λ x rest fits. refl;
  ends = λ bytes e. absurd (nothing_ends bytes e);
  wrong = λ bytes part left e. absurd (nothing_wrong bytes part left e);
}
values_read (kind ∷ kinds) =
    both_reads (field_at kind (ender_before kinds)) (λ x. values_at kinds) (Fits kind) (spelled kind (ender_before kinds)) (λ x. AllFit kinds) (λ x. all_spelled kinds)
    (field_reads kind kinds) (λ x fits. values_read kinds) (λ x fits. some_fields kinds)

-- ---- the words before the fields

-- the layouts of a version
abbrev HasLayout : Version → declared.Layout → Type 0
HasLayout version layout = version_of layout ≡ version

operator_again : (op : Op) (rest : List ℕ) → word_at operator_text operators Operator (operator_text op ++ rest) ≡ Done op rest
operator_again Put rest = refl
operator_again Replace rest = refl
operator_again Remove rest = refl

version_again : (version : Version) (rest : List ℕ) → word_at version_text versions parts.Version (version_text version ++ rest) ≡ Done version rest
version_again One rest = refl
version_again Two rest = refl

layout_again : (layout : declared.Layout) (rest : List ℕ) → word_at table_text (layouts (version_of layout)) Table (table_text layout ++ rest) ≡ Done layout rest
layout_again Counter rest = refl
layout_again Group rest = refl
layout_again Protect rest = refl
layout_again Domain rest = refl
layout_again Have rest = refl
layout_again Label rest = refl
layout_again Integed rest = refl
layout_again Resolve rest = refl
layout_again Working rest = refl
layout_again MovedWorking rest = refl
layout_again Change rest = refl
layout_again Rev rest = refl
layout_again MovedRev rest = refl

operator_reads : Reads (word_at operator_text operators Operator) (λ op. Unit {0}) operator_text
operator_reads = word_reads operator_text operators Operator (λ op. Unit {0}) (tt, (tt, (tt, tt))) (record { value = Put; fits = tt; next = _; more = _; whole = refl }) (λ op rest fits. operator_again op rest)

version_reads : Reads (word_at version_text versions parts.Version) (λ version. Unit {0}) version_text
version_reads = word_reads version_text versions parts.Version (λ version. Unit {0}) (tt, (tt, tt)) (record { value = One; fits = tt; next = _; more = _; whole = refl }) (λ version rest fits. version_again version rest)

layout_back : (version : Version) (layout : declared.Layout) (rest : List ℕ) → HasLayout version layout → word_at table_text (layouts version) Table (table_text layout ++ rest) ≡ Done layout rest
layout_back version layout rest has = ap (λ (v : Version). word_at table_text (layouts v) Table (table_text layout ++ rest)) (sym has) ∙ layout_again layout rest

layout_reads : (version : Version) → Reads (word_at table_text (layouts version) Table) (HasLayout version) table_text
layout_reads One = word_reads table_text (layouts One) Table (HasLayout One) (refl, (refl, (refl, (refl, (refl, (refl, (refl, (refl, (refl, (refl, (refl, tt))))))))))) (record { value = Counter; fits = refl; next = _; more = _; whole = refl }) (λ layout rest has. layout_back One layout rest has)
layout_reads Two = word_reads table_text (layouts Two) Table (HasLayout Two) (refl, (refl, tt)) (record { value = MovedWorking; fits = refl; next = _; more = _; whole = refl }) (λ layout rest has. layout_back Two layout rest has)

abbrev RowFits : Version → Parts → Type 0
RowFits version row = both_fit (HasLayout version) (λ layout. AllFit (kinds_of layout)) row

abbrev row_spelling : Parts → List ℕ
row_spelling row = table_text row.0 ++ all_spelled (kinds_of row.0) row.1

abbrev row_parts_at : Version → List ℕ → Reading Parts
row_parts_at version bytes = both_at (word_at table_text (layouts version) Table) (λ layout. values_at (kinds_of layout)) bytes

row_reads : (version : Version) → Reads (row_parts_at version) (RowFits version) row_spelling
row_reads version = both_reads (word_at table_text (layouts version) Table) (λ layout. values_at (kinds_of layout)) (HasLayout version) table_text (λ layout. AllFit (kinds_of layout)) (λ layout. all_spelled (kinds_of layout))
    (layout_reads version) (λ layout has. values_read (kinds_of layout)) (λ layout has. some_fields (kinds_of layout))

some_layout : (version : Version) → (layout : declared.Layout) × HasLayout version layout
some_layout One = (Counter, refl)
some_layout Two = (MovedWorking, refl)

some_row : (version : Version) → (row : Parts) × RowFits version row
some_row version =
    let l = some_layout version in
    let s = some_fields (kinds_of l.0) in
    ((l.0, s.0), (l.1, s.1))

-- a version and a row that it has
abbrev versioned_at : List ℕ → Reading ((version : Version) × Parts)
versioned_at bytes = both_at (word_at version_text versions parts.Version) row_parts_at bytes

abbrev VersionedFits : ((version : Version) × Parts) → Type 0
VersionedFits x = both_fit (λ version. Unit {0}) RowFits x

abbrev versioned_spelling : ((version : Version) × Parts) → List ℕ
versioned_spelling x = both_spell version_text (λ version. row_spelling) x

versioned_reads : Reads versioned_at VersionedFits versioned_spelling
versioned_reads = both_reads (word_at version_text versions parts.Version) row_parts_at (λ version. Unit {0}) version_text RowFits (λ version. row_spelling) version_reads (λ version fits. row_reads version) (λ version fits. some_row version)

abbrev Whole : Type 0
Whole = (op : Op) × ((version : Version) × Parts)

abbrev whole_at : List ℕ → Reading Whole
whole_at bytes = both_at (word_at operator_text operators Operator) (λ op. versioned_at) bytes

abbrev WholeFits : Whole → Type 0
WholeFits whole = both_fit (λ op. Unit {0}) (λ op. VersionedFits) whole

abbrev whole_spelling : Whole → List ℕ
whole_spelling whole = both_spell operator_text (λ op. versioned_spelling) whole

some_versioned : (x : (version : Version) × Parts) × VersionedFits x
some_versioned = let s = some_row One in ((One, s.0), (tt, s.1))

whole_reads : Reads whole_at WholeFits whole_spelling
whole_reads = both_reads (word_at operator_text operators Operator) (λ op. versioned_at) (λ op. Unit {0}) operator_text (λ op. VersionedFits) (λ op. versioned_spelling) operator_reads (λ op fits. versioned_reads) (λ op fits. some_versioned)

-- ---- from fields to rows, and back

abbrev made : Parts → Record
made parts = record_of parts.0 parts.1

-- the parts of the row that parts make are these parts
same_parts : (layout : declared.Layout) (x : Values (kinds_of layout)) → AllFit (kinds_of layout) x → parts_of (record_of layout x) ≡ (layout, x)
same_parts Counter x fits = refl
same_parts Group x fits = refl
same_parts Protect x fits = refl
same_parts Domain x fits = refl
same_parts Have x fits = refl
same_parts Label x fits = refl
same_parts Integed x fits = refl
same_parts Resolve x fits = refl
same_parts Working x fits = ap (λ (b : Bool). working_parts b (record { path = x.0; client = x.1.0; base = x.1.1.0; action = x.1.1.1.0; file_type = x.1.1.1.1.0; change = x.1.1.1.1.1.0; lock = x.1.1.1.1.1.1.0; source = x.1.1.1.1.1.1.1.0; source_rev = x.1.1.1.1.1.1.1.1.0; moved = [] })) (not-true (is_move x.1.1.1.0) fits.1.1.1.0)
same_parts Change x fits = refl
same_parts Rev x fits = ap (λ (b : Bool). rev_parts b (record { path = x.0; rev = x.1.0; change = x.1.1.0; action = x.1.1.1.0; file_type = x.1.1.1.1.0; digest = x.1.1.1.1.1.0; length = x.1.1.1.1.1.1.0; at = x.1.1.1.1.1.1.1.0; moved = [] })) (not-true (is_move x.1.1.1.0) fits.1.1.1.0)
same_parts MovedWorking x fits = ap (λ (b : Bool). working_parts b (record { path = x.0; client = x.1.0; base = x.1.1.0; action = x.1.1.1.0; file_type = x.1.1.1.1.0; change = x.1.1.1.1.1.0; lock = x.1.1.1.1.1.1.0; source = x.1.1.1.1.1.1.1.0; source_rev = x.1.1.1.1.1.1.1.1.0; moved = x.1.1.1.1.1.1.1.1.1.0 })) fits.1.1.1.0
same_parts MovedRev x fits = ap (λ (b : Bool). rev_parts b (record { path = x.0; rev = x.1.0; change = x.1.1.0; action = x.1.1.1.0; file_type = x.1.1.1.1.0; digest = x.1.1.1.1.1.0; length = x.1.1.1.1.1.1.0; at = x.1.1.1.1.1.1.1.0; moved = x.1.1.1.1.1.1.1.1.0 })) fits.1.1.1.0

no_other : (layout : declared.Layout) (x : Values (kinds_of layout)) → AllFit (kinds_of layout) x → HasNoOther (record_of layout x)
no_other Working x fits = λ e. refl
no_other MovedWorking x fits = λ e. absurd (both_ways (is_move x.1.1.1.0) e fits.1.1.1.0)
no_other Rev x fits = λ e. refl
no_other MovedRev x fits = λ e. absurd (both_ways (is_move x.1.1.1.0) e fits.1.1.1.0)
no_other _ x fits = tt

-- a row's parts make it again
working_back : (b : Bool) (r : WorkingRecord) → is_move r.action ≡ b → HasNoOther (rows.Working r) → made (working_parts b r) ≡ rows.Working r
working_back true r e other = refl
working_back false r e other = ap (λ (m : List ℕ). rows.Working (record r { moved = m })) (sym (other e))

rev_back : (b : Bool) (r : RevRecord) → is_move r.action ≡ b → HasNoOther (rows.Rev r) → made (rev_parts b r) ≡ rows.Rev r
rev_back true r e other = refl
rev_back false r e other = ap (λ (m : List ℕ). rows.Rev (record r { moved = m })) (sym (other e))

row_back : (row : Record) → HasNoOther row → made (parts_of row) ≡ row
row_back (rows.Working r) other = working_back (is_move r.action) r refl other
row_back (rows.Rev r) other = rev_back (is_move r.action) r refl other
row_back _ other = refl

abbrev to : Whole → Op × Record
to whole = (whole.0, made whole.1.1)

abbrev pub RecordFits : Op × Record → Type 0
RecordFits x = IsRecord x.1

abbrev pub record_text : Op × Record → List ℕ
record_text x = spelling x.0 x.1

-- what the parts say of their row
there : (whole : Whole) → WholeFits whole → RecordFits (to whole) × (record_text (to whole) ≡ whole_spelling whole)
there whole fits =
    let row = whole.1.1 in
    let has : version_of row.0 ≡ whole.1.0 = fits.1.1.0 in
    let e = same_parts row.0 row.1 fits.1.1.1 in
    ((subst (λ (p : Parts). AllFit (kinds_of p.0) p.1) (sym e) fits.1.1.1, no_other row.0 row.1 fits.1.1.1), ap (λ (p : Parts). operator_text whole.0 ++ parts_spelling p) e ∙ ap (λ (v : Version). operator_text whole.0 ++ (version_text v ++ row_spelling row)) has)

back : (x : Op × Record) → RecordFits x → (whole : Whole) × (WholeFits whole × (to whole ≡ x))
back x fits = ((x.0, (version_of (parts_of x.1).0, parts_of x.1)), ((tt, (tt, (refl, fits.0))), ap (λ (row : Record). (x.0, row)) (row_back x.1 fits.1)))

seen_reads : Reads (λ bytes. see to (whole_at bytes)) RecordFits record_text
seen_reads = mapped_reads whole_at WholeFits whole_spelling to RecordFits record_text whole_reads there (λ x fits. let b = back x fits in (b.0, b.1.0, b.1.1))

-- ---- the two ways of putting the parts together are one

then_then : {A B C : Type 0} (r : Reading A) (f : A → List ℕ → Reading B) (g : B → List ℕ → Reading C) → and_then (and_then r f) g ≡ and_then r (λ a rest. and_then (f a rest) g)
then_then (Done a rest) f g = refl
then_then Ends f g = refl
then_then (Wrong part left) f g = refl

then_same : {A B : Type 0} (r : Reading A) (f g : A → List ℕ → Reading B) → ((a : A) (rest : List ℕ) → f a rest ≡ g a rest) → and_then r f ≡ and_then r g
then_same (Done a rest) f g h = h a rest
then_same Ends f g h = refl
then_same (Wrong part left) f g h = refl

fields_are : {A : Type 0} (kinds : List Kind) (to : Values kinds → A) (bytes : List ℕ) → fields_at kinds to bytes ≡ see to (values_at kinds bytes)
fields_are [] to bytes = refl
fields_are (kind ∷ kinds) to bytes =
    then_same (field_at kind (ender_before kinds) bytes) (λ x rest. fields_at kinds (λ xs. to (x, xs)) rest) (λ x rest. and_then (and_then (values_at kinds rest) (λ xs after. Done (x, xs) after)) (λ y after. Done (to y) after))
    (λ x rest. fields_are kinds (λ xs. to (x, xs)) rest ∙ sym (then_then (values_at kinds rest) (λ xs after. Done (x, xs) after) (λ y after. Done (to y) after)))
    ∙ sym (then_then (field_at kind (ender_before kinds) bytes) (λ x rest. and_then (values_at kinds rest) (λ xs after. Done (x, xs) after)) (λ y after. Done (to y) after))

pair_seen : {A C : Type 0} {B : A → Type 0} (first : List ℕ → Reading A) (second : (a : A) → List ℕ → Reading (B a)) (k : ((a : A) × B a) → C) (bytes : List ℕ) → see k (both_at first second bytes) ≡ and_then (first bytes) (λ a rest. see (λ b. k (a, b)) (second a rest))
pair_seen first second k bytes =
    then_then (first bytes) (λ a rest. and_then (second a rest) (λ b after. Done (a, b) after)) (λ y after. Done (k y) after)
    ∙ then_same (first bytes) (λ a rest. see k (and_then (second a rest) (λ b after. Done (a, b) after))) (λ a rest. see (λ b. k (a, b)) (second a rest)) (λ a rest. then_then (second a rest) (λ b after. Done (a, b) after) (λ y after. Done (k y) after))

row_seen : (op : Op) (version : Version) (bytes : List ℕ) → see (λ row. to (op, (version, row))) (row_parts_at version bytes) ≡ and_then (word_at table_text (layouts version) Table bytes) (λ layout rest. and_then (row_at layout rest) (λ row after. Done (op, row) after))
unfolding row_at
row_seen op version bytes =
    pair_seen (word_at table_text (layouts version) Table) (λ layout. values_at (kinds_of layout)) (λ row. to (op, (version, row))) bytes
    ∙ then_same (word_at table_text (layouts version) Table bytes) (λ layout rest. see (λ x. to (op, (version, (layout, x)))) (values_at (kinds_of layout) rest)) (λ layout rest. and_then (row_at layout rest) (λ row after. Done (op, row) after))
    (λ layout rest. sym (ap (λ (r : Reading Record). and_then r (λ row after. Done (op, row) after)) (fields_are (kinds_of layout) (record_of layout) rest) ∙ then_then (values_at (kinds_of layout) rest) (λ x after. Done (record_of layout x) after) (λ row after. Done (op, row) after)))

whole_seen : (bytes : List ℕ) → see to (whole_at bytes) ≡ record_at bytes
whole_seen bytes =
    pair_seen (word_at operator_text operators Operator) (λ op. versioned_at) to bytes
    ∙ then_same (word_at operator_text operators Operator bytes) (λ op rest. see (λ x. to (op, x)) (versioned_at rest)) (λ op rest. and_then (word_at version_text versions parts.Version rest) (λ version rest2. and_then (word_at table_text (layouts version) Table rest2) (λ layout rest3. and_then (row_at layout rest3) (λ row after. Done (op, row) after))))
    (λ op rest. pair_seen (word_at version_text versions parts.Version) row_parts_at (λ x. to (op, x)) rest
    ∙ then_same (word_at version_text versions parts.Version rest) (λ version rest2. see (λ row. to (op, (version, row))) (row_parts_at version rest2)) (λ version rest2. and_then (word_at table_text (layouts version) Table rest2) (λ layout rest3. and_then (row_at layout rest3) (λ row after. Done (op, row) after)))
    (λ version rest2. row_seen op version rest2))

-- what is read is spelled so, what is spelled so is read, and where it ends or stops
pub record_reads : Reads record_at RecordFits record_text
record_reads = record {
  done = λ bytes x rest e. seen_reads.done bytes x rest (whole_seen bytes ∙ e);
  again = λ x rest fits. sym (whole_seen (record_text x ++ rest)) ∙ seen_reads.again x rest fits;
  ends = λ bytes e. seen_reads.ends bytes (whole_seen bytes ∙ e);
  wrong = λ bytes part left e. seen_reads.wrong bytes part left (whole_seen bytes ∙ e);
}
