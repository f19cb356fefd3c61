-- The records that were read of a group that isn't whole are all that stand there whole.
use Rattle.std.proofs.Common.{◌≡◌, ℕ, ◌+◌, ◌-◌, ◌≤◌, Bool, inl, inr, Err, List, [], ◌∷◌, ◌++◌, length, drop, refl, sym, ap, subst, ◌∙◌, arith, length-append, length-drop}
use Rattle.db_records.specs.declared.change.Change.{Change}
use Rattle.record_text.specs.declared.fault.Part.{Part}
use Rattle.record_text.specs.declared.fault.RecordFault.{RecordFault}
use Rattle.record_text.specs.declared.fault.RecordFault.TheVariants as faults
use Rattle.record_text.specs.Answers.{Fails}
use Rattle.record_text.specs.Reading.{Reading, Done, Ends, Wrong}
use Rattle.journal_groups.specs.declared.body.Body.{Body}
use Rattle.journal_groups.specs.Groups.{AreRecords, GroupBegins, body_of, change_text, head_of, mark, open_byte}
use Rattle.journal_groups.specs.Reading.{head_at, window_at, mark_at, next_at, placed}
use Rattle.journal_groups.specs.Reader.{AreAllRecords, BeginsAt, HasBody, HasReadAll, HasRecords, IfOfBytes, IfOfText}
use Rattle.journal_groups.proofs.Bodies.{window_again}
use Rattle.journal_groups.proofs.Texts.{body_cons, length_cons, head_again, mark_again}
use Rattle.journal_groups.proofs.Whole.{next_part, next_fails}

abbrev done : {A : Type 0} → A → List ℕ → Reading A
done a rest = Done a rest

done_is : {A : Type 0} (a b : A) (r s : List ℕ) → done a r ≡ Done b s → (a ≡ b) × (r ≡ s)
done_is a b r s e = (cc, cc)

no_ends : {A : Type 0} (a : A) (rest : List ℕ) → done a rest ≡ Ends → ⊥
no_ends a rest e = cc

no_wrong : {A : Type 0} (a : A) (rest : List ℕ) (part : Part) (left : ℕ) → done a rest ≡ Wrong part left → ⊥
no_wrong a rest part left e = cc

-- no record stands there
abbrev pub NoRecord : ℕ → List ℕ → Type 0
NoRecord size bytes = (change : Change) (rest : List ℕ) → window_at size bytes ≡ Done change rest → ⊥

never_read : (fault : RecordFault) (P : Type 0) (size : ℕ) (bytes : List ℕ) → Fails fault (window_at size bytes) → (NoRecord size bytes → P) → IfOfBytes fault P
never_read faults.Memory P size bytes e leads = tt
never_read faults.Cut P size bytes e leads = leads (λ change rest is. no_ends change rest (sym is ∙ e))
never_read (faults.Wrong part left) P size bytes e leads = leads (λ change rest is. no_wrong change rest part left (sym is ∙ e))

-- records of one text are those of the other, as far as they go
pub same_first : (xs ys : List Change) (size left : ℕ) (rest after : List ℕ) → AreRecords xs → AreRecords ys → size ≡ length (body_of xs) + left → length (body_of ys) ≤ size → body_of xs ++ rest ≡ body_of ys ++ after → NoRecord left rest → (behind : List Change) × (xs ≡ ys ++ behind)
same_first xs [] size left rest after are other is le e none = (xs, refl)
same_first [] (y ∷ ys) size left rest after are other is le e none =
    let short : length (change_text y) ≤ left = omega (arith, is, le, length_cons y ys) in
    absurd (none y (body_of ys ++ after) (ap (window_at left) (e ∙ body_cons y ys after) ∙ window_again left y (body_of ys ++ after) other.0 short))
same_first (x ∷ xs) (y ∷ ys) size left rest after are other is le e none =
    let one = window_again size x (body_of xs ++ rest) are.0 (omega (arith, is, length_cons x xs)) in
    let two = window_again size y (body_of ys ++ after) other.0 (omega (arith, le, length_cons y ys)) in
    let texts = sym (body_cons x xs rest) ∙ e ∙ body_cons y ys after in
    let same = done_is x y (body_of xs ++ rest) (body_of ys ++ after) (sym one ∙ ap (window_at size) texts ∙ two) in
    let ih = same_first xs ys (size - length (change_text x)) left rest after are.1 other.1 (omega (arith, is, length_cons x xs)) (omega (arith, le, length_cons y ys, ap (λ (c : Change). length (change_text c)) same.0)) same.1 none in
    (ih.0, ap (λ (c : List Change). x ∷ c) ih.1 ∙ ap (λ (c : Change). c ∷ (ys ++ ih.0)) same.0)

behind_mark : {xs ys : List ℕ} → mark open_byte ++ xs ≡ mark open_byte ++ ys → xs ≡ ys
behind_mark e = cc

-- with no record behind them
all_records : (number : ℕ) (bytes : List ℕ) (body : Body) → HasBody number bytes body → NoRecord body.size (drop body.read bytes) → AreAllRecords number bytes body.changes
all_records number bytes body has none = λ group changes at end opened begins.
    let behind = body_of body.changes ++ drop body.read bytes in
    let parts : group ≡ head_of number has.size ++ behind = behind_mark (sym opened ∙ has.text) in
    let one = ap (head_at number) parts ∙ head_again number has.size behind has.wide in
    let two = ap (head_at number) begins.parts ∙ head_again number begins.size (body_of changes ++ begins.rest) begins.wide in
    let same = done_is has.size begins.size behind (body_of changes ++ begins.rest) (sym one ∙ two) in
    same_first body.changes changes has.size body.size (drop body.read bytes) begins.rest has.are_records begins.are_records has.size_is (omega (arith, same.0, begins.within)) same.1 none

begins_at : (number at : ℕ) (bytes : List ℕ) (body : Body) → HasBody number bytes body → BeginsAt number at bytes body.changes (at + body.read)
begins_at number at bytes body has =
    let group = head_of number has.size ++ (body_of body.changes ++ drop body.read bytes) in
    record {
      group = group;
      opened = has.text;
      begins = record {
        size = has.size;
        rest = drop body.read bytes;
        wide = has.wide;
        are_records = has.are_records;
        within = omega (arith, has.size_is);
        parts = refl;
        ends = omega (arith, has.within, length-drop body.read bytes, ap length has.text, length-append (mark open_byte) group);
      };
    }

pub body_records : (number at : ℕ) (bytes : List ℕ) (body : Body) (fault : RecordFault) → HasBody number bytes body → Fails fault (window_at body.size (drop body.read bytes)) → IfOfBytes fault (HasRecords number at bytes body.changes (at + body.read))
body_records number at bytes body fault has e =
    never_read fault (HasRecords number at bytes body.changes (at + body.read)) body.size (drop body.read bytes) e
    (λ none. record { there = inr (begins_at number at bytes body has); all = all_records number bytes body has none })

-- no group stands there
pub no_mark : (number : ℕ) (bytes : List ℕ) (fault : RecordFault) → Fails fault (mark_at bytes) → IfOfBytes fault (AreAllRecords number bytes [])
no_mark number bytes faults.Memory e = tt
no_mark number bytes faults.Cut e = λ group changes at end opened begins. absurd (no_ends _ group (sym (ap mark_at opened ∙ mark_again open_byte group) ∙ e))
no_mark number bytes (faults.Wrong part left) e = λ group changes at end opened begins. absurd (no_wrong _ group part left (sym (ap mark_at opened ∙ mark_again open_byte group) ∙ e))

behind_is : (bytes rest group : List ℕ) (o : Bool) → mark_at bytes ≡ Done o rest → bytes ≡ mark open_byte ++ group → rest ≡ group
behind_is bytes rest group o e opened = (done_is o _ rest group (sym e ∙ ap mark_at opened ∙ mark_again open_byte group)).1

head_is : (number at : ℕ) (group : List ℕ) (changes : List Change) (end : ℕ) (b : GroupBegins number at group changes end) → head_at number group ≡ Done b.size (body_of changes ++ b.rest)
head_is number at group changes end b = ap (head_at number) b.parts ∙ head_again number b.size (body_of changes ++ b.rest) b.wide

pub no_head : (number : ℕ) (bytes rest : List ℕ) (o : Bool) (fault : RecordFault) → mark_at bytes ≡ Done o rest → Fails fault (head_at number rest) → IfOfBytes fault (AreAllRecords number bytes [])
no_head number bytes rest o faults.Memory e f = tt
no_head number bytes rest o faults.Cut e f = λ group changes at end opened begins.
    absurd (no_ends begins.size (body_of changes ++ begins.rest) (sym (head_is number at group changes end begins) ∙ ap (head_at number) (sym (behind_is bytes rest group o e opened)) ∙ f))
no_head number bytes rest o (faults.Wrong part left) e f = λ group changes at end opened begins.
    absurd (no_wrong begins.size (body_of changes ++ begins.rest) part left (sym (head_is number at group changes end begins) ∙ ap (head_at number) (sym (behind_is bytes rest group o e opened)) ∙ f))

-- nothing was read
pub none_records : (number at : ℕ) (bytes : List ℕ) (records : List Change) (reached : ℕ) (fault : RecordFault) → records ≡ [] → IfOfBytes fault (AreAllRecords number bytes []) → IfOfBytes fault (HasRecords number at bytes records reached)
none_records number at bytes records reached faults.Memory none all = tt
none_records number at bytes records reached faults.Cut none all = record { there = inl none; all = subst (AreAllRecords number bytes) (sym none) all }
none_records number at bytes records reached (faults.Wrong part left) none all = record { there = inl none; all = subst (AreAllRecords number bytes) (sym none) all }

-- the fault with its place
pub of_text : (at length : ℕ) (fault : RecordFault) (P : Type 0) → IfOfBytes fault P → IfOfText (placed at length fault) P
of_text at length faults.Memory P holds = tt
of_text at length faults.Cut P holds = holds
of_text at length (faults.Wrong part left) P holds = holds

-- ---- a fault of the next record

-- what it says of the bytes that are left, and what was read of them
pub record HasFailed (number at : ℕ) (left : List ℕ) (body : Body) (fault : RecordFault) : Type 0 where
  pub has : HasBody number left body
  pub fails : Fails fault (next_at number left)
  pub records : IfOfBytes fault (HasRecords number at left body.changes (at + body.read))

pub failed : (number at : ℕ) (left bytes : List ℕ) (old new : Body) (fault : RecordFault) → HasBody number left old → bytes ≡ left → HasReadAll {X = Unit {0}} bytes old new (Err fault) → HasFailed number at left new fault
failed number at left bytes old new fault has same e =
    let all = subst (λ (t : List ℕ). HasReadAll {X = Unit {0}} t old new (Err fault)) same e in
    let now = next_part number left old new has all.2 in
    record { has = now; fails = next_fails number left new fault now all.0 all.1; records = body_records number at left new fault now all.1 }
