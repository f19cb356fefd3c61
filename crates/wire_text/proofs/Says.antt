-- What the parts of a script say, read from the front.
use Rattle.std.proofs.Common.{◌≡◌, ℕ, zero, suc, ◌+◌, ◌-◌, ◌<◌, ◌≤◌, Bool, true, false, cond, eqb, ◌||◌, List, [], ◌∷◌, ◌++◌, length, take, Option, Some, None, Result, Ok, Err, refl, sym, ap, ◌∙◌, arith, add-zero, add-one, length-append, append_assoc}
use Rattle.std.specs.Prelude.{nat_lt, is_some, IfSome}
use Rattle.std.specs.Option.{option_to_list}
use Rattle.std.proofs.lemmas.Bool.{lt-ltb, le-ltb}
use Rattle.std.proofs.lemmas.List.{append-nil, take_all, take_at, drop_at, drop_all}
use Rattle.outside_api.specs.Told.{prepended, IsAtEnd}
use Rattle.wire_text.specs.Parts.{upto, past, is_in, IsFree}
use Rattle.wire_text.specs.Intake.{Taken, Moves, Stops}
use Rattle.wire_text.specs.Script.{Point, Part, Entries, block_of, whole_line, first_part, behind, said, entries_from, rest_of, limited, with_front, ends_with, fault_at, stop_place, too_long, max_script}
use Rattle.wire_text.specs.Reading.{GoesOn, Ends, PartCase, stopped_of, end_between}
use Rattle.wire_text.specs.declared.intake.Stop.{Stop}
use Rattle.wire_text.specs.declared.intake.Stop.TheVariants.{End, Over, Failed}
use Rattle.wire_text.specs.declared.entry.Entry.{Entry}
use Rattle.wire_text.specs.declared.part.PartRead.{PartRead}
use Rattle.wire_text.specs.declared.part.PartRead.TheVariants.{Read, Ended, Failed as PartFailed}
use Rattle.wire_text.specs.declared.fault.ScriptFault.{ScriptFault}
use Rattle.wire_text.specs.declared.fault.ScriptFaultKind.{ScriptFaultKind}
use Rattle.wire_text.specs.declared.fault.ScriptFaultKind.TheVariants.{LongLine, BadData, Cut, LongData}
use Rattle.wire_text.proofs.Separators.{upto_line, in_line, not_in, upto_none, upto_long}
use Rattle.wire_text.proofs.Takings.{prepended-prepended, risen_before}

-- ---- lines and blocks

pub long_line : (line more : List ℕ) → IsFree 10 line → 8192 < length line → whole_line (line ++ more) ≡ Err LongLine
long_line line more free long = rw (lt-ltb 8192 (length (upto 10 (line ++ more))) (omega (arith, upto_long 10 line more free))) refl

line_by : Bool → Bool → List ℕ → Result (List ℕ) ScriptFaultKind
line_by long there line = cond long (Err LongLine) (cond there (Ok line) (Err Cut))

line_is : (text line : List ℕ) (there : Bool) → upto 10 text ≡ line → is_in 10 text ≡ there → length line ≤ 8192 → whole_line text ≡ line_by false there line
unfolding line_by
line_is text line there u w short =
    ap (λ (x : List ℕ). line_by (nat_lt 8192 (length x)) (is_in 10 text) x) u
    ∙ (ap (λ (x : Bool). line_by (nat_lt 8192 (length line)) x line) w ∙ ap (λ (x : Bool). line_by x there line) (le-ltb 8192 (length line) short))

pub line_there : (line more : List ℕ) → IsFree 10 line → length line ≤ 8192 → whole_line (line ++ 10 ∷ more) ≡ Ok line
unfolding line_by
line_there line more free short = line_is (line ++ 10 ∷ more) line true (upto_line 10 line more free) (in_line 10 line more free) short

pub line_cut : (line : List ℕ) → IsFree 10 line → length line ≤ 8192 → whole_line line ≡ Err Cut
unfolding line_by
line_cut line free short = line_is line line false (upto_none 10 line free) (not_in 10 line free) short

pub block_there : (n : ℕ) (block more : List ℕ) → length block ≡ n → block_of n (block ++ 10 ∷ more) ≡ Ok block
block_there n block more e = rw (take_at block (10 ∷ more) n e, drop_at block (10 ∷ more) n e) refl

pub block_bad : (n b : ℕ) (block more : List ℕ) → length block ≡ n → eqb b 10 ≡ false → block_of n (block ++ b ∷ more) ≡ Err BadData
block_bad n b block more e differs = rw (take_at block (b ∷ more) n e, drop_at block (b ∷ more) n e, differs) refl

pub block_cut : (n : ℕ) (text : List ℕ) → length text ≤ n → block_of n text ≡ Err Cut
block_cut n text le = rw (drop_all n text le) refl

-- ---- the entries of a text

passed : (p : Point) (read more : List ℕ) → entries_from p (length read) (read ++ more) ≡ entries_from p 0 more
passed p [] more = refl
passed p (b ∷ read) more = passed p read more

module _ (p : Point) (part : Part) where
  one_part : (b : ℕ) (read more : List ℕ) → first_part p (b ∷ (read ++ more)) ≡ Ok part → part.size - 1 ≡ length read → entries_from p 0 (b ∷ (read ++ more)) ≡ with_front (option_to_list part.entry) (entries_from (behind p part) 0 more)
  one_part b read more is size =
      ap (λ (r : Result Part ScriptFaultKind). said r (λ what. ends_with (Some (fault_at what (stop_place what p.place (length (read ++ more) + 1))))) (λ (q : Part). with_front (option_to_list q.entry) (entries_from (behind p q) (q.size - 1) (read ++ more)))) is
      ∙ ap (with_front (option_to_list part.entry)) (ap (λ (n : ℕ). entries_from (behind p part) n (read ++ more)) size ∙ passed (behind p part) read more)

  pub entries_part : (read more : List ℕ) → first_part p (read ++ more) ≡ Ok part → part.size ≡ length read → 0 < length read → entries_from p 0 (read ++ more) ≡ with_front (option_to_list part.entry) (entries_from (behind p part) 0 more)
  entries_part [] more is size some = absurd (omega arith)
  entries_part (b ∷ read) more is size some = one_part b read more is (omega arith)

entries_bad : (p : Point) (what : ScriptFaultKind) (text : List ℕ) → first_part p text ≡ Err what → 0 < length text → entries_from p 0 text ≡ ends_with (Some (fault_at what (stop_place what p.place (length text))))
entries_bad p what [] is some = absurd (omega arith)
entries_bad p what (b ∷ text) is some =
    ap (λ (r : Result Part ScriptFaultKind). said r (λ fault. ends_with (Some (fault_at fault (stop_place fault p.place (length text + 1))))) (λ (q : Part). with_front (option_to_list q.entry) (entries_from (behind p q) (q.size - 1) text))) is
    ∙ ap (λ (n : ℕ). ends_with (Some (fault_at what (stop_place what p.place n)))) (add-one (length text))

-- a part that the text's end cuts, or none
pub entries_cut : (p : Point) (text : List ℕ) → first_part p text ≡ Err Cut → entries_from p 0 text ≡ ends_with (end_between (is_some p.input) p.place (p.place + length text))
entries_cut p [] is = rw (add-zero p.place, le-ltb p.place p.place (omega arith)) refl
entries_cut p (b ∷ text) is = entries_bad p Cut (b ∷ text) is (omega arith) ∙ rw (lt-ltb p.place (p.place + length (b ∷ text)) (omega arith)) refl

-- ---- the limit

limited_front : (over : Bool) (front : List Entry) (rest : Entries) → limited over (with_front front rest) ≡ with_front front (limited over rest)
limited_front true front rest = refl
limited_front false front rest = refl

take_behind : (n : ℕ) (read more : List ℕ) → length read ≤ n → take n (read ++ more) ≡ read ++ take (n - length read) more
take_behind n [] more le = let same : n ≡ n - 0 = omega arith in ap (λ (k : ℕ). take k more) same
take_behind zero (b ∷ read) more le = absurd (omega arith)
take_behind (suc n) (b ∷ read) more le =
    let same : n - length read ≡ suc n - suc (length read) = omega arith in
    ap (λ (t : List ℕ). b ∷ t) (take_behind n read more (omega arith) ∙ ap (λ (k : ℕ). read ++ take k more) same)

-- a fault that stands at the place of its line, whatever follows
pub record IsPlaced (what : ScriptFaultKind) : Type 0 where
  pub place : (start n : ℕ) → stop_place what start n ≡ start
  pub past : (over : Bool) (start : ℕ) → limited over (ends_with (Some (fault_at what start))) ≡ ends_with (Some (fault_at what start))

long_past : (over : Bool) (start : ℕ) → limited over (ends_with (Some (fault_at LongLine start))) ≡ ends_with (Some (fault_at LongLine start))
long_past true start = refl
long_past false start = refl

bad_past : (over : Bool) (start : ℕ) → limited over (ends_with (Some (fault_at BadData start))) ≡ ends_with (Some (fault_at BadData start))
bad_past true start = refl
bad_past false start = refl

data_past : (over : Bool) (start : ℕ) → limited over (ends_with (Some (fault_at LongData start))) ≡ ends_with (Some (fault_at LongData start))
data_past true start = refl
data_past false start = refl

pub long_placed : IsPlaced LongLine
long_placed = record { place = λ start n. refl; past = long_past }

pub bad_placed : IsPlaced BadData
bad_placed = record { place = λ start n. refl; past = bad_past }

pub data_placed : IsPlaced LongData
data_placed = record { place = λ start n. refl; past = data_past }

end_either : (t : Bool) (place : ℕ) → limited true (ends_with (cond t (Some (fault_at Cut place)) None)) ≡ ends_with (Some too_long)
end_either true place = refl
end_either false place = refl

module _ (p : Point) (read : List ℕ) (fits : p.place + length read ≤ 67108864) where
  window : (more : List ℕ) → take (max_script - p.place) (read ++ more) ≡ read ++ take (max_script - p.place - length read) more
  window more = take_behind (max_script - p.place) read more (omega arith)

  pub says_part : (part : Part) → ((x : List ℕ) → first_part p (read ++ x) ≡ Ok part) → part.size ≡ length read → 0 < length read → (more : List ℕ) → rest_of p (read ++ more) ≡ with_front (option_to_list part.entry) (rest_of (behind p part) more)
  says_part part is size some more =
      let left = take (max_script - p.place - length read) more in
      let q = behind p part in
      let room : max_script - p.place - length read ≡ max_script - (p.place + part.size) = omega (arith, size) in
      let count : p.place + length (read ++ more) ≡ p.place + part.size + length more = omega (arith, size, length-append read more) in
      ap (λ (t : List ℕ). limited (nat_lt max_script (p.place + length (read ++ more))) (entries_from p 0 t)) (window more)
      ∙ (ap (limited (nat_lt max_script (p.place + length (read ++ more)))) (entries_part p part read left (is left) size some)
      ∙ (limited_front (nat_lt max_script (p.place + length (read ++ more))) (option_to_list part.entry) (entries_from q 0 left)
      ∙ ap (with_front (option_to_list part.entry)) (
      ap (λ (n : ℕ). limited (nat_lt max_script n) (entries_from q 0 left)) count
      ∙ ap (λ (n : ℕ). limited (nat_lt max_script (p.place + part.size + length more)) (entries_from q 0 (take n more))) room)))

  pub says_bad : (what : ScriptFaultKind) → IsPlaced what → ((x : List ℕ) → first_part p (read ++ x) ≡ Err what) → 0 < length read → (more : List ℕ) → rest_of p (read ++ more) ≡ ends_with (Some (fault_at what p.place))
  says_bad what placed is some more =
      let left = take (max_script - p.place - length read) more in
      let over = nat_lt max_script (p.place + length (read ++ more)) in
      ap (λ (t : List ℕ). limited over (entries_from p 0 t)) (window more)
      ∙ (ap (limited over) (entries_bad p what (read ++ left) (is left) (omega (arith, some, length-append read left)) ∙ ap (λ (n : ℕ). ends_with (Some (fault_at what n))) (placed.place p.place (length (read ++ left))))
      ∙ placed.past over p.place)

  pub says_end : (fault : Option ScriptFault) → entries_from p 0 read ≡ ends_with fault → rest_of p read ≡ ends_with fault
  says_end fault is =
      ap (λ (over : Bool). limited over (entries_from p 0 (take (max_script - p.place) read))) (le-ltb max_script (p.place + length read) fits)
      ∙ (ap (entries_from p 0) (take_all (max_script - p.place) read (omega arith)) ∙ is)

  pub says_over : (waits : Bool) (n : ℕ) → entries_from p 0 read ≡ ends_with (end_between waits p.place n) → p.place + length read ≡ 67108864 → (more : List ℕ) → 0 < length more → rest_of p (read ++ more) ≡ ends_with (Some too_long)
  says_over waits n is whole more some =
      ap (λ (over : Bool). limited over (entries_from p 0 (take (max_script - p.place) (read ++ more)))) (lt-ltb max_script (p.place + length (read ++ more)) (omega (arith, whole, some, length-append read more)))
      ∙ (ap (λ (t : List ℕ). limited true (entries_from p 0 t)) (take_at read more (max_script - p.place) (omega (arith, whole)))
      ∙ (ap (limited true) is ∙ end_either (nat_lt p.place n || waits) n))

-- ---- what was read

-- a fact on all bytes, by what is left
pub told : (left0 left1 : Option (List ℕ)) (came : List ℕ) → left0 ≡ prepended came left1 → (P : List ℕ → Type 0) → ((rest : List ℕ) → P (came ++ rest)) → IfSome left0 P
told left0 None came e P f = rw e tt
told left0 (Some rest) came e P f = rw e (f rest)

pub told_end : (left0 left1 : Option (List ℕ)) (came : List ℕ) → left0 ≡ prepended came left1 → IsAtEnd left1 → (P : List ℕ → Type 0) → P came → IfSome left0 P
told_end left0 None came e nothing P f = rw e tt
told_end left0 (Some rest) came e nothing P f = rw e (rw (ap (λ (x : List ℕ). came ++ x) nothing ∙ append-nil came) f)

module _ (begun : List ℕ) (l0 l1 : Option (List ℕ)) (s t : Taken) (read : List ℕ) (p : Point) where
  regroup : (m : Moves l0 l1 s t read) (more : List ℕ) → begun ++ (s.held ++ (m.came ++ more)) ≡ (begun ++ read) ++ (t.held ++ more)
  regroup m more =
      ap (λ (x : List ℕ). begun ++ x) (sym (append_assoc s.held m.came more) ∙ (ap (λ (x : List ℕ). x ++ more) m.bytes ∙ append_assoc read t.held more))
      ∙ sym (append_assoc begun read (t.held ++ more))

  pub goes_on : (q : Point) (entries : List Entry) → Moves l0 l1 s t read → ((more : List ℕ) → rest_of p ((begun ++ read) ++ more) ≡ with_front entries (rest_of q more)) → GoesOn begun l0 l1 s.held t.held p q entries
  goes_on q entries m says = record {
    came = m.came;
    source = m.source;
    says = λ more. ap (rest_of p) (regroup m more) ∙ says (t.held ++ more);
  }

  pub ends_by : (fault : Option ScriptFault) → Moves l0 l1 s t read → ((more : List ℕ) → rest_of p ((begun ++ read) ++ more) ≡ ends_with fault) → Ends begun l0 s.held p fault
  ends_by fault m says =
      told l0 l1 m.came m.source (λ bytes. rest_of p (begun ++ (s.held ++ bytes)) ≡ ends_with fault) (λ rest. ap (rest_of p) (regroup m rest) ∙ says (t.held ++ rest))

module _ (begun : List ℕ) (l0 l1 : Option (List ℕ)) (before after : ℕ) (s t : Taken) (read : List ℕ) (p : Point) (input : Option (List ℕ)) (waits : Bool) where
  text_is : (left : Option (List ℕ)) (m : Moves l0 left s t read) → t.held ≡ [] → begun ++ (s.held ++ m.came) ≡ begun ++ read
  text_is left m nothing = ap (λ (x : List ℕ). begun ++ x) (m.bytes ∙ (ap (λ (x : List ℕ). read ++ x) nothing ∙ append-nil read))

  pub stopped : (stop : Stop) → Stops l0 l1 before after s t read stop → entries_from p 0 (begun ++ read) ≡ ends_with (end_between waits p.place t.place) → p.place + length (begun ++ read) ≡ t.place
      → PartCase begun l0 l1 before after s t p input (stopped_of stop waits p.place t.place)
  stopped End n is place =
      told_end l0 n.left n.moves.came n.moves.source n.why (λ bytes. rest_of p (begun ++ (s.held ++ bytes)) ≡ ends_with (end_between waits p.place t.place))
      (ap (rest_of p) (text_is n.left n.moves n.nothing) ∙ says_end p (begun ++ read) (omega (arith, place, n.moves.most)) (end_between waits p.place t.place) is)
  stopped Over n is place =
      let b = n.why.1.0 in
      told l0 l1 (n.moves.came ++ b ∷ []) (n.moves.source ∙ (ap (prepended n.moves.came) n.why.1.1 ∙ prepended-prepended n.moves.came (b ∷ []) l1))
      (λ bytes. rest_of p (begun ++ (s.held ++ bytes)) ≡ ends_with (Some too_long))
      (λ rest.
      ap (λ (x : List ℕ). rest_of p (begun ++ (s.held ++ x))) (append_assoc n.moves.came (b ∷ []) rest)
      ∙ (ap (rest_of p) (regroup begun l0 n.left s t read p n.moves (b ∷ rest) ∙ ap (λ (x : List ℕ). (begun ++ read) ++ (x ++ b ∷ rest)) n.nothing)
      ∙ says_over p (begun ++ read) (omega (arith, place, n.moves.most)) waits t.place is (omega (arith, place, n.moves.most, n.why.0)) (b ∷ rest) (omega arith)))
  stopped Failed n is place = record {
    risen = n.why.0;
    came = n.moves.came;
    source = n.moves.source ∙ ap (prepended n.moves.came) n.why.1;
    says = ap (λ (x : List ℕ). (rest_of p x).entries) (text_is n.left n.moves n.nothing) ∙ ap (λ (x : Entries). x.entries) (says_end p (begun ++ read) (omega (arith, place, n.moves.most)) (end_between waits p.place t.place) is);
  }

-- a line was read before
module _ (l0 l1 l2 : Option (List ℕ)) (first before after : ℕ) (s t u : Taken) (begun : List ℕ) (p : Point) (input : Option (List ℕ)) where
  held_is : (m : Moves l0 l1 s t begun) (more : List ℕ) → s.held ++ (m.came ++ more) ≡ begun ++ (t.held ++ more)
  held_is m more = sym (append_assoc s.held m.came more) ∙ (ap (λ (x : List ℕ). x ++ more) m.bytes ∙ append_assoc begun t.held more)

  ends_then : (left : Option (List ℕ)) (m : Moves l0 left s t begun) (fault : Option ScriptFault) → Ends begun left t.held p fault → Ends [] l0 s.held p fault
  ends_then None m fault e = rw m.source tt
  ends_then (Some rest) m fault e =
      rw m.source (ap (rest_of p) (sym (append_assoc s.held m.came rest) ∙ (ap (λ (x : List ℕ). x ++ rest) m.bytes ∙ append_assoc begun t.held rest)) ∙ e)

  pub part_then : (r : PartRead) → first ≤ before → Moves l0 l1 s t begun → PartCase begun l1 l2 before after t u p input r → PartCase [] l0 l2 first after s u p input r
  part_then (Read entry) le m k = (
    k.0,
    k.1,
    record {
      came = m.came ++ k.2.came;
      source = m.source ∙ (ap (prepended m.came) k.2.source ∙ prepended-prepended m.came k.2.came l2);
      says = λ more. ap (λ (x : List ℕ). rest_of p (s.held ++ x)) (append_assoc m.came k.2.came more) ∙ (ap (rest_of p) (held_is m (k.2.came ++ more)) ∙ k.2.says more);
    },
  )
  part_then (Ended fault) le m k = ends_then l1 m fault k
  part_then PartFailed le m k = record {
    risen = risen_before first before after le k.risen;
    came = m.came ++ k.came;
    source = m.source ∙ (ap (prepended m.came) k.source ∙ prepended-prepended m.came k.came l2);
    says = ap (λ (x : List ℕ). (rest_of p x).entries) (held_is m k.came) ∙ k.says;
  }
