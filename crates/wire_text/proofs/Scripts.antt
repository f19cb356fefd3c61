-- What a whole script says.
use Rattle.std.proofs.Common.{◌≡◌, ℕ, ◌+◌, ◌-◌, ◌<◌, ◌≤◌, List, [], ◌∷◌, ◌++◌, length, Option, Some, None, Result, Ok, Err, refl, sym, ap, ◌∙◌, arith, zero-add, length-append, append_assoc}
use Rattle.std.specs.Prelude.{IfSome}
use Rattle.std.proofs.lemmas.List.{append-nil}
use Rattle.outside_api.specs.Told.{prepended}
use Rattle.wire_text.specs.Parts.{past, IsFree}
use Rattle.wire_text.specs.Head.{head_of, client_of}
use Rattle.wire_text.specs.Intake.{Taken, Moves, Stops}
use Rattle.wire_text.specs.Script.{Point, Entries, Script, rest_of, with_front, ends_with, fault_at, number_after, whole_line, head_by_line, head_or, begun, start, headed, headless, script_of}
use Rattle.wire_text.specs.Reading.{GoesOn, Ends, Breaks, point_at, HeadCase, EntriesCase, IsRead, end_by, head_stopped}
use Rattle.wire_text.specs.declared.head.Head.{Head}
use Rattle.wire_text.specs.declared.entry.Entry.{Entry}
use Rattle.wire_text.specs.declared.entry.Entry.TheVariants.{Put, Clear, Command}
use Rattle.wire_text.specs.declared.fault.ScriptFault.{ScriptFault}
use Rattle.wire_text.specs.declared.fault.ScriptFaultKind.{ScriptFaultKind}
use Rattle.wire_text.specs.declared.fault.ScriptFaultKind.TheVariants.{BadHead, LongLine, Cut}
use Rattle.wire_text.specs.declared.intake.Stop.{Stop}
use Rattle.wire_text.specs.declared.intake.Stop.TheVariants.{End, Over, Failed}
use Rattle.wire_text.specs.declared.script.ScriptEnd.{ScriptEnd}
use Rattle.wire_text.specs.declared.script.ScriptEnd.TheVariants.{Whole, Fault, ReadFault}
use Rattle.wire_text.specs.declared.script.HeadRead.TheVariants.{Head as HeadThere, Fault as HeadFault, Failed as HeadFailed}
use Rattle.wire_text.proofs.Separators.{upto_line, past_line}
use Rattle.wire_text.proofs.Takings.{prepended-prepended, prepended-nil, risen_before}
use Rattle.wire_text.proofs.Says.{told, told_end, long_line, line_there, line_cut}

-- ---- entries

pub goes_none : (l : Option (List ℕ)) (held : List ℕ) (p : Point) → GoesOn [] l l held held p p []
goes_none l held p = record { came = []; source = sym (prepended-nil l); says = λ more. refl }

module _ (l0 l1 l2 : Option (List ℕ)) (held mid : List ℕ) (p q : Point) (entries : List Entry) where
  -- one part more
  pub goes_then : (last : List ℕ) (r : Point) (more : List Entry) → GoesOn [] l0 l1 held mid p q entries → GoesOn [] l1 l2 mid last q r more → GoesOn [] l0 l2 held last p r (entries ++ more)
  goes_then last r more g h = record {
    came = g.came ++ h.came;
    source = g.source ∙ (ap (prepended g.came) h.source ∙ prepended-prepended g.came h.came l2);
    says = λ (rest : List ℕ).
        ap (λ (x : List ℕ). rest_of p (held ++ x)) (append_assoc g.came h.came rest)
        ∙ (g.says (h.came ++ rest)
        ∙ (ap (with_front entries) (h.says rest)
        ∙ ap (λ (es : List Entry). record { entries = es; fault = (rest_of r (last ++ rest)).fault }) (sym (append_assoc entries more (rest_of r (last ++ rest)).entries))));
  }

  front_end : (fault : Option ScriptFault) → with_front entries (ends_with fault) ≡ record { entries = entries; fault = fault }
  front_end fault = ap (λ (es : List Entry). record { entries = es; fault = fault }) (append-nil entries)

  ends_told : (left : Option (List ℕ)) (fault : Option ScriptFault) (g : GoesOn [] l0 left held mid p q entries) → Ends [] left mid q fault → IfSome l0 (λ bytes. rest_of p (held ++ bytes) ≡ record { entries = entries; fault = fault })
  ends_told None fault g e = rw g.source tt
  ends_told (Some rest) fault g e = rw g.source (g.says rest ∙ (ap (with_front entries) e ∙ front_end fault))

  -- the end
  pub entries_end : (before after : ℕ) (fault : Option ScriptFault) → GoesOn [] l0 l1 held mid p q entries → Ends [] l1 mid q fault → EntriesCase l0 l2 before after held p entries (end_by fault)
  entries_end before after None g e = ends_told l1 None g e
  entries_end before after (Some fault) g e = ends_told l1 (Some fault) g e

  -- the source failed
  pub entries_break : (first before after : ℕ) → first ≤ before → GoesOn [] l0 l1 held mid p q entries → Breaks [] l1 l2 before after mid q → EntriesCase l0 l2 first after held p entries ReadFault
  entries_break first before after le g b = (
    risen_before first before after le b.risen,
    (
      g.came ++ b.came,
      g.source ∙ (ap (prepended g.came) b.source ∙ prepended-prepended g.came b.came l2),
      ap (λ (x : Entries). x.entries) (g.says b.came) ∙ (ap (λ (es : List Entry). entries ++ es) b.says ∙ append-nil entries),
    ),
  )

-- ---- heads

by_line : (bytes : List ℕ) (r : Result Head ScriptFaultKind) → head_by_line (whole_line bytes) ≡ r → script_of bytes ≡ begun r bytes
by_line bytes r e = ap (λ (x : Result Head ScriptFaultKind). begun x bytes) e

module _ (line more : List ℕ) (free : IsFree 10 line) where
  pub head_there : (head : Head) → length line ≤ 8192 → head_of line ≡ Some head → script_of (line ++ 10 ∷ more) ≡ headed head (rest_of (point_at (client_of head) (length line + 1) 1 None) more)
  head_there head short is =
      by_line (line ++ 10 ∷ more) (Ok head) (ap head_by_line (line_there line more free short) ∙ ap head_or is)
      ∙ (ap (λ (x : List ℕ). headed head (rest_of (start head x) (past 10 (line ++ 10 ∷ more)))) (upto_line 10 line more free) ∙ ap (λ (x : List ℕ). headed head (rest_of (start head line) x)) (past_line 10 line more free))

  pub head_bad : length line ≤ 8192 → head_of line ≡ None → script_of (line ++ 10 ∷ more) ≡ headless (fault_at BadHead 0)
  head_bad short is = by_line (line ++ 10 ∷ more) (Err BadHead) (ap head_by_line (line_there line more free short) ∙ ap head_or is)

  pub head_long : 8192 < length line → script_of (line ++ more) ≡ headless (fault_at LongLine 0)
  head_long long = by_line (line ++ more) (Err LongLine) (ap head_by_line (long_line line more free long))

pub head_cut : (line : List ℕ) → IsFree 10 line → length line ≤ 8192 → script_of line ≡ headless (fault_at Cut (length line))
head_cut line free short = by_line line (Err Cut) (ap head_by_line (line_cut line free short)) ∙ ap (λ (k : ℕ). headless (fault_at Cut k)) (zero-add (length line))

module _ (l0 l1 : Option (List ℕ)) (before after : ℕ) (s t : Taken) (line : List ℕ) (fresh : s ≡ record { held = []; place = 0 }) (free : IsFree 10 line) where
  came_is : (left : Option (List ℕ)) (read : List ℕ) (m : Moves l0 left s t read) → m.came ≡ read ++ t.held
  came_is left read m = ap (λ (x : Taken). x.held ++ m.came) (sym fresh) ∙ m.bytes

  place_is : (left : Option (List ℕ)) (read : List ℕ) (m : Moves l0 left s t read) → t.place ≡ length read
  place_is left read m = m.place ∙ ap (λ (x : Taken). x.place + length read) fresh ∙ omega arith

  behind_came : (read : List ℕ) (m : Moves l0 l1 s t read) (more : List ℕ) → m.came ++ more ≡ read ++ (t.held ++ more)
  behind_came read m more = ap (λ (x : List ℕ). x ++ more) (came_is l1 read m) ∙ append_assoc read t.held more

  pub read_there : (head : Head) → length line ≤ 8192 → head_of line ≡ Some head → Moves l0 l1 s t (line ++ 10 ∷ []) → HeadCase l0 l1 before after t (HeadThere head)
  read_there head short is m =
      let place : t.place ≡ length line + 1 = place_is l1 (line ++ 10 ∷ []) m ∙ length-append line (10 ∷ []) in (
        omega (arith, place),
        omega (arith, m.most),
        (
          m.came,
          m.source,
          λ more.
              ap script_of (behind_came (line ++ 10 ∷ []) m more ∙ append_assoc line (10 ∷ []) (t.held ++ more))
              ∙ (head_there line (t.held ++ more) free head short is
              ∙ ap (λ (n : ℕ). headed head (rest_of (point_at (client_of head) n 1 None) (t.held ++ more))) (sym place)),
        ),
      )

  pub read_bad : length line ≤ 8192 → head_of line ≡ None → Moves l0 l1 s t (line ++ 10 ∷ []) → HeadCase l0 l1 before after t (HeadFault (fault_at BadHead 0))
  read_bad short is m =
      told l0 l1 m.came m.source (λ bytes. script_of bytes ≡ headless (fault_at BadHead 0))
      (λ rest. ap script_of (behind_came (line ++ 10 ∷ []) m rest ∙ append_assoc line (10 ∷ []) (t.held ++ rest)) ∙ head_bad line (t.held ++ rest) free short is)

  pub read_long : (rest : List ℕ) → 8192 < length line → Moves l0 l1 s t (line ++ rest) → HeadCase l0 l1 before after t (HeadFault (fault_at LongLine 0))
  read_long rest long m =
      told l0 l1 m.came m.source (λ bytes. script_of bytes ≡ headless (fault_at LongLine 0))
      (λ more. ap script_of (behind_came (line ++ rest) m more ∙ append_assoc line rest (t.held ++ more)) ∙ head_long line (rest ++ (t.held ++ more)) free long)

  line_came : (left : Option (List ℕ)) (m : Moves l0 left s t line) → t.held ≡ [] → m.came ≡ line
  line_came left m nothing = came_is left line m ∙ (ap (λ (x : List ℕ). line ++ x) nothing ∙ append-nil line)

  pub read_end : length line ≤ 8192 → Stops l0 l1 before after s t line End → HeadCase l0 l1 before after t (HeadFault (fault_at Cut t.place))
  read_end short n =
      told_end l0 n.left n.moves.came n.moves.source n.why (λ bytes. script_of bytes ≡ headless (fault_at Cut t.place))
      (ap script_of (line_came n.left n.moves n.nothing) ∙ (head_cut line free short ∙ ap (λ (k : ℕ). headless (fault_at Cut k)) (sym (place_is n.left line n.moves))))

  pub read_over : length line ≤ 8192 → Stops l0 l1 before after s t line Over → HeadCase l0 l1 before after t (HeadFault (fault_at Cut t.place))
  read_over short n = absurd (omega (arith, n.why.0, place_is n.left line n.moves))

  pub read_failed : length line ≤ 8192 → Stops l0 l1 before after s t line Failed → HeadCase l0 l1 before after t HeadFailed
  read_failed short n =
      let says = ap script_of (line_came n.left n.moves n.nothing) ∙ head_cut line free short in (
        n.why.0,
        (
          n.moves.came,
          n.moves.source ∙ ap (prepended n.moves.came) n.why.1,
          ap (λ (x : Script). x.head) says,
          ap (λ (x : Script). x.entries) says,
        ),
      )

  pub read_stopped : (stop : Stop) → length line ≤ 8192 → Stops l0 l1 before after s t line stop → HeadCase l0 l1 before after t (head_stopped stop t.place)
  read_stopped End short n = read_end short n
  read_stopped Over short n = read_over short n
  read_stopped Failed short n = read_failed short n

-- the next number is at most one more
pub number_most : (n : ℕ) (entry : Option Entry) → number_after n entry ≤ n + 1
number_most n None = omega arith
number_most n (Some (Put content)) = omega arith
number_most n (Some (Clear path)) = omega arith
number_most n (Some (Command item)) = omega arith

-- ---- both

module _ (l0 l1 l2 : Option (List ℕ)) (first before last : ℕ) (t : Taken) (head : Head) (entries : List Entry) where
  both_told : (left : Option (List ℕ)) (fault : Option ScriptFault) → HeadCase l0 left first before t (HeadThere head) → IfSome left (λ bytes. rest_of (point_at (client_of head) t.place 1 None) (t.held ++ bytes) ≡ record { entries = entries; fault = fault })
      → IfSome l0 (λ bytes. script_of bytes ≡ record { head = Some head; entries = entries; fault = fault })
  both_told None fault h e = rw h.2.1 tt
  both_told (Some rest) fault h e = rw h.2.1 (h.2.2 rest ∙ ap (headed head) e)

  pub both_read : (end : ScriptEnd) → first ≤ before → HeadCase l0 l1 first before t (HeadThere head) → EntriesCase l1 l2 before last t.held (point_at (client_of head) t.place 1 None) entries end → IsRead l0 l2 first last (Some head) entries end
  both_read Whole le h e = both_told l1 None h e
  both_read (Fault fault) le h e = both_told l1 (Some fault) h e
  both_read ReadFault le h e = (
    risen_before first before last le e.0,
    (
      h.2.0 ++ e.1.0,
      h.2.1 ∙ (ap (prepended h.2.0) e.1.1 ∙ prepended-prepended h.2.0 e.1.0 l2),
      ap (λ (x : Script). x.head) (h.2.2 e.1.0),
      ap (λ (x : Script). x.entries) (h.2.2 e.1.0) ∙ e.1.2,
    ),
  )
