-- What the writes of a new generation, whole or torn, make of an image.
use Rattle.std.proofs.Common.{◌≡◌, ◌≢◌, inl, inr, ℕ, zero, suc, ◌+◌, ◌*◌, ◌<◌, List, [], ◌∷◌, ◌++◌, length, replicate, get_or, drop, refl, sym, ◌∙◌, ap, subst, arith, length-append}
use Rattle.std.proofs.lemmas.List.{length-replicate}
use Rattle.std.proofs.lemmas.Bool.{cases_eq}
use Rattle.outside_api.specs.Disk.{Files, Holds, Torn, OnFile}
use Rattle.disk_journal.specs.Text.{AreGroups, mark}
use Rattle.disk_journal.specs.Images.{Committed, with_generation, Begins, HasEither, IsTail, IsRoot, IsRootWith, HasForm, HasNext, IsAtRest, IsOpening}
use Rattle.disk_journal.specs.Marks.{HasClosedMark, HasClosedRoot}
use Rattle.disk_journal.proofs.Forms.{torn_byte, written_byte}
use Rattle.disk_journal.proofs.Images.{same_form, rest_holds}

-- closed bytes are a tail
closed_tail : (rest : List ℕ) → rest ≡ replicate (length rest) 109 → IsTail rest
closed_tail [] is = tt
closed_tail (byte ∷ rest) is = let head : byte ≡ 109 = cc in let tail : rest ≡ replicate (length rest) 109 = cc in ((λ e. omega (arith, e, head)), tail)

shift : (n : ℕ) (rest : List ℕ) → replicate n 101 ++ 101 ∷ rest ≡ replicate (suc n) 101 ++ rest
shift zero rest = refl
shift (suc n) rest = ap (λ (l : List ℕ). 101 ∷ l) (shift n rest)

-- the root of the next generation
next_root : (generation : ℕ) (root : List ℕ) → IsRootWith generation 101 root → IsRoot (generation + 1) root
next_root generation root with = let one : suc generation ≡ generation + 1 = omega arith in record {
  tail = with.rest;
  is = with.is ∙ shift generation with.rest ∙ ap (λ (n : ℕ). replicate n 101 ++ with.rest) one;
  shut = closed_tail with.rest with.all_closed;
  long = with.long;
}

-- the root of this one
this_root : (generation byte : ℕ) (root : List ℕ) → byte ≢ 101 → IsRootWith generation byte root → IsRoot generation root
this_root generation byte root shut with = record { tail = byte ∷ with.rest; is = with.is; shut = (shut, with.all_closed); long = with.long }

next_form : (was : Committed) (checkpoint : List ℕ) (c : Files) (next : HasNext was checkpoint c) → HasForm (with_generation was checkpoint) 109 next.next_journal.behind c
next_form was checkpoint c next = record {
  checkpoint = subst (λ f. Begins checkpoint (c f)) (omega arith) next.next_checkpoint;
  file = subst (λ f. c f ≡ mark 109 ++ next.next_journal.behind) (omega arith) next.next_journal.is;
}

to_next : (was : Committed) (checkpoint : List ℕ) (c : Files) → IsRootWith was.generation 101 (c 0) → HasNext was checkpoint c → IsAtRest (with_generation was checkpoint) c
to_next was checkpoint c root next = record {
  root = next_root was.generation (c 0) root;
  byte = 109;
  closed = λ e. omega (arith, e);
  behind = next.next_journal.behind;
  form = next_form was checkpoint c next;
}

pub opening_holds : (was : Committed) (checkpoint : List ℕ) (c : Files) → AreGroups was.groups → IsOpening was checkpoint c → HasEither was (with_generation was checkpoint) c
opening_holds was checkpoint c are is = elim (cases_eq is.root_byte 101) [
  | inl is_open ↦ inr (rest_holds (with_generation was checkpoint) c tt (to_next was checkpoint c (subst (λ b. IsRootWith was.generation b (c 0)) is_open is.root) is.next))
  | inr shut ↦ inl (rest_holds was c are (record { root = this_root was.generation is.root_byte (c 0) shut is.root; byte = is.byte; closed = is.closed; behind = is.behind; form = is.form }))
]

-- another file changes nothing
pub rest_elsewhere : (was : Committed) (file : ℕ) (step : List ℕ → List ℕ → Type 0) (d c : Files) → 2 + 2 * was.generation < file → IsAtRest was d → OnFile file step d c → IsAtRest was c
rest_elsewhere was file step d c above rest on = record {
  root = subst (IsRoot was.generation) (sym (on.others 0 (λ e. omega (arith, e, above)))) rest.root;
  byte = rest.byte;
  closed = rest.closed;
  behind = rest.behind;
  form = same_form was rest.byte rest.behind d c rest.form (on.others (1 + 2 * was.generation) (λ e. omega (arith, e, above))) (on.others (2 + 2 * was.generation) (λ e. omega (arith, e, above)));
}

-- the next generation's files, both written
pub next_written : (was : Committed) (checkpoint : List ℕ) (first second : ℕ) (start mid end : Files) → first ≡ 4 + 2 * was.generation → second ≡ 3 + 2 * was.generation
    → OnFile first (Holds 0 checkpoint) start mid → OnFile second (Holds 0 (mark 109)) mid end → HasNext was checkpoint end
next_written was checkpoint first second start mid end first_is second_is one two = record {
  next_checkpoint = record {
    behind = drop (0 + length checkpoint) (start first);
    is = two.others (4 + 2 * was.generation) (λ e. omega (arith, e, second_is)) ∙ subst (λ f. mid f ≡ checkpoint ++ drop (0 + length checkpoint) (start first)) first_is one.this;
  };
  next_journal = record {
    behind = drop (0 + length (mark 109)) (mid second);
    is = subst (λ f. end f ≡ mark 109 ++ drop (0 + length (mark 109)) (mid second)) second_is two.this;
  };
}

with_tail : (generation : ℕ) (root tail : List ℕ) → generation < 4095 → root ≡ replicate generation 101 ++ tail → IsTail tail → length root ≡ 4095 → (byte : ℕ) × IsRootWith generation byte root
with_tail generation root [] below is shut long = absurd (omega (arith, below, long, ap length is, length-append {A = ℕ} (replicate generation 101) [], length-replicate {A = ℕ} generation 101))
with_tail generation root (byte ∷ rest) below is shut long = (byte, record { rest = rest; is = is; all_closed = shut.1; long = long })

pub rest_opening : (was : Committed) (checkpoint : List ℕ) (c : Files) → was.generation < 4095 → IsAtRest was c → HasNext was checkpoint c → IsOpening was checkpoint c
rest_opening was checkpoint c below rest next =
    let root = with_tail was.generation (c 0) rest.root.tail below rest.root.is rest.root.shut rest.root.long in
    record { root_byte = root.0; root = root.1; byte = rest.byte; closed = rest.closed; behind = rest.behind; form = rest.form; next = next }

module _ (was : Committed) (checkpoint : List ℕ) (at : ℕ) (at_is : at ≡ was.generation) (d c : Files) (is : IsOpening was checkpoint d) where
  front : length {A = ℕ} (replicate was.generation 101) ≡ at
  front = omega (arith, at_is, length-replicate {A = ℕ} was.generation 101)

  -- with another byte in the root's mark
  marked : (byte : ℕ) → c 0 ≡ replicate was.generation 101 ++ byte ∷ is.root.rest → IsRootWith was.generation byte (c 0)
  marked byte root = record {
    rest = is.root.rest;
    is = root;
    all_closed = is.root.all_closed;
    long = omega (arith, is.root.long, ap length is.root.is, ap length root, length-append (replicate was.generation 101) (is.root_byte ∷ is.root.rest), length-append (replicate was.generation 101) (byte ∷ is.root.rest));
  }

  form_kept : (step : List ℕ → List ℕ → Type 0) → OnFile 0 step d c → HasForm was is.byte is.behind c
  form_kept step on = same_form was is.byte is.behind d c is.form (on.others (1 + 2 * was.generation) (λ e. omega (arith, e))) (on.others (2 + 2 * was.generation) (λ e. omega (arith, e)))

  next_kept : (step : List ℕ → List ℕ → Type 0) → OnFile 0 step d c → HasNext was checkpoint c
  next_kept step on = record {
    next_checkpoint = subst (Begins checkpoint) (sym (on.others (4 + 2 * was.generation) (λ e. omega (arith, e)))) is.next.next_checkpoint;
    next_journal = subst (Begins (mark 109)) (sym (on.others (3 + 2 * was.generation) (λ e. omega (arith, e)))) is.next.next_journal;
  }

  -- a torn write of the root's mark
  pub opening_torn : OnFile 0 (Torn at 1) d c → IsOpening was checkpoint c
  opening_torn on =
      let torn : Torn at 1 (replicate was.generation 101 ++ is.root_byte ∷ is.root.rest) (c 0) = subst (λ l. Torn at 1 l (c 0)) is.root.is on.this in
      let root = torn_byte (replicate was.generation 101) is.root_byte is.root.rest at front (c 0) torn in
      record { root_byte = get_or (c 0) at 0; root = marked (get_or (c 0) at 0) root; byte = is.byte; closed = is.closed; behind = is.behind; form = form_kept (Torn at 1) on; next = next_kept (Torn at 1) on }

  written : (byte : ℕ) → OnFile 0 (Holds at (byte ∷ [])) d c → IsRootWith was.generation byte (c 0)
  written byte on =
      let holds : Holds at (byte ∷ []) (replicate was.generation 101 ++ is.root_byte ∷ is.root.rest) (c 0) = subst (λ l. Holds at (byte ∷ []) l (c 0)) is.root.is on.this in
      marked byte (written_byte (replicate was.generation 101) is.root_byte is.root.rest at front byte (c 0) holds)

  -- the root's mark opened
  pub opening_opened : OnFile 0 (Holds at (101 ∷ [])) d c → IsAtRest (with_generation was checkpoint) c
  opening_opened on = to_next was checkpoint c (written 101 on) (next_kept (Holds at (101 ∷ [])) on)

  -- the root's mark closed
  pub opening_closed : OnFile 0 (Holds at (109 ∷ [])) d c → IsAtRest was c
  opening_closed on = record {
    root = this_root was.generation 109 (c 0) (λ e. omega (arith, e)) (written 109 on);
    byte = is.byte;
    closed = is.closed;
    behind = is.behind;
    form = form_kept (Holds at (109 ∷ [])) on;
  }

  -- the marks that the one and the other leave
  pub opened_next : OnFile 0 (Holds at (101 ∷ [])) d c → HasClosedMark (with_generation was checkpoint) c
  opened_next on =
      let next = next_kept (Holds at (101 ∷ [])) on in
      record { behind = next.next_journal.behind; is = (next_form was checkpoint c next).file }

  pub closed_root : OnFile 0 (Holds at (109 ∷ [])) d c → HasClosedRoot was c
  closed_root on = written 109 on
