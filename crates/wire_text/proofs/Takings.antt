-- Bytes that are taken from a source and read.
use Rattle.std.proofs.Common.{◌≡◌, ℕ, ◌+◌, ◌-◌, ◌<◌, ◌≤◌, Bool, true, false, List, [], ◌∷◌, ◌++◌, length, take, drop, Option, Some, None, refl, sym, ap, ◌∙◌, arith, add-zero, length-append, append_assoc}
use Rattle.std.proofs.lemmas.List.{append-nil, drop-take, drop-drop, length-take, take-append-drop, drop_all}
use Rattle.outside_api.specs.Count.{HasRisen}
use Rattle.outside_api.specs.Told.{prepended}
use Rattle.wire_text.specs.Parts.{upto, past, is_in, IsFree}
use Rattle.wire_text.specs.Intake.{Taken, Moves, Stops, StopCase, TakesLine}
use Rattle.wire_text.specs.declared.intake.Stop.{Stop}
use Rattle.wire_text.specs.declared.intake.Stop.TheVariants.{End, Over, Failed}
use Rattle.wire_text.proofs.Separators.{free_upto, free_append, split_upto}

pub prepended-prepended : (a b : List ℕ) (o : Option (List ℕ)) → prepended a (prepended b o) ≡ prepended (a ++ b) o
prepended-prepended a b None = refl
prepended-prepended a b (Some rest) = ap Some (sym (append_assoc a b rest))

pub prepended-nil : (o : Option (List ℕ)) → prepended [] o ≡ o
prepended-nil None = refl
prepended-nil (Some rest) = refl

-- the bytes of a buffer behind some that are passed
pub drop_range : (xs : List ℕ) (s e k : ℕ) → k ≤ length (take (e - s) (drop s xs)) → take (e - (s + k)) (drop (s + k) xs) ≡ drop k (take (e - s) (drop s xs))
drop_range xs s e k le =
    let whole : k + (e - (s + k)) ≡ e - s = omega (arith, le, length-take (e - s) (drop s xs)) in
    ap (take (e - (s + k))) (sym (drop-drop k s xs))
    ∙ (sym (drop-take k (e - (s + k)) (drop s xs)) ∙ ap (λ (n : ℕ). drop k (take n (drop s xs))) whole)

-- nothing is read
pub moves_none : (left : Option (List ℕ)) (s : Taken) → s.place + length s.held ≤ 67108864 → Moves left left s s []
moves_none left s most = record { came = []; source = sym (prepended-nil left); bytes = append-nil s.held; place = sym (add-zero s.place); most = most }

-- what is held is read
pub moves_held : (left : Option (List ℕ)) (old new : Taken) (read : List ℕ) → old.held ≡ read ++ new.held → new.place ≡ old.place + length read → new.place + length new.held ≤ 67108864 → Moves left left old new read
moves_held left old new read e place most = record { came = []; source = sym (prepended-nil left); bytes = append-nil old.held ∙ e; place = place; most = most }

module _ (a b c : Option (List ℕ)) (s t u : Taken) (r q : List ℕ) where
  -- one after the other
  pub moves_then : Moves a b s t r → Moves b c t u q → Moves a c s u (r ++ q)
  moves_then m n = record {
    came = m.came ++ n.came;
    source = m.source ∙ (ap (prepended m.came) n.source ∙ prepended-prepended m.came n.came c);
    bytes = sym (append_assoc s.held m.came n.came) ∙ (ap (λ (h : List ℕ). h ++ n.came) m.bytes ∙ (append_assoc r t.held n.came ∙ (ap (λ (h : List ℕ). r ++ h) n.bytes ∙ sym (append_assoc r q u.held))));
    place = omega (arith, m.place, n.place, length-append r q);
    most = n.most;
  }

-- a fault that has risen since
pub risen_before : (first before after : ℕ) → first ≤ before → HasRisen before after → HasRisen first after
risen_before first before after le risen = omega arith

why_before : (b c : Option (List ℕ)) (room first before after : ℕ) (stop : Stop) → first ≤ before → StopCase b c room before after stop → StopCase b c room first after stop
why_before b c room first before after End le h = h
why_before b c room first before after Over le h = h
why_before b c room first before after Failed le h = (risen_before first before after le h.0, h.1)

-- bytes are read, and then nothing comes
pub stops_then : (a b c : Option (List ℕ)) (first before after : ℕ) (s t u : Taken) (r : List ℕ) (stop : Stop) → first ≤ before → Moves a b s t r → Stops b c before after t u [] stop → Stops a c first after s u r stop
stops_then a b c first before after s t u r stop le m n = record {
  left = n.left;
  moves = let both : Moves a n.left s u (r ++ []) = moves_then a b n.left s t u r [] m n.moves in rw append-nil at both;
  nothing = n.nothing;
  why = why_before n.left c (67108864 - u.place) first before after stop le n.why;
}

-- ---- lines

pub takes_whole : (old new : Taken) (held piece : List ℕ) (n : ℕ) → held ≡ old.held → piece ≡ upto 10 held → is_in 10 held ≡ true → new.held ≡ drop n old.held → new.place ≡ old.place + n → n ≡ length piece + 1 → TakesLine old new piece true
takes_whole old new held piece n e p is h place count = (
  rw p (free_upto 10 held),
  sym e ∙ (split_upto 10 held is ∙ (ap (λ (x : List ℕ). x ++ 10 ∷ past 10 held) (sym p) ∙ ap (λ (x : List ℕ). piece ++ 10 ∷ x) (ap (λ (x : List ℕ). drop (length x + 1) held) (sym p) ∙ (ap (λ (k : ℕ). drop k held) (sym count) ∙ (ap (drop n) e ∙ sym h))))),
  omega (arith, place, count),
)

pub takes_all : (old new : Taken) (held : List ℕ) (n : ℕ) → held ≡ old.held → IsFree 10 held → new.held ≡ drop n old.held → new.place ≡ old.place + n → n ≡ length held → TakesLine old new held false
takes_all old new held n e free h place count = (
  free,
  sym e,
  h ∙ drop_all n old.held (omega (arith, ap (λ (x : List ℕ). length x) e, count)),
  omega (arith, place, count),
)

-- what a move of a line's bytes moves
pub line_moves : (left : Option (List ℕ)) (old new : Taken) (piece : List ℕ) → TakesLine old new piece false → new.place + length new.held ≤ 67108864 → Moves left left old new piece
line_moves left old new piece t most = moves_held left old new piece (t.1 ∙ (sym (append-nil piece) ∙ ap (λ (x : List ℕ). piece ++ x) (sym t.2))) t.3 most

pub whole_moves : (left : Option (List ℕ)) (old new : Taken) (piece : List ℕ) → TakesLine old new piece true → new.place + length new.held ≤ 67108864 → Moves left left old new (piece ++ 10 ∷ [])
whole_moves left old new piece t most =
    moves_held left old new (piece ++ 10 ∷ []) (t.1 ∙ sym (append_assoc piece (10 ∷ []) new.held)) (omega (arith, t.2, length-append piece (10 ∷ []))) most

module _ (a b : Option (List ℕ)) (s t u : Taken) (line piece new : List ℕ) (m : Moves a b s t line) (free : IsFree 10 line) (is : new ≡ line ++ piece) (most : u.place + length u.held ≤ 67108864) where
  free_new : IsFree 10 piece → IsFree 10 new
  free_new f = rw is (free_append 10 line piece free f)

  -- a line goes on
  pub line_part : (w : Bool) → w ≡ false → TakesLine t u piece w → IsFree 10 new × (u.held ≡ []) × Moves a b s u new
  line_part true e k = absurd cc
  line_part false e k = (free_new k.0, k.2, rw is (moves_then a b b s t u line piece m (line_moves b t u piece k most)))

  -- a line is whole
  pub line_whole : (w : Bool) → w ≡ true → TakesLine t u piece w → IsFree 10 new × Moves a b s u (new ++ 10 ∷ [])
  line_whole true e k = (free_new k.0, rw (is, append_assoc) (moves_then a b b s t u line (piece ++ 10 ∷ []) m (whole_moves b t u piece k most)))
  line_whole false e k = absurd cc

  -- a line is too long
  pub line_long : (w : Bool) → 8192 < length new → TakesLine t u piece w → (x : List ℕ) × (rest : List ℕ) × IsFree 10 x × (8192 < length x) × Moves a b s u (x ++ rest)
  line_long true long k = (new, 10 ∷ [], free_new k.0, long, (line_whole true refl k).1)
  line_long false long k = (new, [], free_new k.0, long, rw append-nil (line_part false refl k).2)

-- ---- bytes

-- what a move of at most so many bytes moves
pub bytes_move : (a b : Option (List ℕ)) (s t u : Taken) (bytes new : List ℕ) (n : ℕ) → Moves a b s t bytes → new ≡ bytes ++ take n t.held → u.held ≡ drop n t.held → u.place ≡ t.place + length (take n t.held) → u.place + length u.held ≤ 67108864 → Moves a b s u new
bytes_move a b s t u bytes new n m is held place most =
    rw is (moves_then a b b s t u bytes (take n t.held) m (moves_held b t u (take n t.held) (sym (take-append-drop n t.held) ∙ ap (λ (x : List ℕ). take n t.held ++ x) (sym held)) place most))

pub moves_on : (a b c : Option (List ℕ)) (s t u : Taken) (r : List ℕ) → Moves a b s t r → Moves b c t u [] → Moves a c s u r
moves_on a b c s t u r m n = let both : Moves a c s u (r ++ []) = moves_then a b c s t u r [] m n in rw append-nil at both
