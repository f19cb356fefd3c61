-- What the writes of a commit, whole or torn, make of an image.
use Rattle.std.proofs.Common.{◌≡◌, ◌≢◌, inl, inr, ℕ, zero, suc, ◌+◌, ◌*◌, List, [], ◌∷◌, ◌++◌, length, replicate, get_or, drop, refl, sym, ◌∙◌, ap, subst, arith, append_assoc, length-append}
use Rattle.std.proofs.lemmas.Bool.{cases_eq}
use Rattle.std.proofs.lemmas.Bool.Decides.{nat_tests}
use Rattle.outside_api.specs.Disk.{Files, Holds, Torn, OnFile}
use Rattle.disk_journal.specs.Text.{IsGroup, AreGroups, mark, blocks}
use Rattle.disk_journal.specs.Marks.{HasClosedMark}
use Rattle.disk_journal.specs.Images.{Committed, with_group, generation_of, Begins, IsTail, IsRoot, HasCommitted, HasEither, HasForm, IsAtRest, IsReady}
use Rattle.disk_journal.proofs.Blocks.{blocks-push, are_groups-push}
use Rattle.disk_journal.proofs.Forms.{torn_behind, written_behind, torn_byte, written_byte, mark_split}

-- the same files have the same form
pub same_form : (was : Committed) (byte : ℕ) (behind : List ℕ) (d c : Files) → HasForm was byte behind d → c (1 + 2 * was.generation) ≡ d (1 + 2 * was.generation) → c (2 + 2 * was.generation) ≡ d (2 + 2 * was.generation) → HasForm was byte behind c
same_form was byte behind d c form journal checkpoint = record {
  checkpoint = subst (Begins was.checkpoint) (sym checkpoint) form.checkpoint;
  file = journal ∙ form.file;
}

-- the number of a root
pub generation_of_root : (n : ℕ) (tail : List ℕ) → IsTail tail → generation_of (replicate n 101 ++ tail) ≡ n
generation_of_root zero [] shut = refl
generation_of_root zero (byte ∷ rest) shut = let other : byte ≢ 101 = shut.0 in grind (arith, nat_tests)
generation_of_root (suc n) tail shut = ap suc (generation_of_root n tail shut)

pub root_holds : (generation : ℕ) (root : List ℕ) → IsRoot generation root → generation_of root ≡ generation
root_holds generation root is = ap generation_of is.is ∙ generation_of_root generation is.tail is.shut

pub rest_holds : (was : Committed) (c : Files) → AreGroups was.groups → IsAtRest was c → HasCommitted was c
rest_holds was c are rest = record { rest = rest; root = root_holds was.generation (c 0) rest.root; are_groups = are }

-- an open mark joins the group behind it to the text
joined : (was : Committed) (group behind : List ℕ) → blocks was.groups ++ mark 101 ++ (group ++ mark 109 ++ behind) ≡ blocks (was.groups ++ group ∷ []) ++ mark 109 ++ behind
joined was group behind =
    ap (λ (l : List ℕ). blocks was.groups ++ mark 101 ++ l) (append_assoc group (mark 109) behind)
    ∙ sym (append_assoc (blocks was.groups ++ mark 101) group (mark 109 ++ behind))
    ∙ sym (append_assoc (blocks was.groups ++ mark 101 ++ group) (mark 109) behind)
    ∙ ap (λ (l : List ℕ). l ++ mark 109 ++ behind) (append_assoc (blocks was.groups) (mark 101) group ∙ sym (blocks-push was.groups group))

opened : (was : Committed) (group behind : List ℕ) (c : Files) → IsRoot was.generation (c 0) → HasForm was 101 (group ++ mark 109 ++ behind) c → IsAtRest (with_group was group) c
opened was group behind c root form = record {
  root = root;
  byte = 109;
  closed = λ e. omega (arith, e);
  behind = behind;
  form = record { checkpoint = form.checkpoint; file = form.file ∙ joined was group behind };
}

pub ready_holds : (was : Committed) (group : List ℕ) (c : Files) → AreGroups was.groups → IsGroup (length was.groups + 1) group → IsReady was group c → HasEither was (with_group was group) c
ready_holds was group c are is ready = elim (cases_eq ready.byte 101) [
  | inl is_open ↦ inr (rest_holds (with_group was group) c (are_groups-push 1 was.groups group are (subst (λ n. IsGroup n group) (omega arith) is)) (opened was group ready.behind c ready.root (subst (λ b. HasForm was b (group ++ mark 109 ++ ready.behind) c) is_open ready.form)))
  | inr shut ↦ inl (rest_holds was c are (record { root = ready.root; byte = ready.byte; closed = shut; behind = group ++ mark 109 ++ ready.behind; form = ready.form }))
]

-- the journal's file has another form after a step of it
form_after : (was : Committed) (file byte next : ℕ) (behind after : List ℕ) (step : List ℕ → List ℕ → Type 0) (d c : Files) → file ≡ 1 + 2 * was.generation → HasForm was byte behind d → OnFile file step d c
    → c file ≡ blocks was.groups ++ mark next ++ after → HasForm was next after c
form_after was file byte next behind after step d c file_is form on is = record {
  checkpoint = subst (Begins was.checkpoint) (sym (on.others (2 + 2 * was.generation) (λ e. omega (arith, e, file_is)))) form.checkpoint;
  file = subst (λ f. c f ≡ blocks was.groups ++ mark next ++ after) file_is is;
}

-- the root stays after a step of the journal's file
root_after : (was : Committed) (file : ℕ) (step : List ℕ → List ℕ → Type 0) (d c : Files) → file ≡ 1 + 2 * was.generation → IsRoot was.generation (d 0) → OnFile file step d c → IsRoot was.generation (c 0)
root_after was file step d c file_is root on = subst (IsRoot was.generation) (sym (on.others 0 (λ e. omega (arith, e, file_is)))) root

module _ (was : Committed) (file : ℕ) (file_is : file ≡ 1 + 2 * was.generation) (at : ℕ) where
  module _ (at_is : at ≡ length (blocks was.groups) + 5) where
    front : (byte : ℕ) → length (blocks was.groups ++ mark byte) ≡ at
    front byte = omega (arith, at_is, length-append (blocks was.groups) (mark byte))

    -- a torn write behind a closed mark
    pub rest_torn : (n : ℕ) (d c : Files) → IsAtRest was d → OnFile file (Torn at n) d c → IsAtRest was c
    rest_torn n d c rest on =
        let f = subst (λ f. d f ≡ blocks was.groups ++ mark rest.byte ++ rest.behind) (sym file_is) rest.form.file in
        let torn : Torn at n (blocks was.groups ++ mark rest.byte ++ rest.behind) (c file) = subst (λ l. Torn at n l (c file)) f on.this in
        let is = torn_behind (blocks was.groups ++ mark rest.byte) rest.behind at (front rest.byte) n (c file) torn in
        record {
          root = root_after was file (Torn at n) d c file_is rest.root on;
          byte = rest.byte;
          closed = rest.closed;
          behind = drop at (c file);
          form = form_after was file rest.byte rest.byte rest.behind (drop at (c file)) (Torn at n) d c file_is rest.form on is;
        }

    -- the whole write
    pub rest_written : (group : List ℕ) (d c : Files) → IsAtRest was d → OnFile file (Holds at (group ++ mark 109)) d c → IsReady was group c
    rest_written group d c rest on =
        let piece = group ++ mark 109 in
        let old = blocks was.groups ++ mark rest.byte ++ rest.behind in
        let f = subst (λ f. d f ≡ old) (sym file_is) rest.form.file in
        let holds : Holds at piece old (c file) = subst (λ l. Holds at piece l (c file)) f on.this in
        let is = written_behind (blocks was.groups ++ mark rest.byte) rest.behind at (front rest.byte) piece (c file) holds in
        record {
          root = root_after was file (Holds at piece) d c file_is rest.root on;
          byte = rest.byte;
          behind = drop (at + length piece) old;
          form = form_after was file rest.byte rest.byte rest.behind (piece ++ drop (at + length piece) old) (Holds at piece) d c file_is rest.form on is;
        }

  module _ (at_is : at ≡ length (blocks was.groups) + 1) where
    before : length (blocks was.groups ++ 64 ∷ []) ≡ at
    before = omega (arith, at_is, length-append (blocks was.groups) (64 ∷ []))

    -- a torn write of the mark's byte
    pub ready_torn : (group : List ℕ) (d c : Files) → IsReady was group d → OnFile file (Torn at 1) d c → IsReady was group c
    ready_torn group d c ready on =
        let rest = group ++ mark 109 ++ ready.behind in
        let f = subst (λ f. d f ≡ blocks was.groups ++ mark ready.byte ++ rest) (sym file_is) ready.form.file ∙ mark_split (blocks was.groups) ready.byte rest in
        let torn : Torn at 1 (blocks was.groups ++ 64 ∷ [] ++ ready.byte ∷ 120 ∷ 64 ∷ 10 ∷ rest) (c file) = subst (λ l. Torn at 1 l (c file)) f on.this in
        let is = torn_byte (blocks was.groups ++ 64 ∷ []) ready.byte (120 ∷ 64 ∷ 10 ∷ rest) at before (c file) torn in
        let byte = get_or (c file) at 0 in
        record {
          root = root_after was file (Torn at 1) d c file_is ready.root on;
          byte = byte;
          behind = ready.behind;
          form = form_after was file ready.byte byte rest rest (Torn at 1) d c file_is ready.form on (is ∙ sym (mark_split (blocks was.groups) byte rest));
        }

    ready_marked : (group : List ℕ) (byte : ℕ) (d c : Files) (ready : IsReady was group d) → OnFile file (Holds at (byte ∷ [])) d c → HasForm was byte (group ++ mark 109 ++ ready.behind) c
    ready_marked group byte d c ready on =
        let rest = group ++ mark 109 ++ ready.behind in
        let f = subst (λ f. d f ≡ blocks was.groups ++ mark ready.byte ++ rest) (sym file_is) ready.form.file ∙ mark_split (blocks was.groups) ready.byte rest in
        let holds : Holds at (byte ∷ []) (blocks was.groups ++ 64 ∷ [] ++ ready.byte ∷ 120 ∷ 64 ∷ 10 ∷ rest) (c file) = subst (λ l. Holds at (byte ∷ []) l (c file)) f on.this in
        let is = written_byte (blocks was.groups ++ 64 ∷ []) ready.byte (120 ∷ 64 ∷ 10 ∷ rest) at before byte (c file) holds in
        form_after was file ready.byte byte rest rest (Holds at (byte ∷ [])) d c file_is ready.form on (is ∙ sym (mark_split (blocks was.groups) byte rest))

    -- the mark opened
    pub ready_opened : (group : List ℕ) (d c : Files) → IsReady was group d → OnFile file (Holds at (101 ∷ [])) d c → IsAtRest (with_group was group) c
    ready_opened group d c ready on = opened was group ready.behind c (root_after was file (Holds at (101 ∷ [])) d c file_is ready.root on) (ready_marked group 101 d c ready on)

    -- the mark closed
    pub ready_closed : (group : List ℕ) (d c : Files) → IsReady was group d → OnFile file (Holds at (109 ∷ [])) d c → IsAtRest was c
    ready_closed group d c ready on = record {
      root = root_after was file (Holds at (109 ∷ [])) d c file_is ready.root on;
      byte = 109;
      closed = λ e. omega (arith, e);
      behind = group ++ mark 109 ++ ready.behind;
      form = ready_marked group 109 d c ready on;
    }

    -- the marks that the one and the other leave
    pub opened_mark : (group : List ℕ) (d c : Files) → IsReady was group d → OnFile file (Holds at (101 ∷ [])) d c → HasClosedMark (with_group was group) c
    opened_mark group d c ready on = record { behind = ready.behind; is = (ready_marked group 101 d c ready on).file ∙ joined was group ready.behind }

    pub closed_mark : (group : List ℕ) (d c : Files) → IsReady was group d → OnFile file (Holds at (109 ∷ [])) d c → HasClosedMark was c
    closed_mark group d c ready on = record { behind = group ++ mark 109 ++ ready.behind; is = (ready_marked group 109 d c ready on).file }
