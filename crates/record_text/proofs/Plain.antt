-- An action that isn't a move is a text, tested behind the byte that ends it.
use Rattle.std.proofs.Common.{◌≡◌, ℕ, suc, Bool, true, false, not, cond, eqb, ◌&&◌, List, [], ◌∷◌, ◌++◌, length, refl, sym, ap, ◌∙◌}
use Rattle.record_text.specs.declared.fault.Part.TheVariants.{Field}
use Rattle.record_text.specs.declared.fault.RecordFault.{RecordFault}
use Rattle.record_text.specs.declared.fault.RecordFault.TheVariants as faults
use Rattle.record_text.specs.Answers.{Fails}
use Rattle.record_text.specs.Reading.{Reading, Done, Wrong, and_then}
use Rattle.record_text.specs.Machine.{Next, Last, Refuse, step_then, run}
use Rattle.record_text.specs.Spelling.{sign, Place, Before, Within, Behind, text_step, text_at}
use Rattle.record_text.specs.Layout.{is_move}
use Rattle.record_text.specs.Grammar.{any, is_plain}

abbrev tested : Bool → List ℕ → List ℕ → Reading (List ℕ)
tested moves text rest = cond moves (Wrong Field (suc (length rest))) (Done text rest)

abbrev checked : List ℕ → List ℕ → Reading (List ℕ)
checked text rest = tested (is_move text) text rest

abbrev Go : Type 0
Go = Place → Reading (List ℕ)

abbrev Follows : Go → Go → Type 0
Follows plain all = (s : Place) → plain s ≡ and_then (all s) checked

before : (b : Bool) (after : List ℕ) (s : Place) (plain all : Go) → Follows plain all → step_then (cond b (Next s) Refuse) plain Field after ≡ and_then (step_then (cond b (Next s) Refuse) all Field after) checked
before true after s plain all ih = ih s
before false after s plain all ih = refl

within : (b : Bool) (after : List ℕ) (s t : Place) (plain all : Go) → Follows plain all → step_then (cond b (Next s) (Next t)) plain Field after ≡ and_then (step_then (cond b (Next s) (Next t)) all Field after) checked
within true after s t plain all ih = ih s
within false after s t plain all ih = ih t

behind : (b d m : Bool) (after kept : List ℕ) (s : Place) (plain all : Go) → is_move kept ≡ m → Follows plain all → step_then (cond b (Next s) (cond (d && not m) (Last kept) Refuse)) plain Field after ≡ and_then (step_then (cond b (Next s) (cond (d && true) (Last kept) Refuse)) all Field after) checked
behind true d m after kept s plain all e ih = ih s
behind false true true after kept s plain all e ih = ap (λ (x : Bool). tested x kept after) (sym e)
behind false true false after kept s plain all e ih = ap (λ (x : Bool). tested x kept after) (sym e)
behind false false m after kept s plain all e ih = refl

plain_run : (ender : ℕ) (bytes : List ℕ) (s : Place) → run (text_step is_plain ender) Field s bytes ≡ and_then (run (text_step any ender) Field s bytes) checked
plain_run ender [] s = refl
plain_run ender (byte ∷ after) Before = before (eqb byte sign) after (Within []) (λ s. run (text_step is_plain ender) Field s after) (λ s. run (text_step any ender) Field s after) (plain_run ender after)
plain_run ender (byte ∷ after) (Within kept) = within (eqb byte sign) after (Behind kept) (Within (kept ++ byte ∷ [])) (λ s. run (text_step is_plain ender) Field s after) (λ s. run (text_step any ender) Field s after) (plain_run ender after)
plain_run ender (byte ∷ after) (Behind kept) = behind (eqb byte sign) (eqb byte ender) (is_move kept) after kept (Within (kept ++ sign ∷ [])) (λ s. run (text_step is_plain ender) Field s after) (λ s. run (text_step any ender) Field s after) refl (plain_run ender after)

pub moved_is : (ender : ℕ) (bytes text rest : List ℕ) → text_at any ender bytes ≡ Done text rest → is_move text ≡ true → text_at is_plain ender bytes ≡ Wrong Field (suc (length rest))
moved_is ender bytes text rest e m = plain_run ender bytes Before ∙ ap (λ (r : Reading (List ℕ)). and_then r checked) e ∙ ap (λ (x : Bool). tested x text rest) m

pub plain_is : (ender : ℕ) (bytes text rest : List ℕ) → text_at any ender bytes ≡ Done text rest → is_move text ≡ false → text_at is_plain ender bytes ≡ Done text rest
plain_is ender bytes text rest e m = plain_run ender bytes Before ∙ ap (λ (r : Reading (List ℕ)). and_then r checked) e ∙ ap (λ (x : Bool). tested x text rest) m

pub fails_is : (ender : ℕ) (bytes : List ℕ) (fault : RecordFault) → Fails fault (text_at any ender bytes) → Fails fault (text_at is_plain ender bytes)
fails_is ender bytes faults.Memory e = tt
fails_is ender bytes faults.Cut e = plain_run ender bytes Before ∙ ap (λ (r : Reading (List ℕ)). and_then r checked) e
fails_is ender bytes (faults.Wrong part left) e = plain_run ender bytes Before ∙ ap (λ (r : Reading (List ℕ)). and_then r checked) e
