-- Reading a text by its runs of bytes that are no sign.
use Rattle.std.proofs.Common.{◌≡◌, ℕ, suc, ◌+◌, ◌≤◌, Bool, true, false, cond, eqb, List, [], ◌∷◌, ◌++◌, length, take, drop, refl, sym, ap, ◌∙◌, append_assoc, add-one, arith}
use Rattle.std.proofs.lemmas.List.{append-nil}
use Rattle.std.proofs.lemmas.Bool.{eq-eqb, ne_eqb}
use Rattle.record_text.specs.declared.fault.Part.TheVariants.{Field}
use Rattle.record_text.specs.Reading.{Reading, Done, Ends, Wrong}
use Rattle.record_text.specs.Machine.{Next, step_then, run}
use Rattle.record_text.specs.Spelling.{sign, before_sign, Place, Within, Behind, text_step}
use Rattle.record_text.specs.Grammar.{any}

abbrev pub go : ℕ → Place → List ℕ → Reading (List ℕ)
go ender place bytes = run (text_step any ender) Field place bytes

abbrev after_one : ℕ → Bool → List ℕ → List ℕ → ℕ → Reading (List ℕ)
after_one ender b kept bytes byte = step_then (cond b (Next (Behind kept)) (Next (Within (kept ++ byte ∷ [])))) (λ next. go ender next bytes) Field bytes

one_sign : (ender : ℕ) (kept bytes : List ℕ) (byte : ℕ) → eqb byte sign ≡ true → go ender (Within kept) (byte ∷ bytes) ≡ go ender (Behind kept) bytes
one_sign ender kept bytes byte e = ap (λ (b : Bool). after_one ender b kept bytes byte) e

one_plain : (ender : ℕ) (kept bytes : List ℕ) (byte : ℕ) → eqb byte sign ≡ false → go ender (Within kept) (byte ∷ bytes) ≡ go ender (Within (kept ++ byte ∷ [])) bytes
one_plain ender kept bytes byte e = ap (λ (b : Bool). after_one ender b kept bytes byte) e

-- the bytes before the first sign are kept
plain_kept : (ender : ℕ) (kept bytes : List ℕ) → go ender (Within kept) bytes ≡ go ender (Within (kept ++ take (before_sign bytes) bytes)) (drop (before_sign bytes) bytes)
plain_kept ender kept [] = ap (λ (k : List ℕ). go ender (Within k) []) (sym (append-nil kept))
plain_kept ender kept (byte ∷ bytes) = one_more ender kept bytes byte (eqb byte sign) refl (plain_kept ender (kept ++ byte ∷ []) bytes)
  where
    one_more : (ender : ℕ) (kept bytes : List ℕ) (byte : ℕ) (b : Bool) → eqb byte sign ≡ b → go ender (Within (kept ++ byte ∷ [])) bytes ≡ go ender (Within ((kept ++ byte ∷ []) ++ take (before_sign bytes) bytes)) (drop (before_sign bytes) bytes)
        → go ender (Within kept) (byte ∷ bytes) ≡ go ender (Within (kept ++ take (cond b 0 (suc (before_sign bytes))) (byte ∷ bytes))) (drop (cond b 0 (suc (before_sign bytes))) (byte ∷ bytes))
    one_more ender kept bytes byte true e ih = ap (λ (k : List ℕ). go ender (Within k) (byte ∷ bytes)) (sym (append-nil kept))
    one_more ender kept bytes byte false e ih = one_plain ender kept bytes byte e ∙ ih ∙ ap (λ (k : List ℕ). go ender (Within k) (drop (before_sign bytes) bytes)) (append_assoc kept (byte ∷ []) (take (before_sign bytes) bytes))

-- behind them stands a sign
sign_is : (bytes after : List ℕ) (byte : ℕ) → drop (before_sign bytes) bytes ≡ byte ∷ after → eqb byte sign ≡ true
sign_is [] after byte e = absurd cc
sign_is (x ∷ bytes) after byte e = one_more x bytes after byte (eqb x sign) refl (sign_is bytes after byte) e
  where
    one_more : (x : ℕ) (bytes after : List ℕ) (byte : ℕ) (b : Bool) → eqb x sign ≡ b → (drop (before_sign bytes) bytes ≡ byte ∷ after → eqb byte sign ≡ true) → drop (cond b 0 (suc (before_sign bytes))) (x ∷ bytes) ≡ byte ∷ after → eqb byte sign ≡ true
    one_more x bytes after byte true t ih d = let same : x ≡ byte = cc in ap (λ (z : ℕ). eqb z sign) (sym same) ∙ t
    one_more x bytes after byte false t ih d = ih d

-- what stands behind the bytes before the first sign decides
behind_plain : (ender : ℕ) (kept bytes after : List ℕ) (byte : ℕ) → drop (before_sign bytes) bytes ≡ byte ∷ after → go ender (Within kept) bytes ≡ go ender (Behind (kept ++ take (before_sign bytes) bytes)) after
behind_plain ender kept bytes after byte e =
    plain_kept ender kept bytes ∙ ap (go ender (Within (kept ++ take (before_sign bytes) bytes))) e ∙ one_sign ender (kept ++ take (before_sign bytes) bytes) after byte (sign_is bytes after byte e)

two_is : (after behind : List ℕ) (next : ℕ) → drop 1 after ≡ next ∷ behind → (byte : ℕ) × (after ≡ byte ∷ next ∷ behind)
two_is [] behind next e = absurd cc
two_is (byte ∷ after) behind next e = (byte, ap (λ (t : List ℕ). byte ∷ t) e)

-- the byte behind the sign decides
decides : (ender : ℕ) (kept bytes after behind : List ℕ) (next : ℕ) → after ≡ drop (before_sign bytes) bytes → drop 1 after ≡ next ∷ behind → go ender (Within kept) bytes ≡ go ender (Behind (kept ++ take (before_sign bytes) bytes)) (next ∷ behind)
decides ender kept bytes after behind next e d =
    let two = two_is after behind next d in
    behind_plain ender kept bytes (next ∷ behind) two.0 (sym e ∙ two.1)

pub two_signs : (ender : ℕ) (kept bytes after behind : List ℕ) (next : ℕ) → after ≡ drop (before_sign bytes) bytes → drop 1 after ≡ next ∷ behind → next ≡ sign → go ender (Within kept) bytes ≡ go ender (Within ((kept ++ take (before_sign bytes) bytes) ++ sign ∷ [])) behind
two_signs ender kept bytes after behind next e d same = decides ender kept bytes after behind next e d ∙ ap (λ (x : ℕ). go ender (Behind (kept ++ take (before_sign bytes) bytes)) (x ∷ behind)) same

pub text_ends : (ender : ℕ) (kept bytes after behind : List ℕ) (next : ℕ) → after ≡ drop (before_sign bytes) bytes → drop 1 after ≡ next ∷ behind → (next ≡ sign → ⊥) → next ≡ ender → go ender (Within kept) bytes ≡ Done (kept ++ take (before_sign bytes) bytes) behind
text_ends ender kept bytes after behind next e d apart same = decides ender kept bytes after behind next e d ∙ rw (ne_eqb next sign apart, eq-eqb next ender same) refl

pub text_stops : (ender : ℕ) (kept bytes after behind : List ℕ) (next : ℕ) → after ≡ drop (before_sign bytes) bytes → drop 1 after ≡ next ∷ behind → (next ≡ sign → ⊥) → (next ≡ ender → ⊥) → go ender (Within kept) bytes ≡ Wrong Field (length behind + 1)
text_stops ender kept bytes after behind next e d apart other = rw add-one (decides ender kept bytes after behind next e d ∙ rw (ne_eqb next sign apart, ne_eqb next ender other) refl)

pub text_cut : (ender : ℕ) (kept bytes after : List ℕ) → after ≡ drop (before_sign bytes) bytes → length after ≤ 1 → go ender (Within kept) bytes ≡ Ends
text_cut ender kept bytes [] e le = plain_kept ender kept bytes ∙ ap (go ender (Within (kept ++ take (before_sign bytes) bytes))) (sym e)
text_cut ender kept bytes (x ∷ []) e le = behind_plain ender kept bytes [] x (sym e)
text_cut ender kept bytes (x ∷ y ∷ after) e le = absurd (omega arith)
