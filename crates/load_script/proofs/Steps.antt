-- The steps of a script, one after another.
use Rattle.std.proofs.Common.{◌≡◌, ◌≢◌, ◌<◌, ℕ, suc, ◌+◌, Bool, true, false, eqb, List, [], ◌∷◌, ◌++◌, length, get_or, set, refl, sym, ap, subst, ◌∙◌, append_assoc, length-append, get_or-set_other, get_or-set_same, length-set}
use Rattle.std.specs.Prelude.{◌%◌, ◌||◌}
use Rattle.std.proofs.lemmas.Bool.Decides.{Decides-eqb}
use Rattle.std.proofs.lemmas.List.Folds.{list_any-append}
use Rattle.seeded_numbers.specs.Numbers.{next_number, value_of}
use Rattle.load_script.specs.Script.{files_after, is_among, step_of, steps_behind}

-- where the loop is: what is left of the steps makes the whole text, and the flags tell which files came before
pub record IsSoFar (whole out : List ℕ) (known : List Bool) (x left done : ℕ) : Type 0 where
  pub before : List ℕ
  pub text : out ++ steps_behind before (files_after x left) ≡ whole
  pub many : length before ≡ done
  pub flags : (file : ℕ) → file < 10 → get_or known file false ≡ is_among before file
  pub ten : length known ≡ 10

-- ---- the flags

module _ (before : List ℕ) (file : ℕ) where
  among_more : (other : ℕ) → is_among (before ++ file ∷ []) other ≡ (is_among before other || (eqb file other || false))
  among_more other = list_any-append (λ f. eqb f other) before (file ∷ [])

  itself : is_among (before ++ file ∷ []) file ≡ true
  itself = among_more file ∙ (ap (λ b. is_among before file || (b || false)) ((Decides-eqb file file).1 refl) ∙ either (is_among before file))
    where
      either : (b : Bool) → (b || true) ≡ true
      either true = refl
      either false = refl

  another : (other : ℕ) → eqb file other ≡ false → is_among (before ++ file ∷ []) other ≡ is_among before other
  another other apart = among_more other ∙ (ap (λ b. is_among before other || (b || false)) apart ∙ neither (is_among before other))
    where
      neither : (b : Bool) → (b || false) ≡ b
      neither true = refl
      neither false = refl

  pub flags_more : (known : List Bool) → file < length known → ((other : ℕ) → other < 10 → get_or known other false ≡ is_among before other)
      → (other : ℕ) → other < 10 → get_or (set known file true) other false ≡ is_among (before ++ file ∷ []) other
  flags_more known within flags other below = go (eqb file other) refl
    where
      go : (same : Bool) → eqb file other ≡ same → get_or (set known file true) other false ≡ is_among (before ++ file ∷ []) other
      go true e =
          let one : file ≡ other = (Decides-eqb file other).0 e in
          let P : ℕ → Type 0 = λ f. get_or (set known file true) f false ≡ is_among (before ++ file ∷ []) f in
          subst P one (get_or-set_same known file true false within ∙ sym itself)
      go false e =
          let apart : other ≢ file = λ one. (let both : true ≡ false = sym ((Decides-eqb file other).1 (sym one)) ∙ e in cc) in
          get_or-set_other known file other true false apart ∙ (flags other below ∙ sym (another other e))

-- ---- one more step

pub goes_on : (whole out next : List ℕ) (known : List Bool) (x n left done : ℕ) (so_far : IsSoFar whole out known x n done) → n ≡ suc left → (flag : Bool)
    → flag ≡ is_among so_far.before (value_of (next_number x) % 10) → next ≡ out ++ step_of (value_of (next_number x) % 10) flag (done + 1)
    → value_of (next_number x) % 10 < length known → IsSoFar whole next (set known (value_of (next_number x) % 10) true) (next_number x) left (done + 1)
goes_on whole out next known x n left done so_far n_is flag flag_is next_is within =
    let file = value_of (next_number x) % 10 in
    let before = so_far.before in
    let rest = steps_behind (before ++ file ∷ []) (files_after (next_number x) left) in
    let step_is : step_of file flag (done + 1) ≡ step_of file (is_among before file) (length before + 1) = λ k. step_of file (flag_is k) (sym so_far.many k + 1) in
    record {
      before = before ++ file ∷ [];
      text = ap (λ (o : List ℕ). o ++ rest) (next_is ∙ ap (λ (s : List ℕ). out ++ s) step_is) ∙ (append_assoc out (step_of file (is_among before file) (length before + 1)) rest
          ∙ (ap (λ m. out ++ steps_behind before (files_after x m)) (sym n_is) ∙ so_far.text));
      many = length-append before (file ∷ []) ∙ ap (λ n. n + 1) so_far.many;
      flags = flags_more before file known within so_far.flags;
      ten = length-set known file true ∙ so_far.ten;
    }
