-- Tests that decide facts.
use Rattle.std.proofs.Common.{◌≡◌, ◌⊎◌, ◌≤◌, ℕ, Bool, true, false, List, inl, inr, refl, arith}
use Rattle.std.specs.Prelude.{◌&&◌, ◌||◌, not, nat_le, IsTrue, IsFalse, if◌then◌else◌}
use Rattle.std.specs.Bool.{Decides}
use Rattle.std.proofs.lemmas.Bool.Decides.{Decides-and, Decides-like, nat_tests}
use Rattle.std.proofs.lemmas.Slice.Eq.{bytes_eq-Decides}
use Rattle.depot_rows.specs.depot_path.Bytes.{same}

pub itself : (b : Bool) → Decides b (IsTrue b)
itself b = (λ e. e, λ e. e)

pub same_decides : (a b : List ℕ) → Decides (same a b) (a ≡ b)
same_decides a b = bytes_eq-Decides a b

pub le_true : (a b : ℕ) → nat_le a b ≡ true → a ≤ b
le_true a b e = grind (arith, nat_tests)

pub true_le : (a b : ℕ) → a ≤ b → nat_le a b ≡ true
true_le a b h = grind (arith, nat_tests)

pub le_decides : (a b : ℕ) → Decides (nat_le a b) (a ≤ b)
le_decides a b = (le_true a b, true_le a b)

pub never : Decides false ⊥
never = (λ e. absurd cc, λ h. absurd h)

pub implies : {Q : Type 0} (a y : Bool) → Decides y Q → Decides (not a || y) (IsTrue a → Q)
implies true y d = (λ e _. d.0 e, λ h. d.1 (h refl))
implies false y d = (λ e h. absurd cc, λ h. refl)

pub chosen : {P Q : Type 0} (b x y : Bool) → Decides x P → Decides y Q → Decides (if b then x else y) ((IsTrue b × P) ⊎ (IsFalse b × Q))
chosen {P} {Q} true x y d k = (λ e. inl (refl, d.0 e), λ h. back h)
  where
    back : (IsTrue true × P) ⊎ (IsFalse true × Q) → x ≡ true
    back (inl h) = d.1 h.1
    back (inr h) = absurd cc
chosen {P} {Q} false x y d k = (λ e. inr (refl, k.0 e), λ h. back h)
  where
    back : (IsTrue false × P) ⊎ (IsFalse false × Q) → y ≡ true
    back (inl h) = absurd cc
    back (inr h) = k.1 h.1

module _ {A B C : Type 0} (a b c : Bool) (p : Decides a A) (q : Decides b B) (r : Decides c C) where
  pub all3 : Decides (a && b && c) (A × B × C)
  all3 = Decides-like (a && b && c) (λ h. (h.0.0, h.0.1, h.1)) (λ h. ((h.0, h.1), h.2)) (Decides-and (a && b) c (Decides-and a b p q) r)

  module _ {D : Type 0} (d : Bool) (s : Decides d D) where
    pub all4 : Decides (a && b && c && d) (A × B × C × D)
    all4 = Decides-like (a && b && c && d) (λ h. (h.0.0, h.0.1, h.0.2, h.1)) (λ h. ((h.0, h.1, h.2), h.3)) (Decides-and (a && b && c) d all3 s)

    module _ {E : Type 0} (e : Bool) (t : Decides e E) where
      pub all5 : Decides (a && b && c && d && e) (A × B × C × D × E)
      all5 = Decides-like (a && b && c && d && e) (λ h. (h.0.0, h.0.1, h.0.2, h.0.3, h.1)) (λ h. ((h.0, h.1, h.2, h.3), h.4)) (Decides-and (a && b && c && d) e all4 t)

      module _ {F : Type 0} (f : Bool) (u : Decides f F) where
        pub all6 : Decides (a && b && c && d && e && f) (A × B × C × D × E × F)
        all6 =
            Decides-like (a && b && c && d && e && f) (λ h. (h.0.0, h.0.1, h.0.2, h.0.3, h.0.4, h.1)) (λ h. ((h.0, h.1, h.2, h.3, h.4), h.5))
            (Decides-and (a && b && c && d && e) f all5 u)

        module _ {G : Type 0} (g : Bool) (v : Decides g G) where
          pub all7 : Decides (a && b && c && d && e && f && g) (A × B × C × D × E × F × G)
          all7 =
              Decides-like (a && b && c && d && e && f && g) (λ h. (h.0.0, h.0.1, h.0.2, h.0.3, h.0.4, h.0.5, h.1))
              (λ h. ((h.0, h.1, h.2, h.3, h.4, h.5), h.6)) (Decides-and (a && b && c && d && e && f) g all6 v)

          module _ {H I : Type 0} (h : Bool) (w : Decides h H) (i : Bool) (x : Decides i I) where
            pub all9 : Decides (a && b && c && d && e && f && g && h && i) (A × B × C × D × E × F × G × H × I)
            all9 =
                Decides-like (a && b && c && d && e && f && g && h && i)
                (λ k. (k.0.0.0, k.0.0.1, k.0.0.2, k.0.0.3, k.0.0.4, k.0.0.5, k.0.0.6, k.0.1, k.1))
                (λ k. (((k.0, k.1, k.2, k.3, k.4, k.5, k.6), k.7), k.8))
                (Decides-and (a && b && c && d && e && f && g && h) i (Decides-and (a && b && c && d && e && f && g) h all7 w) x)
