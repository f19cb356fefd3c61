-- A pattern carries a path to one that the other carries back.
use Rattle.std.proofs.Common.{◌≡◌, ℕ, suc, ◌+◌, Bool, true, false, cond, List, [], ◌∷◌, length, Option, Some, None, refl, sym, ap, ◌∙◌}
use Rattle.std.specs.Prelude.{option_and_then}
use Rattle.std.specs.List.{AllZip}
use Rattle.std.specs.Cmp.Lexicographic.{pointwise, same_text}
use Rattle.std.proofs.lemmas.Cmp.{nat_list_eq_equiv}
use Rattle.std.proofs.lemmas.Bool.{and_parts}
use Rattle.depot_path.specs.Bytes.{same}
use Rattle.depot_path.specs.Path.{is_path}
use Rattle.depot_path.specs.Fit.{texts, filled, specifiers, StandsFor, AreTexts}
use Rattle.depot_path.specs.declared.piece.Piece.{Piece}
use Rattle.depot_path.specs.declared.piece.Piece.TheVariants.{Byte, Star, Dots, Place}
use Rattle.depot_path.proofs.Texts.{texts_are}
use Rattle.view_map.specs.Specifiers.{labels, labels_after, same_specifiers, answering}
use Rattle.view_map.specs.Carry.{same_texts, confirmed, made_of, carried}
use Rattle.view_map.proofs.Exchange.{back_again}

abbrev Texts : Type 0
Texts = List (List ℕ)

-- ---- equal texts

all_same : (ts us : Texts) → pointwise same ts us ≡ true → ts ≡ us
all_same [] [] e = refl
all_same [] (u ∷ us) e = absurd cc
all_same (t ∷ ts) [] e = absurd cc
all_same (t ∷ ts) (u ∷ us) e =
    ap (λ v. v ∷ ts) (same_text t u (sym (and_parts (same t u) (pointwise same ts us) e).0)) ∙ ap (λ vs. u ∷ vs) (all_same ts us (and_parts (same t u) (pointwise same ts us) e).1)

same_all : (ts : Texts) → pointwise same ts ts ≡ true
same_all [] = refl
same_all (t ∷ ts) = rw (nat_list_eq_equiv.refl t) (same_all ts)

-- ---- as many texts as specifiers

as_many : (ps : List Piece) (ts : Texts) → AllZip StandsFor ps ts → length ts ≡ length ps
as_many [] [] h = refl
as_many [] (t ∷ ts) h = absurd h
as_many (p ∷ ps) [] h = absurd h
as_many (p ∷ ps) (t ∷ ts) h = ap suc (as_many ps ts h.1)

as_many_labels : (p : List Piece) (stars dots : ℕ) → length (specifiers p) ≡ length (labels_after stars dots p)
as_many_labels [] stars dots = refl
as_many_labels (Byte b ∷ p) stars dots = as_many_labels p stars dots
as_many_labels (Star ∷ p) stars dots = ap suc (as_many_labels p (stars + 1) dots)
as_many_labels (Dots ∷ p) stars dots = ap suc (as_many_labels p stars (dots + 1))
as_many_labels (Place k ∷ p) stars dots = ap suc (as_many_labels p stars dots)

pub texts_fill : (p : List Piece) (t : List ℕ) (ts : Texts) → texts p t ≡ Some ts → filled p ts ≡ t
texts_fill p t ts e = let are : AreTexts p t ts = texts_are p t ts e in are.fill.whole

pub texts_many : (p : List Piece) (t : List ℕ) (ts : Texts) → texts p t ≡ Some ts → length ts ≡ length (labels p)
texts_many p t ts e = let are : AreTexts p t ts = texts_are p t ts e in as_many (specifiers p) ts are.fill.each ∙ as_many_labels p 0 0

-- ---- what is carried

-- the texts of a path that is carried, and those of the path that comes of it
pub record IsCarried (from to : List Piece) (path made : List ℕ) : Type 0 where
  pub cut : Texts
  pub is_cut : texts from path ≡ Some cut
  pub is_made : made ≡ filled to (answering from to cut)
  pub is_path_too : is_path made ≡ true
  pub again : texts to made ≡ Some (answering from to cut)

by_confirmed : (to : List Piece) (path made : List ℕ) (us : Texts) → confirmed to path us ≡ Some made → (made ≡ path) × (texts to path ≡ Some us)
by_confirmed to path made us e = go (texts to path) refl e
  where
    go : (o : Option Texts) → texts to path ≡ o → cond (same_texts o us) (Some path) None ≡ Some made → (made ≡ path) × (texts to path ≡ Some us)
    go None f e = absurd cc
    go (Some ts) f e = here (pointwise same ts us) refl e
      where
        here : (b : Bool) → pointwise same ts us ≡ b → cond b (Some path) None ≡ Some made → (made ≡ path) × (texts to path ≡ Some us)
        here true g e = (cc, f ∙ ap Some (all_same ts us g))
        here false g e = absurd cc

by_made : (to : List Piece) (us : Texts) (made : List ℕ) → made_of to us ≡ Some made → (made ≡ filled to us) × (is_path (filled to us) ≡ true) × (texts to (filled to us) ≡ Some us)
by_made to us made e = go (is_path (filled to us)) refl e
  where
    go : (b : Bool) → is_path (filled to us) ≡ b → cond b (confirmed to (filled to us) us) None ≡ Some made → (made ≡ filled to us) × (is_path (filled to us) ≡ true) × (texts to (filled to us) ≡ Some us)
    go true f e = let r = by_confirmed to (filled to us) made us e in (r.0, f, r.1)
    go false f e = absurd cc

pub is_carried : (from to : List Piece) (path made : List ℕ) → carried from to path ≡ Some made → IsCarried from to path made
is_carried from to path made e = go (texts from path) refl e
  where
    go : (o : Option Texts) → texts from path ≡ o → option_and_then (λ ts. made_of to (answering from to ts)) o ≡ Some made → IsCarried from to path made
    go None f e = absurd cc
    go (Some ts) f e =
        let r = by_made to (answering from to ts) made e in
        record {
          cut = ts;
          is_cut = f;
          is_made = r.0;
          is_path_too = ap is_path r.0 ∙ r.1;
          again = ap (texts to) r.0 ∙ r.2;
        }

-- texts that are those of a path make it
made_from : (p : List Piece) (t : List ℕ) (ts : Texts) → texts p t ≡ Some ts → is_path t ≡ true → made_of p ts ≡ Some t
made_from p t ts e f =
    ap (λ (w : List ℕ). cond (is_path w) (confirmed p w ts) None) (texts_fill p t ts e)
    ∙ ap (λ b. cond b (confirmed p t ts) None) f
    ∙ ap (λ (o : Option Texts). cond (same_texts o ts) (Some t) None) e
    ∙ ap (λ b. cond b (Some t) None) (same_all ts)

pub carried_back : (from to : List Piece) (path made : List ℕ) → same_specifiers from to ≡ true → is_path path ≡ true → carried from to path ≡ Some made → carried to from made ≡ Some path
carried_back from to path made h f e =
    let r = is_carried from to path made e in
    ap (λ (o : Option Texts). option_and_then (λ ts. made_of from (answering to from ts)) o) r.again
    ∙ ap (λ ts. made_of from ts) (back_again from to r.cut h (texts_many from path r.cut r.is_cut))
    ∙ made_from from path r.cut r.is_cut f
