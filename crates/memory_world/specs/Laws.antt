-- Laws of a disk's moments, which its ghost members cite.
use Rattle.std.specs.Prelude.{◌≡◌, ℕ, zero, suc, ◌<◌, ◌≤◌, ◌^◌, List, [], ◌∷◌, length, get_or, Vec}
use Rattle.std.proofs.Common.{sym, ap, subst, arith, ◌∙◌}
use Rattle.std.proofs.lemmas.List.{take_all}
use Rattle.std.specs.declared.alloc.Global.{Global}
use Rattle.outside_api.specs.Disk.{Files}
use Rattle.memory_world.specs.declared.call.Call.{Call}
use Rattle.memory_world.specs.Files.{contents}
use Rattle.memory_world.specs.Replay.{State, at_rest, replay, IsImage, IsImageSince, IsSound}

-- the same files are an image too
pub same_image : (s : State) (d c : Files) → IsImage s d → ((f : ℕ) → c f ≡ d f) → IsImage s c
same_image s d c image same = record {
  no_shorter = λ f. subst (λ (l : List ℕ). s.least f ≤ length l) (sym (same f)) (image.no_shorter f);
  no_longer = λ f. subst (λ (l : List ℕ). length l ≤ s.greatest f) (sym (same f)) (image.no_longer f);
  kept = λ f k lt shut. ap (λ (l : List ℕ). get_or l k 0) (same f) ∙ image.kept f k (subst (λ (l : List ℕ). k < length l) (same f) lt) shut;
}

-- what is read is an image
pub read_now : (start : Files) (calls : List Call) (files : Files) → IsSound start calls files → (c : Files) → ((f : ℕ) → c f ≡ files f) → IsImage (replay calls (at_rest start)) c
read_now start calls files sound c read =
    let now = subst (λ l. IsImage (replay l (at_rest start)) (replay l (at_rest start)).files) (take_all (length calls) calls (omega arith)) (sound.each (length calls)) in
    same_image (replay calls (at_rest start)) (replay calls (at_rest start)).files c now (λ f. read f ∙ sound.now f)

pub read_alike : (files c d : Files) → ((f : ℕ) → c f ≡ files f) → ((f : ℕ) → d f ≡ files f) → (f : ℕ) → c f ≡ d f
read_alike files c d one other f = one f ∙ sym (other f)

pub image_now : (files : Files) (calls : List Call) (t : ℕ) (c : Files) → t ≤ length calls → IsImage (replay calls (at_rest files)) c → IsImageSince files calls t c
image_now files calls t c le image = record {
  moment = length calls;
  since = le;
  until = omega arith;
  image = subst (λ l. IsImage (replay l (at_rest files)) c) (sym (take_all (length calls) calls (omega arith))) image;
}

pub only_now : (files : Files) (calls : List Call) (c : Files) → IsImageSince files calls (length calls) c → IsImage (replay calls (at_rest files)) c
only_now files calls c was = subst (λ l. IsImage (replay l (at_rest files)) c) (take_all was.moment calls was.since) was.image

-- a vector's length is below 2 ^ 63
short_vec : (v : Vec ℕ Global) → length v.items < 2 ^ 63
short_vec v = omega (arith, v.ok, v.small)

pub short_file : (files : List (Vec ℕ Global)) (f : ℕ) → length (contents files f) < 2 ^ 63
short_file [] f = omega arith
short_file (v ∷ files) zero = short_vec v
short_file (v ∷ files) (suc f) = short_file files f

pub short : (files : List (Vec ℕ Global)) (c : Files) (f : ℕ) → c f ≡ contents files f → length (c f) < 2 ^ 63
short files c f read = subst (λ (l : List ℕ). length l < 2 ^ 63) (sym read) (short_file files f)
