-- What each call of a disk does to what it keeps and to what a stop may leave.
use Rattle.std.proofs.Common.{◌≡◌, ◌≢◌, ◌⊎◌, inl, inr, ℕ, ◌+◌, ◌^◌, ◌<◌, ◌≤◌, min, max, false, List, [], ◌∷◌, ◌++◌, length, take, drop, get_or, Vec, refl, sym, ◌∙◌, ap, subst, arith, length-append, length-take, length-drop, get_or-take}
use Rattle.std.proofs.lemmas.Bool.{cases_eq}
use Rattle.std.proofs.lemmas.List.{places, take_all}
use Rattle.std.specs.declared.alloc.Global.{Global}
use Rattle.outside_api.specs.Disk.{Files, OnFile, Torn, Cut, Holds, After, Leads, StillTells}
use Rattle.memory_world.specs.Files.{contents, put, written}
use Rattle.memory_world.specs.Laws.{same_image, short_file}
use Rattle.memory_world.specs.Replay.{State, all_behind, called, replay, at_rest, broken_write, broken_cut, IsImage, IsSound}
use Rattle.memory_world.specs.declared.call.Call.{Call}
use Rattle.memory_world.specs.declared.call.Call.TheVariants.{Look, Write, BrokenWrite, Cut as CutCall, BrokenCut, Sync}
use Rattle.memory_world.proofs.Contents.{put_same, put_other, put_alike}
use Rattle.memory_world.proofs.Images.{agree, torn_from, was_shut, lay_beside, written_image, cut_image}
use Rattle.memory_world.proofs.Replays.{replayed, no_change, same_up_to, one_or_other}

-- an image doesn't depend on what is read
other_files : (s : State) (files c : Files) → IsImage (record s { files = files }) c → IsImage s c
other_files s files c image = record { no_shorter = image.no_shorter; no_longer = image.no_longer; kept = image.kept }

with_files : (s : State) (files c : Files) → IsImage s c → IsImage (record s { files = files }) c
with_files s files c image = record { no_shorter = image.no_shorter; no_longer = image.no_longer; kept = image.kept }

-- what was an image is one after a call that failed
still_written : (file at count : ℕ) (s : State) (c : Files) → IsImage s c → IsImage (broken_write file at count s) c
still_written file at count s c image = record {
  no_shorter = image.no_shorter;
  no_longer = λ f. no_longer f (cases_eq f file);
  kept = λ f k lt shut. image.kept f k lt (was_shut file at count s.is_open f k shut);
}
  where
    no_longer : (f : ℕ) → (f ≡ file) ⊎ (f ≢ file) → length (c f) ≤ put file (max (s.greatest file) (at + count)) s.greatest f
    no_longer f (inl is) = subst (λ n. length (c f) ≤ n) (sym (put_same file f (max (s.greatest file) (at + count)) s.greatest is)) (omega (arith, subst (λ g. length (c g) ≤ s.greatest g) is (image.no_longer f), ap (λ g. length (c g)) is))
    no_longer f (inr other) = subst (λ n. length (c f) ≤ n) (sym (put_other file f (max (s.greatest file) (at + count)) s.greatest other)) (image.no_longer f)

still_cut : (file n : ℕ) (s : State) (c : Files) → IsImage s c → IsImage (broken_cut file n s) c
still_cut file n s c image = record {
  no_shorter = λ f. no_shorter f (cases_eq f file);
  no_longer = image.no_longer;
  kept = λ f k lt shut. image.kept f k lt (was_shut file n (all_behind n) s.is_open f k shut);
}
  where
    no_shorter : (f : ℕ) → (f ≡ file) ⊎ (f ≢ file) → put file (min (s.least file) n) s.least f ≤ length (c f)
    no_shorter f (inl is) = subst (λ m. m ≤ length (c f)) (sym (put_same file f (min (s.least file) n) s.least is)) (omega (arith, subst (λ g. s.least g ≤ length (c g)) is (image.no_shorter f), ap (λ g. length (c g)) is))
    no_shorter f (inr other) = subst (λ m. m ≤ length (c f)) (sym (put_other file f (min (s.least file) n) s.least other)) (image.no_shorter f)

written_long : (at : ℕ) (piece bytes : List ℕ) → at ≤ length bytes → length (written at piece bytes) ≡ max (length bytes) (at + length piece)
written_long at piece bytes le =
    omega (arith, length-append (take at bytes ++ piece) (drop (at + length piece) bytes), length-append (take at bytes) piece, length-take at bytes, length-drop (at + length piece) bytes)

written_beside : (at : ℕ) (piece bytes : List ℕ) (k : ℕ) → at ≤ length bytes → k < length (written at piece bytes) → (k < at) ⊎ (at + length piece ≤ k) → (k < length bytes) × (get_or (written at piece bytes) k 0 ≡ get_or bytes k 0)
written_beside at piece bytes k le lt (inl low) = (omega arith, grind (arith, places))
written_beside at piece bytes k le lt (inr high) =
    let within : k < length bytes = omega (arith, written_long at piece bytes le) in
    (within, grind (arith, places))

-- what is read after a write is an image
read_written : (s : State) (file at : ℕ) (v : Vec ℕ Global) → at ≤ length (s.files file) → IsImage s s.files → IsImage (called (Write file at v) s) (called (Write file at v) s).files
read_written s file at v le image =
    with_files (broken_write file at (length v.items) s) new new (record {
      no_shorter = λ f. no_shorter f (cases_eq f file);
      no_longer = λ f. no_longer f (cases_eq f file);
      kept = λ f k lt shut. kept f k lt shut (cases_eq f file);
    })
  where
    bytes : List ℕ
    bytes = written at v.items (s.files file)

    new : Files
    new = put file (written at v.items (s.files file)) s.files

    no_shorter : (f : ℕ) → (f ≡ file) ⊎ (f ≢ file) → s.least f ≤ length (put file (written at v.items (s.files file)) s.files f)
    no_shorter f (inl is) = subst (λ (l : List ℕ). s.least f ≤ length l) (sym (put_same file f (written at v.items (s.files file)) s.files is))
        (omega (arith, written_long at v.items (s.files file) le, subst (λ g. s.least g ≤ length (s.files g)) is (image.no_shorter f), ap s.least is))
    no_shorter f (inr other) = subst (λ (l : List ℕ). s.least f ≤ length l) (sym (put_other file f (written at v.items (s.files file)) s.files other)) (image.no_shorter f)

    no_longer : (f : ℕ) → (f ≡ file) ⊎ (f ≢ file) → length (put file (written at v.items (s.files file)) s.files f) ≤ put file (max (s.greatest file) (at + length v.items)) s.greatest f
    no_longer f (inl is) =
        subst (λ n. length (put file (written at v.items (s.files file)) s.files f) ≤ n) (sym (put_same file f (max (s.greatest file) (at + length v.items)) s.greatest is))
        (subst (λ (l : List ℕ). length l ≤ max (s.greatest file) (at + length v.items)) (sym (put_same file f (written at v.items (s.files file)) s.files is))
        (omega (arith, written_long at v.items (s.files file) le, image.no_longer file)))
    no_longer f (inr other) =
        subst (λ n. length (put file (written at v.items (s.files file)) s.files f) ≤ n) (sym (put_other file f (max (s.greatest file) (at + length v.items)) s.greatest other))
        (subst (λ (l : List ℕ). length l ≤ s.greatest f) (sym (put_other file f (written at v.items (s.files file)) s.files other)) (image.no_longer f))

    kept : (f k : ℕ) → k < length (put file (written at v.items (s.files file)) s.files f) → (broken_write file at (length v.items) s).is_open f k ≡ false → (f ≡ file) ⊎ (f ≢ file)
        → get_or (put file (written at v.items (s.files file)) s.files f) k 0 ≡ get_or (s.synced f) k 0
    kept f k lt shut (inl is) =
        let same = put_same file f (written at v.items (s.files file)) s.files is in
        let here = subst (λ g. (broken_write file at (length v.items) s).is_open g k ≡ false) is shut in
        let old = written_beside at v.items (s.files file) k le (subst (λ (l : List ℕ). k < length l) same lt) (lay_beside file at (length v.items) s.is_open k here) in
        ap (λ (l : List ℕ). get_or l k 0) same ∙ old.1 ∙ image.kept file k old.0 (was_shut file at (length v.items) s.is_open file k here) ∙ ap (λ g. get_or (s.synced g) k 0) (sym is)
    kept f k lt shut (inr other) =
        let same = put_other file f (written at v.items (s.files file)) s.files other in
        ap (λ (l : List ℕ). get_or l k 0) same ∙ image.kept f k (subst (λ (l : List ℕ). k < length l) same lt) (was_shut file at (length v.items) s.is_open f k shut)

-- what is read after a cut is an image
read_cut : (s : State) (file n : ℕ) → IsImage s s.files → IsImage (called (CutCall file n) s) (called (CutCall file n) s).files
read_cut s file n image =
    with_files (broken_cut file n s) (put file (take n (s.files file)) s.files) (put file (take n (s.files file)) s.files) (record {
      no_shorter = λ f. no_shorter f (cases_eq f file);
      no_longer = λ f. no_longer f (cases_eq f file);
      kept = λ f k lt shut. kept f k lt shut (cases_eq f file);
    })
  where
    no_shorter : (f : ℕ) → (f ≡ file) ⊎ (f ≢ file) → put file (min (s.least file) n) s.least f ≤ length (put file (take n (s.files file)) s.files f)
    no_shorter f (inl is) =
        subst (λ m. m ≤ length (put file (take n (s.files file)) s.files f)) (sym (put_same file f (min (s.least file) n) s.least is))
        (subst (λ (l : List ℕ). min (s.least file) n ≤ length l) (sym (put_same file f (take n (s.files file)) s.files is)) (omega (arith, length-take n (s.files file), image.no_shorter file)))
    no_shorter f (inr other) =
        subst (λ m. m ≤ length (put file (take n (s.files file)) s.files f)) (sym (put_other file f (min (s.least file) n) s.least other))
        (subst (λ (l : List ℕ). s.least f ≤ length l) (sym (put_other file f (take n (s.files file)) s.files other)) (image.no_shorter f))

    no_longer : (f : ℕ) → (f ≡ file) ⊎ (f ≢ file) → length (put file (take n (s.files file)) s.files f) ≤ s.greatest f
    no_longer f (inl is) = subst (λ (l : List ℕ). length l ≤ s.greatest f) (sym (put_same file f (take n (s.files file)) s.files is))
        (omega (arith, length-take n (s.files file), subst (λ g. length (s.files g) ≤ s.greatest g) is (image.no_longer f), ap (λ g. length (s.files g)) is))
    no_longer f (inr other) = subst (λ (l : List ℕ). length l ≤ s.greatest f) (sym (put_other file f (take n (s.files file)) s.files other)) (image.no_longer f)

    kept : (f k : ℕ) → k < length (put file (take n (s.files file)) s.files f) → (broken_cut file n s).is_open f k ≡ false → (f ≡ file) ⊎ (f ≢ file)
        → get_or (put file (take n (s.files file)) s.files f) k 0 ≡ get_or (s.synced f) k 0
    kept f k lt shut (inl is) =
        let same = put_same file f (take n (s.files file)) s.files is in
        let short : k < length (take n (s.files file)) = subst (λ (l : List ℕ). k < length l) same lt in
        let low : k < n = omega (arith, short, length-take n (s.files file)) in
        let here = subst (λ g. (broken_cut file n s).is_open g k ≡ false) is shut in
        ap (λ (l : List ℕ). get_or l k 0) same ∙ get_or-take n (s.files file) k 0 low ∙ image.kept file k (omega (arith, short, length-take n (s.files file))) (was_shut file n (all_behind n) s.is_open file k here) ∙ ap (λ g. get_or (s.synced g) k 0) (sym is)
    kept f k lt shut (inr other) =
        let same = put_other file f (take n (s.files file)) s.files other in
        ap (λ (l : List ℕ). get_or l k 0) same ∙ image.kept f k (subst (λ (l : List ℕ). k < length l) same lt) (was_shut file n (all_behind n) s.is_open f k shut)

-- a vector holds what was written
pub write_small : (files : List (Vec ℕ Global)) (old : Files) (file at : ℕ) (piece : List ℕ) → at ≤ length (old file) → ((f : ℕ) → contents files f ≡ put file (written at piece (old file)) old f) → at + length piece < 2 ^ 63
write_small files old file at piece le puts =
    let same = puts file ∙ put_same file file (written at piece (old file)) old refl in
    omega (arith, written_long at piece (old file) le, ap length same, short_file files file)

-- what a read gives leads to what it gives after a step of one file
pub leads : (old new : Files) (file : ℕ) (step : List ℕ → List ℕ → Type 0) → step (old file) (new file) → ((f : ℕ) → f ≢ file → new f ≡ old f) → Leads (OnFile file step) (λ c. (f : ℕ) → c f ≡ old f) (λ c. (f : ℕ) → c f ≡ new f)
leads old new file step this others = record {
  to = λ d was. (new, (λ f. refl), step_of d new was (λ f. refl));
  from = λ c is. (old, (λ f. refl), step_of old c (λ f. refl) is);
}
  where
    step_of : (d c : Files) → ((f : ℕ) → d f ≡ old f) → ((f : ℕ) → c f ≡ new f) → OnFile file step d c
    step_of d c was is = record {
      this = subst (λ l. step l (c file)) (sym (was file)) (subst (λ l. step (old file) l) (sym (is file)) this);
      others = λ f other. is f ∙ others f other ∙ sym (was f);
    }

pub still_tells : (old new : Files) → StillTells (λ c. (f : ℕ) → c f ≡ old f) (λ c. (f : ℕ) → c f ≡ new f)
still_tells old new = λ d was. (new, λ f. refl)

module _ (start old : Files) (log now : List Call) (sound : IsSound start log old) where
  image : IsImage (replay log (at_rest start)) (replay log (at_rest start)).files
  image = subst (λ l. IsImage (replay l (at_rest start)) (replay l (at_rest start)).files) (take_all (length log) log (omega arith)) (sound.each (length log))

  ordered : (file : ℕ) → (replay log (at_rest start)).least file ≤ (replay log (at_rest start)).greatest file
  ordered file = omega (arith, image.no_shorter file, image.no_longer file)

  room : (file at : ℕ) → at ≤ length (old file) → at ≤ length ((replay log (at_rest start)).files file)
  room file at le = subst (λ (l : List ℕ). at ≤ length l) (sound.now file) le

  -- one call more
  module _ (call : Call) (is : now ≡ log ++ call ∷ []) where
    next : replay now (at_rest start) ≡ called call (replay log (at_rest start))
    next = replayed log now call (at_rest start) is

    pub image_after : (c : Files) → IsImage (replay now (at_rest start)) c → IsImage (called call (replay log (at_rest start))) c
    image_after c left = subst (λ t. IsImage t c) next left

    each_of : (new : Files) → IsImage (called call (replay log (at_rest start))) (called call (replay log (at_rest start))).files → (t : ℕ) → (t ≤ length log) ⊎ (length now ≤ t) → IsImage (replay (take t now) (at_rest start)) (replay (take t now) (at_rest start)).files
    each_of new read t (inl past) = subst (λ l. IsImage (replay l (at_rest start)) (replay l (at_rest start)).files) (sym (same_up_to start log now call is t past)) (sound.each t)
    each_of new read t (inr all) =
        subst (λ l. IsImage (replay l (at_rest start)) (replay l (at_rest start)).files) (sym (take_all t now all)) (subst (λ u. IsImage u u.files) (sym next) read)

    one_more : (new : Files) → ((f : ℕ) → new f ≡ (called call (replay log (at_rest start))).files f) → IsImage (called call (replay log (at_rest start))) (called call (replay log (at_rest start))).files → IsSound start now new
    one_more new files read = record {
      now = λ f. files f ∙ ap (λ (t : State). t.files f) (sym next);
      each = λ t. each_of new read t (one_or_other start log now call is t);
    }

  -- a look
  pub look_sound : (now ≡ log) ⊎ (now ≡ log ++ Look ∷ []) → IsSound start now old
  look_sound (inl is) = subst (λ l. IsSound start l old) (sym is) sound
  look_sound (inr is) = one_more Look is old sound.now image

  pub look_crash : (now ≡ log) ⊎ (now ≡ log ++ Look ∷ []) → (c : Files) → IsImage (replay now (at_rest start)) c → IsImage (replay log (at_rest start)) c
  look_crash is c left = subst (λ t. IsImage t c) (no_change log now (at_rest start) is) left

  -- a write
  pub write_sound : (new : Files) (file at : ℕ) (v : Vec ℕ Global) (piece : List ℕ) → at ≤ length (old file) → v.items ≡ piece → now ≡ log ++ Write file at v ∷ [] → ((f : ℕ) → new f ≡ put file (written at piece (old file)) old f) → IsSound start now new
  write_sound new file at v piece le items is puts = one_more (Write file at v) is new files (read_written (replay log (at_rest start)) file at v (room file at le) image)
    where
      alike : written at piece (old file) ≡ written at v.items ((replay log (at_rest start)).files file)
      alike = ap (λ (l : List ℕ). written at l (old file)) (sym items) ∙ ap (λ (l : List ℕ). written at v.items l) (sound.now file)

      files : (f : ℕ) → new f ≡ put file (written at v.items ((replay log (at_rest start)).files file)) (replay log (at_rest start)).files f
      files f = puts f ∙ put_alike file f (written at piece (old file)) (written at v.items ((replay log (at_rest start)).files file)) old (replay log (at_rest start)).files alike (sound.now f)

  pub write_crash : (file at : ℕ) (v : Vec ℕ Global) (piece : List ℕ) → v.items ≡ piece → now ≡ log ++ Write file at v ∷ [] → (c : Files) → IsImage (replay now (at_rest start)) c → After (OnFile file (Torn at (length piece))) (IsImage (replay log (at_rest start))) c
  write_crash file at v piece items is c left =
      let after = other_files (broken_write file at (length v.items) (replay log (at_rest start))) _ c (image_after (Write file at v) is c left) in
      subst (λ (l : List ℕ). After (OnFile file (Torn at (length l))) (IsImage (replay log (at_rest start))) c) items (written_image file at (length v.items) (replay log (at_rest start)) c (ordered file) after)

  pub write_leads : (new : Files) (file at : ℕ) (piece : List ℕ) → ((f : ℕ) → new f ≡ put file (written at piece (old file)) old f) → Leads (OnFile file (Holds at piece)) (λ c. (f : ℕ) → c f ≡ old f) (λ c. (f : ℕ) → c f ≡ new f)
  write_leads new file at piece puts =
      leads old new file (Holds at piece) (puts file ∙ put_same file file (written at piece (old file)) old refl) (λ f other. puts f ∙ put_other file f (written at piece (old file)) old other)

  -- a write that failed
  pub broken_write_sound : (file at count : ℕ) → (now ≡ log) ⊎ (now ≡ log ++ BrokenWrite file at count ∷ []) → IsSound start now old
  broken_write_sound file at count (inl is) = look_sound (inl is)
  broken_write_sound file at count (inr is) = one_more (BrokenWrite file at count) is old sound.now (still_written file at count (replay log (at_rest start)) (replay log (at_rest start)).files image)

  pub broken_write_crash : (file at count : ℕ) → (now ≡ log) ⊎ (now ≡ log ++ BrokenWrite file at count ∷ []) → (c : Files) → IsImage (replay now (at_rest start)) c → After (OnFile file (Torn at count)) (IsImage (replay log (at_rest start))) c
  broken_write_crash file at count (inl is) c left =
      (c, look_crash (inl is) c left, record { this = torn_from at count (c file) (c file) (omega arith) (omega arith) (λ k lt out. refl); others = λ f other. refl })
  broken_write_crash file at count (inr is) c left = written_image file at count (replay log (at_rest start)) c (ordered file) (image_after (BrokenWrite file at count) is c left)

  -- a cut
  pub cut_sound : (new : Files) (file n : ℕ) → now ≡ log ++ CutCall file n ∷ [] → ((f : ℕ) → new f ≡ put file (take n (old file)) old f) → IsSound start now new
  cut_sound new file n is puts = one_more (CutCall file n) is new files (read_cut (replay log (at_rest start)) file n image)
    where
      files : (f : ℕ) → new f ≡ put file (take n ((replay log (at_rest start)).files file)) (replay log (at_rest start)).files f
      files f = puts f ∙ put_alike file f (take n (old file)) (take n ((replay log (at_rest start)).files file)) old (replay log (at_rest start)).files (ap (λ (l : List ℕ). take n l) (sound.now file)) (sound.now f)

  pub cut_crash : (file n : ℕ) → now ≡ log ++ CutCall file n ∷ [] → (c : Files) → IsImage (replay now (at_rest start)) c → After (OnFile file (Cut n)) (IsImage (replay log (at_rest start))) c
  cut_crash file n is c left =
      cut_image file n (replay log (at_rest start)) c (ordered file) (other_files (broken_cut file n (replay log (at_rest start))) _ c (image_after (CutCall file n) is c left))

  pub cut_leads : (new : Files) (file n : ℕ) → ((f : ℕ) → new f ≡ put file (take n (old file)) old f) → Leads (OnFile file (λ was is. is ≡ take n was)) (λ c. (f : ℕ) → c f ≡ old f) (λ c. (f : ℕ) → c f ≡ new f)
  cut_leads new file n puts =
      leads old new file (λ was is. is ≡ take n was) (puts file ∙ put_same file file (take n (old file)) old refl) (λ f other. puts f ∙ put_other file f (take n (old file)) old other)

  -- a cut that failed
  pub broken_cut_sound : (file n : ℕ) → (now ≡ log) ⊎ (now ≡ log ++ BrokenCut file n ∷ []) → IsSound start now old
  broken_cut_sound file n (inl is) = look_sound (inl is)
  broken_cut_sound file n (inr is) = one_more (BrokenCut file n) is old sound.now (still_cut file n (replay log (at_rest start)) (replay log (at_rest start)).files image)

  pub broken_cut_crash : (file n : ℕ) → (now ≡ log) ⊎ (now ≡ log ++ BrokenCut file n ∷ []) → (c : Files) → IsImage (replay now (at_rest start)) c → After (OnFile file (Cut n)) (IsImage (replay log (at_rest start))) c
  broken_cut_crash file n (inl is) c left =
      (c, look_crash (inl is) c left, record { this = record { no_shorter = omega arith; no_longer = omega arith; front = ap (λ (l : List ℕ). take n l) (sym (take_all (length (c file)) (c file) (omega arith))) }; others = λ f other. refl })
  broken_cut_crash file n (inr is) c left = cut_image file n (replay log (at_rest start)) c (ordered file) (image_after (BrokenCut file n) is c left)

  -- a sync
  pub sync_sound : now ≡ log ++ Sync ∷ [] → IsSound start now old
  sync_sound is = one_more Sync is old sound.now (record { no_shorter = λ f. omega arith; no_longer = λ f. omega arith; kept = λ f k lt shut. refl })

  synced : now ≡ log ++ Sync ∷ [] → (c : Files) → IsImage (replay now (at_rest start)) c → (f : ℕ) → c f ≡ (replay log (at_rest start)).files f
  synced is c left f =
      let at_sync = image_after Sync is c left in
      agree (c f) ((replay log (at_rest start)).files f) (omega (arith, at_sync.no_shorter f, at_sync.no_longer f)) (λ k lt. at_sync.kept f k lt refl)

  pub sync_durable : now ≡ log ++ Sync ∷ [] → (c : Files) → IsImage (replay now (at_rest start)) c → (f : ℕ) → c f ≡ old f
  sync_durable is c left f = synced is c left f ∙ sym (sound.now f)

  pub sync_crash : now ≡ log ++ Sync ∷ [] → (c : Files) → IsImage (replay now (at_rest start)) c → IsImage (replay log (at_rest start)) c
  sync_crash is c left = same_image (replay log (at_rest start)) (replay log (at_rest start)).files c image (synced is c left)
