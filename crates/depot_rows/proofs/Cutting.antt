-- What a cut depot says, deed by deed.
use Rattle.std.proofs.Common.{◌≡◌, ◌≢◌, ℕ, Bool, true, false, List, [], ◌∷◌, ◌++◌, length, map, Option, Some, None, refl, sym, ap, ◌∙◌}
use Rattle.std.specs.Prelude.{◌&&◌, ◌==◌, max, if◌then◌else◌, option_map, filter, find, is_some}
use Rattle.std.specs.List.{cons_option}
use Rattle.std.specs.Option.{option_or, option_flatten}
use Rattle.std.proofs.lemmas.Bool.{true≢false, and_parts}
use Rattle.std.proofs.lemmas.Iterator.Adapters.{option_map_id}
use Rattle.std.proofs.lemmas.List.{map-append, length-map}
use Rattle.depot_model.specs.depot_path.Bytes.{same}
use Rattle.depot_model.specs.declared.filter.FilterRule.{FilterRule}
use Rattle.depot_model.specs.Cut.{cut, cut_deed, cut_landing, cut_opening, cut_entry}
use Rattle.depot_model.specs.Deeds.{Deed, Spec, Guard, Group, Count, Pend, Drop, Open, Shut, Hold, Free, Got, Tag, Owe, Paid, Land, Landing, Opening, Owing, How, Entry, SpecKind, ClientForm, LabelForm, ShelfForm, JobForm, FixForm}
use Rattle.depot_model.specs.Filter.{is_inside}
use Rattle.depot_model.specs.Latest.{latest, when, have_said, label_said, count_said, group_said, guard_said, spec_said, same_kind}
use Rattle.depot_model.specs.Numbers.{top, landings, landing, pending_said}
use Rattle.depot_model.specs.Opened.{opened, opening_said, owed, paid_by, Resolve, holder, keeps}
use Rattle.depot_model.specs.Revisions.{Revision, revisions, entries_at, head}
use Rattle.depot_rows.proofs.Keys.{same-is}
use Rattle.depot_rows.proofs.Resolves.{three_true}

module _ (rules : List FilterRule) where
  -- whether a deed stays, and what stays of it
  abbrev pub stays : Deed → Bool
  stays (Spec ShelfForm name form) = false
  stays (Open o) = is_inside rules o.path
  stays (Shut held) = is_inside rules held.path
  stays (Hold held) = is_inside rules held.path
  stays (Free held) = is_inside rules held.path
  stays (Got held rev) = is_inside rules held.path
  stays (Tag label path rev) = is_inside rules path
  stays (Owe o) = is_inside rules o.path && is_inside rules o.from
  stays (Paid held from how) = is_inside rules held.path && is_inside rules from
  stays _ = true

  abbrev pub left : Deed → Deed
  left (Open o) = Open (cut_opening rules o)
  left (Land l) = Land (cut_landing rules l)
  left deed = deed

  cut_as : (deed : Deed) → cut_deed rules deed ≡ when (stays deed) (left deed)
  cut_as (Spec ClientForm name form) = refl
  cut_as (Spec LabelForm name form) = refl
  cut_as (Spec ShelfForm name form) = refl
  cut_as (Spec JobForm name form) = refl
  cut_as (Spec FixForm name form) = refl
  cut_as _ = refl

  -- a function of depots over one more deed
  pub cut_more : {B : Type 0} (of : List Deed → B) (deed : Deed) (d : List Deed) (value : B)
      → (stays deed ≡ true → of (left deed ∷ cut rules d) ≡ value) → (stays deed ≡ false → of (cut rules d) ≡ value) → of (cut rules (deed ∷ d)) ≡ value
  cut_more of deed d value kept gone = ap (λ (o : Option Deed). of (cons_option o (cut rules d))) (cut_as deed) ∙ go (stays deed) refl
    where
      go : (b : Bool) → stays deed ≡ b → of (cons_option (when b (left deed)) (cut rules d)) ≡ value
      go true e = kept e
      go false e = gone e

  -- a deed that tells nothing
  pub cut_silent : {B : Type 0} (of : List Deed → B) (deed : Deed) (d : List Deed) → of (left deed ∷ cut rules d) ≡ of (cut rules d)
      → of (cut rules (deed ∷ d)) ≡ of (cut rules d)
  cut_silent of deed d same = cut_more of deed d (of (cut rules d)) (λ e. same) (λ e. refl)

  -- a reading of the last deed that says something
  pub cut_latest : {A : Type 0} (reading : Deed → Option A) (f : A → A) → ((deed : Deed) → stays deed ≡ false → reading deed ≡ None)
      → ((deed : Deed) → stays deed ≡ true → reading (left deed) ≡ option_map f (reading deed)) → (d : List Deed)
      → latest reading (cut rules d) ≡ option_map f (latest reading d)
  cut_latest reading f gone kept [] = refl
  cut_latest {A} reading f gone kept (deed ∷ d) = go (cut_latest reading f gone kept d)
    where
      or_map : (o : Option A) → option_or (option_map f o) (option_map f (latest reading d)) ≡ option_map f (option_or o (latest reading d))
      or_map None = refl
      or_map (Some x) = refl

      go : latest reading (cut rules d) ≡ option_map f (latest reading d) → latest reading (cut rules (deed ∷ d)) ≡ option_map f (latest reading (deed ∷ d))
      go rest = cut_more (latest reading) deed d (option_map f (option_or (reading deed) (latest reading d)))
          (λ e. ap (λ (o : Option A). option_or o (latest reading (cut rules d))) (kept deed e) ∙ ap (option_or (option_map f (reading deed))) rest ∙ or_map (reading deed))
          (λ e. rest ∙ ap (λ (o : Option A). option_map f (option_or o (latest reading d))) (sym (gone deed e)))

  pub same_latest : {A : Type 0} (reading : Deed → Option A) → ((deed : Deed) → stays deed ≡ false → reading deed ≡ None)
      → ((deed : Deed) → reading (left deed) ≡ reading deed) → (d : List Deed) → latest reading (cut rules d) ≡ latest reading d
  same_latest reading gone kept d =
      cut_latest reading (λ x. x) gone (λ deed e. kept deed ∙ sym (option_map_id (reading deed))) d ∙ option_map_id (latest reading d)

  pub no_latest : {A : Type 0} (reading : Deed → Option A) → ((deed : Deed) → stays deed ≡ true → reading (left deed) ≡ None) → (d : List Deed)
      → latest reading (cut rules d) ≡ None
  no_latest reading silent [] = refl
  no_latest {A} reading silent (deed ∷ d) =
      cut_more (latest reading) deed d None
      (λ e. ap (λ (o : Option A). option_or o (latest reading (cut rules d))) (silent deed e) ∙ no_latest reading silent d) (λ e. no_latest reading silent d)

  untrue : {A : Type 0} → true ≡ false → A
  untrue e = absurd (true≢false e)

  -- ---- counters, groups and lines

  pub count_cut : (name : List ℕ) (d : List Deed) → latest (count_said name) (cut rules d) ≡ latest (count_said name) d
  count_cut name d = same_latest (count_said name) gone kept d
    where
      gone : (deed : Deed) → stays deed ≡ false → count_said name deed ≡ None
      gone (Count n value) e = untrue e
      gone _ e = refl

      kept : (deed : Deed) → count_said name (left deed) ≡ count_said name deed
      kept (Open o) = refl
      kept (Land l) = refl
      kept _ = refl

  pub group_cut : (name : List ℕ) (d : List Deed) → latest (group_said name) (cut rules d) ≡ latest (group_said name) d
  group_cut name d = same_latest (group_said name) gone kept d
    where
      gone : (deed : Deed) → stays deed ≡ false → group_said name deed ≡ None
      gone (Group n users) e = untrue e
      gone _ e = refl

      kept : (deed : Deed) → group_said name (left deed) ≡ group_said name deed
      kept (Open o) = refl
      kept (Land l) = refl
      kept _ = refl

  pub guard_cut : (d : List Deed) → latest guard_said (cut rules d) ≡ latest guard_said d
  guard_cut d = same_latest guard_said gone kept d
    where
      gone : (deed : Deed) → stays deed ≡ false → guard_said deed ≡ None
      gone (Guard lines) e = untrue e
      gone _ e = refl

      kept : (deed : Deed) → guard_said (left deed) ≡ guard_said deed
      kept (Open o) = refl
      kept (Land l) = refl
      kept _ = refl

  pub pending_cut : (n : ℕ) (d : List Deed) → latest (pending_said n) (cut rules d) ≡ latest (pending_said n) d
  pending_cut n d = same_latest (pending_said n) gone kept d
    where
      gone : (deed : Deed) → stays deed ≡ false → pending_said n deed ≡ None
      gone (Pend p) e = untrue e
      gone (Drop m) e = untrue e
      gone (Land l) e = untrue e
      gone _ e = refl

      kept : (deed : Deed) → pending_said n (left deed) ≡ pending_said n deed
      kept (Open o) = refl
      kept (Land l) = refl
      kept _ = refl

  -- ---- forms

  pub spec_cut : (kind : SpecKind) (name : List ℕ) (d : List Deed) → same_kind ShelfForm kind ≡ false → latest (spec_said kind name) (cut rules d) ≡ latest (spec_said kind name) d
  spec_cut kind name d other = same_latest (spec_said kind name) gone kept d
    where
      gone : (deed : Deed) → stays deed ≡ false → spec_said kind name deed ≡ None
      gone (Spec ShelfForm n form) e = go (same_kind ShelfForm kind) other
        where
          go : (b : Bool) → b ≡ false → when (b && same n name) form ≡ None
          go true f = untrue f
          go false f = refl
      gone (Spec ClientForm n form) e = untrue e
      gone (Spec LabelForm n form) e = untrue e
      gone (Spec JobForm n form) e = untrue e
      gone (Spec FixForm n form) e = untrue e
      gone _ e = refl

      kept : (deed : Deed) → spec_said kind name (left deed) ≡ spec_said kind name deed
      kept (Open o) = refl
      kept (Land l) = refl
      kept _ = refl

  pub shelf_cut : (name : List ℕ) (d : List Deed) → latest (spec_said ShelfForm name) (cut rules d) ≡ None
  shelf_cut name d = no_latest (spec_said ShelfForm name) silent d
    where
      silent : (deed : Deed) → stays deed ≡ true → spec_said ShelfForm name (left deed) ≡ None
      silent (Spec ShelfForm n form) e = untrue (sym e)
      silent (Spec ClientForm n form) e = refl
      silent (Spec LabelForm n form) e = refl
      silent (Spec JobForm n form) e = refl
      silent (Spec FixForm n form) e = refl
      silent _ e = refl

  -- ---- lists of files

  -- a test of a path inside passes for no path outside, and the other way round
  other_path : (p x : List ℕ) (a : Bool) → is_inside rules p ≢ is_inside rules x → (a && same p x) ≡ false
  other_path p x a apart = go (a && same p x) refl
    where
      go : (b : Bool) → (a && same p x) ≡ b → b ≡ false
      go true e = absurd (apart (ap (is_inside rules) (same-is p x (and_parts a (same p x) e).1)))
      go false e = refl

  differ : (a b : Bool) → a ≡ false → b ≡ true → a ≢ b
  differ a b e f one = true≢false (sym f ∙ sym one ∙ e)

  unsaid : {A : Type 0} (b : Bool) (value : A) → b ≡ false → when b value ≡ None
  unsaid true value e = untrue e
  unsaid false value e = refl

  module _ (c x : List ℕ) (inside : is_inside rules x ≡ true) where
    pub have_cut : (d : List Deed) → latest (have_said c x) (cut rules d) ≡ latest (have_said c x) d
    have_cut d = same_latest (have_said c x) gone kept d
      where
        gone : (deed : Deed) → stays deed ≡ false → have_said c x deed ≡ None
        gone (Got held rev) e = unsaid _ rev (other_path held.path x (same held.client c) (differ _ _ e inside))
        gone _ e = refl

        kept : (deed : Deed) → have_said c x (left deed) ≡ have_said c x deed
        kept (Open o) = refl
        kept (Land l) = refl
        kept _ = refl

    pub label_cut : (d : List Deed) → latest (label_said c x) (cut rules d) ≡ latest (label_said c x) d
    label_cut d = same_latest (label_said c x) gone kept d
      where
        gone : (deed : Deed) → stays deed ≡ false → label_said c x deed ≡ None
        gone (Tag label path rev) e = unsaid _ rev (other_path path x (same label c) (differ _ _ e inside))
        gone _ e = refl

        kept : (deed : Deed) → label_said c x (left deed) ≡ label_said c x deed
        kept (Open o) = refl
        kept (Land l) = refl
        kept _ = refl

    pub opening_cut : (d : List Deed) → latest (opening_said c x) (cut rules d) ≡ option_map (option_map (cut_opening rules)) (latest (opening_said c x) d)
    opening_cut d = cut_latest (opening_said c x) (option_map (cut_opening rules)) gone kept d
      where
        gone : (deed : Deed) → stays deed ≡ false → opening_said c x deed ≡ None
        gone (Open o) e = unsaid _ (Some o) (other_path o.path x (same o.client c) (differ _ _ e inside))
        gone (Shut held) e = unsaid _ None (other_path held.path x (same held.client c) (differ _ _ e inside))
        gone _ e = refl

        kept : (deed : Deed) → stays deed ≡ true → opening_said c x (left deed) ≡ option_map (option_map (cut_opening rules)) (opening_said c x deed)
        kept (Open o) e = go (same o.client c && same o.path x)
          where
            go : (b : Bool) → when b (Some (cut_opening rules o)) ≡ option_map (option_map (cut_opening rules)) (when b (Some o))
            go true = refl
            go false = refl
        kept (Shut held) e = go (same held.client c && same held.path x)
          where
            go : (b : Bool) → when b (let o : Option Opening = None in o) ≡ option_map (option_map (cut_opening rules)) (when b None)
            go true = refl
            go false = refl
        kept _ e = refl

  module _ (c x : List ℕ) (outside : is_inside rules x ≡ false) where
    pub have_out : (d : List Deed) → latest (have_said c x) (cut rules d) ≡ None
    have_out d = no_latest (have_said c x) silent d
      where
        silent : (deed : Deed) → stays deed ≡ true → have_said c x (left deed) ≡ None
        silent (Got held rev) e = unsaid _ rev (other_path held.path x (same held.client c) (λ one. differ _ _ outside e (sym one)))
        silent _ e = refl

    pub label_out : (d : List Deed) → latest (label_said c x) (cut rules d) ≡ None
    label_out d = no_latest (label_said c x) silent d
      where
        silent : (deed : Deed) → stays deed ≡ true → label_said c x (left deed) ≡ None
        silent (Tag label path rev) e = unsaid _ rev (other_path path x (same label c) (λ one. differ _ _ outside e (sym one)))
        silent _ e = refl

    pub opening_out : (d : List Deed) → latest (opening_said c x) (cut rules d) ≡ None
    opening_out d = no_latest (opening_said c x) silent d
      where
        silent : (deed : Deed) → stays deed ≡ true → opening_said c x (left deed) ≡ None
        silent (Open o) e = unsaid _ (Some (cut_opening rules o)) (other_path o.path x (same o.client c) (λ one. differ _ _ outside e (sym one)))
        silent (Shut held) e = unsaid _ None (other_path held.path x (same held.client c) (λ one. differ _ _ outside e (sym one)))
        silent _ e = refl

  -- ---- numbers of changes

  pub top_cut : (d : List Deed) → top (cut rules d) ≡ top d
  top_cut [] = refl
  top_cut (Pend p ∷ d) = ap (max p.change) (top_cut d)
  top_cut (Land l ∷ d) = ap (max l.change) (top_cut d)
  top_cut (deed ∷ d) = cut_silent top deed d refl ∙ top_cut d

  landings_cut : (d : List Deed) → landings (cut rules d) ≡ map (cut_landing rules) (landings d)
  landings_cut [] = refl
  landings_cut (Land l ∷ d) = ap (λ (ls : List Landing). cut_landing rules l ∷ ls) (landings_cut d)
  landings_cut (deed ∷ d) = cut_silent landings deed d refl ∙ landings_cut d

  pub landing_cut : (d : List Deed) (n : ℕ) → landing (cut rules d) n ≡ option_map (cut_landing rules) (landing d n)
  landing_cut d n = ap (find (λ (l : Landing). l.change == n)) (landings_cut d) ∙ go (landings d)
    where
      go : (ls : List Landing) → find (λ (l : Landing). l.change == n) (map (cut_landing rules) ls) ≡ option_map (cut_landing rules) (find (λ (l : Landing). l.change == n) ls)
      go [] = refl
      go (l ∷ ls) = test (l.change == n) (go ls)
        where
          test : (b : Bool) → find (λ (m : Landing). m.change == n) (map (cut_landing rules) ls) ≡ option_map (cut_landing rules) (find (λ (m : Landing). m.change == n) ls)
              → (if b then Some (cut_landing rules l) else find (λ (m : Landing). m.change == n) (map (cut_landing rules) ls))
              ≡ option_map (cut_landing rules) (if b then Some l else find (λ (m : Landing). m.change == n) ls)
          test true rest = refl
          test false rest = rest

  -- ---- locks

  some_alike : (o : Option (Option Opening)) → is_some (option_flatten (option_map (option_map (cut_opening rules)) o)) ≡ is_some (option_flatten o)
  some_alike None = refl
  some_alike (Some None) = refl
  some_alike (Some (Some o)) = refl

  apart_from : (p x : List ℕ) → is_inside rules p ≡ false → is_inside rules x ≡ true → same p x ≡ false
  apart_from p x e f = other_path p x true (differ _ _ e f)

  module _ (x : List ℕ) (inside : is_inside rules x ≡ true) where
    opened_alike : (c : List ℕ) (d : List Deed) → is_some (opened (cut rules d) c x) ≡ is_some (opened d c x)
    opened_alike c d = ap (λ (o : Option (Option Opening)). is_some (option_flatten o)) (opening_cut c x inside d) ∙ some_alike (latest (opening_said c x) d)

    abbrev holder_if : Bool → List ℕ → Bool → Option (List ℕ) → Option (List ℕ)
    holder_if b client there before = if b then (if there then Some client else None) else before

    abbrev keeps_if : Bool → List ℕ → Option (List ℕ) → Option (List ℕ)
    keeps_if b client before = if b then keeps client before else before

    held_on : (client path : List ℕ) (d : List Deed) → holder (cut rules d) x ≡ holder d x
        → holder_if (same path x) client (is_some (opened (cut rules d) client x)) (holder (cut rules d) x)
        ≡ holder_if (same path x) client (is_some (opened d client x)) (holder d x)
    held_on client path d rest = λ i. holder_if (same path x) client (opened_alike client d i) (rest i)

    held_off : (client path : List ℕ) (there : Bool) (d : List Deed) → holder (cut rules d) x ≡ holder d x → is_inside rules path ≡ false
        → holder (cut rules d) x ≡ holder_if (same path x) client there (holder d x)
    held_off client path there d rest e = rest ∙ ap (λ (b : Bool). holder_if b client there (holder d x)) (sym (apart_from path x e inside))

    kept_off : (client path : List ℕ) (d : List Deed) → holder (cut rules d) x ≡ holder d x → is_inside rules path ≡ false
        → holder (cut rules d) x ≡ keeps_if (same path x) client (holder d x)
    kept_off client path d rest e = rest ∙ ap (λ (b : Bool). keeps_if b client (holder d x)) (sym (apart_from path x e inside))

    pub holder_cut : (d : List Deed) → holder (cut rules d) x ≡ holder d x
    holder_cut [] = refl
    holder_cut (Hold held ∷ d) = cut_more (λ e. holder e x) (Hold held) d (holder (Hold held ∷ d) x)
        (λ e. held_on held.client held.path d (holder_cut d)) (λ e. held_off held.client held.path (is_some (opened d held.client x)) d (holder_cut d) e)
    holder_cut (Free held ∷ d) = cut_more (λ e. holder e x) (Free held) d (holder (Free held ∷ d) x)
        (λ e. ap (keeps_if (same held.path x) held.client) (holder_cut d)) (λ e. kept_off held.client held.path d (holder_cut d) e)
    holder_cut (Shut held ∷ d) = cut_more (λ e. holder e x) (Shut held) d (holder (Shut held ∷ d) x)
        (λ e. ap (keeps_if (same held.path x) held.client) (holder_cut d)) (λ e. kept_off held.client held.path d (holder_cut d) e)
    holder_cut (deed ∷ d) = cut_silent (λ e. holder e x) deed d refl ∙ holder_cut d

  -- ---- resolves

  not_both_at : (p f x y : List ℕ) (a : Bool) → (is_inside rules p && is_inside rules f) ≡ false → is_inside rules x ≡ true → is_inside rules y ≡ true
      → (a && same p x && same f y) ≡ false
  not_both_at p f x y a e h k = go (a && same p x && same f y) refl
    where
      go : (b : Bool) → (a && same p x && same f y) ≡ b → b ≡ false
      go false g = refl
      go true g = absurd (true≢false (
          let t = three_true a (same p x) (same f y) g in
          let one : is_inside rules p ≡ true = ap (is_inside rules) (same-is p x t.1) ∙ h in
          let two : is_inside rules f ≡ true = ap (is_inside rules) (same-is f y t.2) ∙ k in
          (λ i. (sym one i) && (sym two i)) ∙ e))

  abbrev owed_if : Bool → Owing → Option Resolve → Option Resolve
  owed_if b o before = if b then Some (record { owing = o; how = None }) else before

  abbrev paid_if : Bool → How → Option Resolve → Option Resolve
  paid_if b how before = if b then option_map (paid_by how) before else before

  abbrev shut_if : Bool → Option Resolve → Option Resolve
  shut_if b before = if b then None else before

  and_two : (a b c : Bool) → (a && b && c) ≡ ((a && b) && c)
  and_two true b c = refl
  and_two false b c = refl

  module _ (c x y : List ℕ) (inside : is_inside rules x ≡ true) (from : is_inside rules y ≡ true) where
    pub owed_cut : (d : List Deed) → owed (cut rules d) c x y ≡ owed d c x y
    owed_cut [] = refl
    owed_cut (Owe o ∷ d) = cut_more (λ e. owed e c x y) (Owe o) d (owed (Owe o ∷ d) c x y)
        (λ e. ap (owed_if (same o.client c && same o.path x && same o.from y) o) (owed_cut d))
        (λ e. owed_cut d ∙ ap (λ (b : Bool). owed_if b o (owed d c x y)) (sym (not_both_at o.path o.from x y (same o.client c) e inside from)))
    owed_cut (Paid held f how ∷ d) = cut_more (λ e. owed e c x y) (Paid held f how) d (owed (Paid held f how ∷ d) c x y)
        (λ e. ap (paid_if ((same held.client c && same held.path x) && same f y) how) (owed_cut d))
        (λ e. owed_cut d ∙ ap (λ (b : Bool). paid_if b how (owed d c x y))
        (sym (sym (and_two (same held.client c) (same held.path x) (same f y)) ∙ not_both_at held.path f x y (same held.client c) e inside from)))
    owed_cut (Shut held ∷ d) = cut_more (λ e. owed e c x y) (Shut held) d (owed (Shut held ∷ d) c x y)
        (λ e. ap (shut_if (same held.client c && same held.path x)) (owed_cut d))
        (λ e. owed_cut d ∙ ap (λ (b : Bool). shut_if b (owed d c x y)) (sym (other_path held.path x (same held.client c) (differ _ _ e inside))))
    owed_cut (deed ∷ d) = cut_silent (λ e. owed e c x y) deed d refl ∙ owed_cut d

  module _ (c x y : List ℕ) (outside : (is_inside rules x && is_inside rules y) ≡ false) where
    untold : (p f : List ℕ) (a : Bool) → (is_inside rules p && is_inside rules f) ≡ true → (a && same p x && same f y) ≡ false
    untold p f a e = go (a && same p x && same f y) refl
      where
        go : (b : Bool) → (a && same p x && same f y) ≡ b → b ≡ false
        go false g = refl
        go true g = absurd (true≢false (
            let t = three_true a (same p x) (same f y) g in
            sym e ∙ (λ i. is_inside rules (same-is p x t.1 i) && is_inside rules (same-is f y t.2 i)) ∙ outside))

    still_none : (b : Bool) (how : How) → paid_if b how None ≡ None
    still_none true how = refl
    still_none false how = refl

    shut_none : (b : Bool) → shut_if b None ≡ None
    shut_none true = refl
    shut_none false = refl

    pub owed_out : (d : List Deed) → owed (cut rules d) c x y ≡ None
    owed_out [] = refl
    owed_out (Owe o ∷ d) = cut_more (λ e. owed e c x y) (Owe o) d None
        (λ e. ap (λ (b : Bool). owed_if b o (owed (cut rules d) c x y)) (untold o.path o.from (same o.client c) e) ∙ owed_out d) (λ e. owed_out d)
    owed_out (Paid held f how ∷ d) = cut_more (λ e. owed e c x y) (Paid held f how) d None
        (λ e. ap (paid_if ((same held.client c && same held.path x) && same f y) how) (owed_out d) ∙ still_none _ how) (λ e. owed_out d)
    owed_out (Shut held ∷ d) = cut_more (λ e. owed e c x y) (Shut held) d None
        (λ e. ap (shut_if (same held.client c && same held.path x)) (owed_out d) ∙ shut_none _) (λ e. owed_out d)
    owed_out (deed ∷ d) = cut_silent (λ e. owed e c x y) deed d refl ∙ owed_out d

  -- ---- revisions

  abbrev pub cut_rev : Revision → Revision
  cut_rev r = record { landing = cut_landing rules r.landing; entry = cut_entry rules r.entry }

  abbrev pub kept_entries : List Entry → List Entry
  kept_entries es = filter (λ (e : Entry). is_inside rules e.path) es

  abbrev of_path : List ℕ → List Entry → List Entry
  of_path x es = filter (λ (e : Entry). same e.path x) es

  -- of a path inside the same entries stay, and of one outside none
  entries_in : (x : List ℕ) → is_inside rules x ≡ true → (es : List Entry) → of_path x (map (cut_entry rules) (kept_entries es)) ≡ map (cut_entry rules) (of_path x es)
  entries_in x inside [] = refl
  entries_in x inside (e ∷ es) = go (is_inside rules e.path) refl (entries_in x inside es)
    where
      picked : (b : Bool) → of_path x (map (cut_entry rules) (kept_entries es)) ≡ map (cut_entry rules) (of_path x es)
          → (if b then cut_entry rules e ∷ of_path x (map (cut_entry rules) (kept_entries es)) else of_path x (map (cut_entry rules) (kept_entries es)))
          ≡ map (cut_entry rules) (if b then e ∷ of_path x es else of_path x es)
      picked true rest = ap (λ (ys : List Entry). cut_entry rules e ∷ ys) rest
      picked false rest = rest

      go : (a : Bool) → is_inside rules e.path ≡ a → of_path x (map (cut_entry rules) (kept_entries es)) ≡ map (cut_entry rules) (of_path x es)
          → of_path x (map (cut_entry rules) (if a then e ∷ kept_entries es else kept_entries es)) ≡ map (cut_entry rules) (of_path x (e ∷ es))
      go true h rest = picked (same e.path x) rest
      go false h rest = rest ∙ ap (λ (b : Bool). map (cut_entry rules) (if b then e ∷ of_path x es else of_path x es)) (sym (apart_from e.path x h inside))

  entries_out : (x : List ℕ) → is_inside rules x ≡ false → (es : List Entry) → of_path x (map (cut_entry rules) (kept_entries es)) ≡ []
  entries_out x outside [] = refl
  entries_out x outside (e ∷ es) = go (is_inside rules e.path) refl (entries_out x outside es)
    where
      go : (a : Bool) → is_inside rules e.path ≡ a → of_path x (map (cut_entry rules) (kept_entries es)) ≡ []
          → of_path x (map (cut_entry rules) (if a then e ∷ kept_entries es else kept_entries es)) ≡ []
      go true h rest =
          let apart : same e.path x ≡ false = other_path e.path x true (λ one. differ _ _ outside h (sym one)) in
          ap (λ (b : Bool). if b then cut_entry rules e ∷ of_path x (map (cut_entry rules) (kept_entries es)) else of_path x (map (cut_entry rules) (kept_entries es))) apart ∙ rest
      go false h rest = rest

  made_alike : (l : Landing) (es : List Entry)
      → map (λ e. record { landing = cut_landing rules l; entry = e }) (map (cut_entry rules) es) ≡ map cut_rev (map (λ e. record { landing = l; entry = e }) es)
  made_alike l [] = refl
  made_alike l (e ∷ es) = ap (λ (rs : List Revision). record { landing = cut_landing rules l; entry = cut_entry rules e } ∷ rs) (made_alike l es)

  pub revisions_cut : (x : List ℕ) → is_inside rules x ≡ true → (d : List Deed) → revisions (cut rules d) x ≡ map cut_rev (revisions d x)
  revisions_cut x inside [] = refl
  revisions_cut x inside (Land l ∷ d) =
      (λ i. revisions_cut x inside d i ++ (ap (map (λ e. record { landing = cut_landing rules l; entry = e })) (entries_in x inside l.entries) ∙ made_alike l (of_path x l.entries)) i)
      ∙ sym (map-append cut_rev (revisions d x) (entries_at x l))
  revisions_cut x inside (deed ∷ d) = cut_silent (λ e. revisions e x) deed d refl ∙ revisions_cut x inside d

  pub revisions_out : (x : List ℕ) → is_inside rules x ≡ false → (d : List Deed) → revisions (cut rules d) x ≡ []
  revisions_out x outside [] = refl
  revisions_out x outside (Land l ∷ d) =
      λ i. revisions_out x outside d i ++ ap (map (λ e. record { landing = cut_landing rules l; entry = e })) (entries_out x outside l.entries) i
  revisions_out x outside (deed ∷ d) = cut_silent (λ e. revisions e x) deed d refl ∙ revisions_out x outside d

  pub head_cut : (x : List ℕ) → is_inside rules x ≡ true → (d : List Deed) → head (cut rules d) x ≡ head d x
  head_cut x inside d = ap (λ (rs : List Revision). length rs) (revisions_cut x inside d) ∙ length-map (revisions d x) cut_rev
