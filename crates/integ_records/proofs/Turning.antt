-- The owed resolves of a file one after another are the model's, each over the depot that those before it left.
use Rattle.std.proofs.Common.{◌≡◌, ◌<◌, ℕ, Bool, true, false, List, [], ◌∷◌, length, map, Option, Some, None, inl, inr, refl, sym, ap, ◌∙◌, arith}
use Rattle.std.specs.Prelude.{◌&&◌, if◌then◌else◌, is_none}
use Rattle.std.specs.Option.{option_flatten, option_map_or, option_or}
use Rattle.depot_rows.specs.depot_path.Bytes.{same}
use Rattle.depot_rows.specs.depot_model.declared.command.Taking.{Taking}
use Rattle.depot_rows.specs.depot_model.declared.command.Taking.TheVariants.{Theirs, Yours}
use Rattle.depot_rows.specs.depot_model.declared.request.Caller.{Caller}
use Rattle.depot_rows.specs.depot_model.Deeds.{Deed, Open, Shut, Got, Opening, Owing}
use Rattle.depot_rows.specs.depot_model.Latest.{latest, when}
use Rattle.depot_rows.specs.depot_model.Opened.{opened, opening_said}
use Rattle.depot_rows.specs.depot_model.Revisions.{Revision, is_live, is_live_at, revision_in, revisions}
use Rattle.depot_rows.specs.depot_model.Step.{Step, after, both, does, nothing}
use Rattle.depot_rows.specs.depot_model.Steps.Resolving.{held_of, how_of, other_deeds, own_deeds, paid, resolve_next, resolve_one, resolve_opened, resolve_row, source_at}
use Rattle.depot_rows.specs.Deed.{owing_of}
use Rattle.depot_rows.specs.declared.deed.Owing.{Owing as OwingSaid}
use Rattle.depot_rows.proofs.Entries.{In}
use Rattle.depot_rows.proofs.Keys.{same-self}
use Rattle.depot_rows.proofs.Locks.{opened-is}
use Rattle.reply_rows.proofs.Joined.{both_assoc, both_nothing}
use Rattle.integ_records.specs.Turns.{left, left_other, left_own, turns}

-- both depots have the same revisions
abbrev SameRevisions : List Deed → List Deed → Type 0
SameRevisions d e = (path : List ℕ) → revisions e path ≡ revisions d path

live_same : (d e : List Deed) → SameRevisions d e → (path : List ℕ) (n : ℕ) → is_live_at e path n ≡ is_live_at d path n
live_same d e alike path n = ap (λ (revs : List Revision). option_map_or is_live (revision_in revs n) false) (alike path)

-- the deeds of a resolve from the file itself, by whether its last revision is live
abbrev pub own_by : Bool → Taking → Opening → Owing → List Deed
own_by live Theirs o r =
    if live
    then Got (held_of r) r.last ∷ Open (record o { base = r.last; source = Some (source_at r) }) ∷ []
    else Got (held_of r) 0 ∷ Shut (held_of r) ∷ []
own_by live Yours o r = Got (held_of r) r.last ∷ Open (record o { base = r.last; source = None }) ∷ []

own_is : (d : List Deed) (taking : Taking) (o : Opening) (r : Owing) → own_deeds d taking o r ≡ own_by (is_live_at d r.path r.last) taking o r
own_is d Theirs o r = refl
own_is d Yours o r = refl

abbrev deeds_by : Bool → Bool → Taking → Opening → Owing → List Deed
deeds_by own live taking o r = paid taking r ∷ (if own then own_by live taking o r else other_deeds taking o r)

one_is : (d : List Deed) (taking : Taking) (o : Opening) (r : Owing)
    → (resolve_one d taking o r).deeds ≡ deeds_by (same r.from r.path) (is_live_at d r.path r.last) taking o r
one_is d taking o r = λ i. paid taking r ∷ (if same r.from r.path then own_is d taking o r i else other_deeds taking o r)

one_same : (d e : List Deed) → SameRevisions d e → (taking : Taking) (o : Opening) (r : Owing) → resolve_one e taking o r ≡ resolve_one d taking o r
one_same d e alike taking o r =
    let deeds : (resolve_one e taking o r).deeds ≡ (resolve_one d taking o r).deeds =
    one_is e taking o r ∙ ap (λ (live : Bool). deeds_by (same r.from r.path) live taking o r) (live_same d e alike r.path r.last) ∙ sym (one_is d taking o r) in
    λ i. does (deeds i) (resolve_row r (how_of taking))

module _ (client path : List ℕ) (e : List Deed) (taking : Taking) (o : Opening) (r : Owing) where
  -- the revisions stay
  revisions_stay : (from_itself live : Bool) (t : Taking) → SameRevisions e (after e (deeds_by from_itself live t o r))
  revisions_stay true true Theirs p = refl
  revisions_stay true false Theirs p = refl
  revisions_stay true live Yours p = refl
  revisions_stay false live Theirs p = refl
  revisions_stay false live Yours p = refl

  one_stays : SameRevisions e (after e (resolve_one e taking o r).deeds)
  one_stays p =
      ap (λ (deeds : List Deed). revisions (after e deeds) p) (one_is e taking o r)
      ∙ revisions_stay (same r.from r.path) (is_live_at e r.path r.last) taking p

  module _ (opened_is : opened e client path ≡ Some o) (client_is : r.client ≡ client) (path_is : r.path ≡ path) where
    own : (same o.client client && same o.path path) ≡ true
    own =
        let is = opened-is e client path o opened_is in
        let one : same o.client client ≡ true = ap (λ (c : List ℕ). same c client) is.0 ∙ same-self client in
        let two : same o.path path ≡ true = ap (λ (p : List ℕ). same p path) is.1 ∙ same-self path in
        λ i. one i && two i

    own_file : (same r.client client && same r.path path) ≡ true
    own_file =
        let one : same r.client client ≡ true = ap (λ (c : List ℕ). same c client) client_is ∙ same-self client in
        let two : same r.path path ≡ true = ap (λ (p : List ℕ). same p path) path_is ∙ same-self path in
        λ i. one i && two i

    -- the opening that a resolve leaves is that of the depot behind it
    leaves : (from_itself live : Bool) (t : Taking)
        → opened (after e (deeds_by from_itself live t o r)) client path ≡ (if from_itself then left_own live t o r else Some (left_other t o r))
    leaves true true Theirs = ap (λ (b : Bool). option_flatten (option_or (when b (Some (record o { base = r.last; source = Some (source_at r) }))) (latest (opening_said client path) e))) own
    leaves true false Theirs = ap (λ (b : Bool). option_flatten (option_or (when b None) (latest (opening_said client path) e))) own_file
    leaves true live Yours = ap (λ (b : Bool). option_flatten (option_or (when b (Some (record o { base = r.last; source = None }))) (latest (opening_said client path) e))) own
    leaves false live Theirs = ap (λ (b : Bool). option_flatten (option_or (when b (Some (record o { source = Some (source_at r) }))) (latest (opening_said client path) e))) own
    leaves false live Yours = opened_is

    one_leaves : opened (after e (resolve_one e taking o r).deeds) client path ≡ left e taking o r
    one_leaves =
        ap (λ (deeds : List Deed). opened (after e deeds) client path) (one_is e taking o r)
        ∙ leaves (same r.from r.path) (is_live_at e r.path r.last) taking

module _ (d : List Deed) (caller : Caller) (taking : Taking) (path : List ℕ) where
  abbrev act : List Deed → Owing → Step
  act e r = resolve_opened taking e caller path r

  abbrev next : List Deed → List Owing → Step
  next e rs = resolve_next (λ f. resolve_opened taking f caller path) e caller path rs

  left_same : (e : List Deed) → SameRevisions d e → (o : Opening) (r : Owing) → left e taking o r ≡ left d taking o r
  left_same e alike o r =
      ap (λ (live : Bool). if same r.from r.path then left_own live taking o r else Some (left_other taking o r)) (live_same d e alike r.path r.last)

  pub turned : (e : List Deed) → SameRevisions d e → (found : Option Opening) → opened e caller.client path ≡ found → (rs : List Owing)
      → ((r : Owing) → In rs r → (r.client ≡ caller.client) × (r.path ≡ path)) → next e rs ≡ turns d taking found rs
  turned e alike found is [] each = refl
  turned e alike None is (r ∷ rs) each =
      ap (λ (x : Option Opening). if is_none x then nothing else both (act e r) (next (after e (act e r).deeds) rs)) is
  turned e alike (Some o) is (r ∷ rs) each =
      let of = each r (inl refl) in
      let there : List Deed = after e (resolve_one e taking o r).deeds in
      let one : act e r ≡ resolve_one e taking o r =
      ap (λ (x : Option Opening). elim x as (λ _. Step) [ None ↦ nothing | Some y ↦ resolve_one e taking y r ]) is in
      let rest : next there rs ≡ turns d taking (left d taking o r) rs =
      turned there (λ p. one_stays caller.client path e taking o r p ∙ alike p) (left d taking o r)
      (one_leaves caller.client path e taking o r is of.0 of.1 ∙ left_same e alike o r) rs (λ x h. each x (inr h)) in
      ap (λ (x : Option Opening). if is_none x then nothing else both (act e r) (next (after e (act e r).deeds) rs)) is
      ∙ ap (λ (s : Step). both s (next (after e s.deeds) rs)) one
      ∙ (λ i. both (one_same d e alike taking o r i) (rest i))

-- ---- one turn and those behind it

pub turn_first : (d : List Deed) (taking : Taking) (m : Step) (o : Opening) (r : Owing) (rs : List Owing) (now : Opening) → left d taking o r ≡ Some now
    → both (both m (resolve_one d taking o r)) (turns d taking (Some now) rs) ≡ both m (turns d taking (Some o) (r ∷ rs))
turn_first d taking m o r rs now is =
    both_assoc m (resolve_one d taking o r) (turns d taking (Some now) rs)
    ∙ ap (λ (x : Option Opening). both m (both (resolve_one d taking o r) (turns d taking x rs))) (sym is)

-- none is behind one that shuts the file
none_behind : (d : List Deed) (taking : Taking) (rs : List Owing) → turns d taking None rs ≡ nothing
none_behind d taking [] = refl
none_behind d taking (r ∷ rs) = refl

pub shut_turns : (d : List Deed) (taking : Taking) (m : Step) (o : Opening) (r : Owing) (rs : List Owing) → left d taking o r ≡ None
    → both m (resolve_one d taking o r) ≡ both m (turns d taking (Some o) (r ∷ rs))
shut_turns d taking m o r rs is =
    ap (both m) (sym (both_nothing (resolve_one d taking o r)) ∙ ap (λ (x : Step). both (resolve_one d taking o r) x) (sym (none_behind d taking rs))
    ∙ ap (λ (x : Option Opening). both (resolve_one d taking o r) (turns d taking x rs)) (sym is))

-- nor behind the last
pub no_turns : (d : List Deed) (taking : Taking) (m : Step) (o : Opening) (rest : List OwingSaid) → length rest < 1
    → m ≡ both m (turns d taking (Some o) (map owing_of rest))
no_turns d taking m o [] few = sym (both_nothing m)
no_turns d taking m o (r ∷ rest) few = absurd (omega arith)
