-- Two depots with the same rows, after the same deeds.
use Rattle.std.proofs.Common.{◌≡◌, ◌+◌, ℕ, suc, true, false, List, [], ◌∷◌, length, map, Option, Some, None, refl, sym, ap, subst, ◌∙◌}
use Rattle.std.specs.Prelude.{option_map, is_some, slice_get}
use Rattle.std.specs.List.{list_all}
use Rattle.std.proofs.lemmas.Bool.{and_parts}
use Rattle.depot_model.specs.depot_path.Path.{printed, is_path}
use Rattle.depot_model.specs.db_records.declared.key.Key.TheVariants as keys
use Rattle.depot_model.specs.Deeds as model
use Rattle.depot_model.specs.Records.{record_of, rev_record, unplaced, SameRows}
use Rattle.depot_model.specs.Revisions.{Revision, revisions, revision, head}
use Rattle.depot_model.specs.Rules.{Rows, NotBoth}
use Rattle.depot_model.specs.Step.{after}
use Rattle.depot_rows.specs.declared.deed.Deed.{Deed}
use Rattle.depot_rows.specs.declared.deed.Deed.TheVariants.{Land}
use Rattle.depot_rows.specs.declared.deed.Entry.{Entry}
use Rattle.depot_rows.specs.Deed.{IsDeed, IsEntry, AreEntries, IsLanding}
use Rattle.depot_rows.specs.Effects.{effect, May, Follow, entry_path}
use Rattle.depot_rows.proofs.Spelled.{at_path-here}
use Rattle.depot_rows.proofs.Following.{met, stays_apart}

same_length : {A : Type 0} (xs ys : List A) → ((k : ℕ) → is_some (slice_get xs k) ≡ is_some (slice_get ys k)) → length xs ≡ length ys
same_length [] [] alike = refl
same_length [] (y ∷ ys) alike = absurd (let e : false ≡ true = alike 0 in cc)
same_length (x ∷ xs) [] alike = absurd (let e : true ≡ false = alike 0 in cc)
same_length (x ∷ xs) (y ∷ ys) alike = ap suc (same_length xs ys (λ k. alike (suc k)))

module _ (d e : List model.Deed) (same : SameRows d e) where
  -- a path has as many revisions in both
  head_same : (path : List ℕ) → is_path path ≡ true → head d path ≡ head e path
  head_same path is = same_length (revisions d path) (revisions e path) (λ k. sym (there k (revision d path (suc k))) ∙ ap is_some (rows k) ∙ there k (revision e path (suc k)))
    where
      rows : (k : ℕ) → option_map (rev_record (suc k)) (revision d path (suc k)) ≡ option_map (rev_record (suc k)) (revision e path (suc k))
      rows k =
          sym (at_path-here path (λ x. option_map (rev_record (suc k)) (revision d x (suc k))) is)
          ∙ same (keys.Rev (printed path) (suc k))
          ∙ at_path-here path (λ x. option_map (rev_record (suc k)) (revision e x (suc k))) is

      there : (k : ℕ) (r : Option Revision) → is_some (option_map (rev_record (suc k)) r) ≡ is_some r
      there k None = refl
      there k (Some r) = refl

  entries_same : (es : List Entry) (xs : List model.Entry) → AreEntries d es xs → list_all is_path (map entry_path es) ≡ true → AreEntries e es xs
  entries_same [] [] are paths = tt
  entries_same [] (x ∷ xs) are paths = absurd are
  entries_same (y ∷ ys) [] are paths = absurd are
  entries_same (y ∷ ys) (x ∷ xs) are paths =
      let is : IsEntry d y x = are.0 in
      let path : is_path x.path ≡ true = ap is_path (sym is.path) ∙ (and_parts (is_path y.path) (list_all is_path (map entry_path ys)) paths).0 in (
        record {
          path = is.path;
          rev = is.rev ∙ ap (λ (n : ℕ). n + 1) (head_same x.path path);
          action = is.action;
          file_type = is.file_type;
          content = is.content;
          credits = is.credits;
          moved = is.moved;
        },
        entries_same ys xs are.1 (and_parts (is_path y.path) (list_all is_path (map entry_path ys)) paths).1,
      )

  deed_same : (done : Deed) (deed : model.Deed) → IsDeed d done deed → May done (record_of d) → IsDeed e done deed
  deed_same (Land l) deed is may =
      let of : IsLanding d l is.0 = is.2 in (
        is.0,
        is.1,
        record {
          change = of.change;
          user = of.user;
          client = of.client;
          moment = of.moment;
          text = of.text;
          entries = entries_same l.entries is.0.entries of.entries may.0;
        },
      )
  deed_same done deed is may = is

  rows_one : record_of d ≡ record_of e
  rows_one = λ i q. same q i

  may_same : (done : Deed) → May done (record_of d) → May done (record_of e)
  may_same done may = subst (May done) rows_one may

  after_same : (done : Deed) (deed : model.Deed) → NotBoth d → NotBoth e → IsDeed d done deed → May done (record_of d) → SameRows (deed ∷ d) (deed ∷ e)
  after_same done deed apart other is may q =
      sym (met d done deed apart is may q)
      ∙ ap (λ (rows : Rows). option_map unplaced (effect done rows q)) rows_one
      ∙ met e done deed other (deed_same done deed is may) (may_same done may) q

pub follow_same : (d e : List model.Deed) (dones : List Deed) (deeds : List model.Deed) → SameRows d e → NotBoth d → NotBoth e → Follow d dones deeds
    → Follow e dones deeds
follow_same d e [] [] same apart other follow = tt
follow_same d e [] (deed ∷ deeds) same apart other follow = absurd follow
follow_same d e (done ∷ dones) [] same apart other follow = absurd follow
follow_same d e (done ∷ dones) (deed ∷ deeds) same apart other follow =
    let is : IsDeed e done deed = deed_same d e same done deed follow.0 follow.1 in
    let may : May done (record_of e) = may_same d e same done follow.1 in (
      is,
      may,
      follow_same (deed ∷ d) (deed ∷ e) dones deeds (after_same d e same done deed apart other follow.0 follow.1)
          (stays_apart d done deed apart follow.0 follow.1) (stays_apart e done deed other is may) follow.2,
    )

pub rows_same : (d e : List model.Deed) (dones : List Deed) (deeds : List model.Deed) → SameRows d e → NotBoth d → NotBoth e → Follow d dones deeds
    → SameRows (after d deeds) (after e deeds)
rows_same d e [] [] same apart other follow = same
rows_same d e [] (deed ∷ deeds) same apart other follow = absurd follow
rows_same d e (done ∷ dones) [] same apart other follow = absurd follow
rows_same d e (done ∷ dones) (deed ∷ deeds) same apart other follow =
    let is : IsDeed e done deed = deed_same d e same done deed follow.0 follow.1 in
    let may : May done (record_of e) = may_same d e same done follow.1 in
    rows_same (deed ∷ d) (deed ∷ e) dones deeds (after_same d e same done deed apart other follow.0 follow.1)
    (stays_apart d done deed apart follow.0 follow.1) (stays_apart e done deed other is may) follow.2
