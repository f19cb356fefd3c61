-- Steps that save and delete pending changes; and the step of a checkpoint.
use Rattle.std.proofs.Common.{◌≡◌, ◌≢◌, ◌≤◌, ◌+◌, ℕ, true, false, List, [], ◌∷◌, length, Option, Some, None, inl, inr, refl, sym, ap, subst, ◌∙◌, arith}
use Rattle.std.specs.Prelude.{not, codes, decimal, filter_map, nat_le, nat_lt, IfSome, IsSomeAnd, IsTrue, is_some}
use Rattle.std.specs.Option.{option_map_or}
use Rattle.std.proofs.lemmas.Bool.Decides.{nat_tests}
use Rattle.std.proofs.lemmas.Bool.{or_parts, and_parts}
use Rattle.depot_rows.specs.depot_path.Bytes.{same}
use Rattle.depot_rows.specs.spec_form.Form.{FormValue}
use Rattle.depot_rows.specs.spec_form.Printing.{printed_form}
use Rattle.depot_rows.specs.spec_form.declared.shape.Shape.TheVariants.{Shelf as ShelfShape, Fix as FixShape}
use Rattle.depot_rows.specs.depot_model.Deeds.{Deed, Drop, Count, Opening, Pending, ShelfForm, FixForm}
use Rattle.depot_rows.specs.depot_model.Fixes.{is_fixing, is_on, fixes_of, fixes_on}
use Rattle.depot_rows.specs.depot_model.Latest.{keys_of, spec, spec_name, spec_said}
use Rattle.depot_rows.specs.depot_model.Numerals.{is_numeral}
use Rattle.depot_rows.specs.depot_model.Numbers.{pending, landing}
use Rattle.depot_rows.specs.depot_model.Opened.{opened}
use Rattle.depot_rows.specs.depot_model.Rules.{IsSound, value_in}
use Rattle.depot_rows.specs.depot_model.Shelves.{is_kept, is_of_change, is_shelved}
use Rattle.depot_rows.specs.depot_model.Values.{value_of}
use Rattle.depot_rows.specs.depot_model.Step.{after, refuse_if}
use Rattle.depot_rows.specs.depot_model.Steps.Changing.{change_delete, delete_refusals}
use Rattle.depot_rows.specs.depot_model.Steps.Checkpoint.{generation, checkpoint}
use Rattle.depot_rows.specs.depot_model.Steps.Opening.{is_of}
use Rattle.depot_rows.specs.depot_model.Steps.Submitting.{openings_of}
use Rattle.depot_rows.specs.depot_model.declared.refusal.Refusal.TheVariants.{NotYours, NotDeletable, OverLimit}
use Rattle.depot_rows.specs.depot_model.declared.refusal.Limit.TheVariants.{Generation}
use Rattle.depot_rows.specs.depot_model.declared.request.Caller.{Caller}
use Rattle.depot_rows.proofs.Keys.{same-is, same-self}
use Rattle.sound_deeds.specs.Keeping.{HasNoFix, HasNoOpening, HasNoShelf, IsOpenChange}
use Rattle.sound_deeds.proofs.Whole.{one_sound}
use Rattle.depot_facts.proofs.OpenFiles.{in_openings}
use Rattle.depot_facts.proofs.Decimals.{numeral_is}
use Rattle.depot_facts.proofs.Found.{saved_fix, saved_shelf, shelf_there, spec_names, spec_value}
use Rattle.depot_facts.proofs.Members.{key_in}
use Rattle.depot_facts.specs.Fields.{number_of_field}
use Rattle.sound_file_steps.proofs.Known.{IsKnown, opened_known}
use Rattle.depot_facts.proofs.Listed.{filter_in, filter_map_in, in_some}
use Rattle.depot_rows.proofs.Entries.{In}
use Rattle.depot_facts.proofs.Steps.{not_refused, unless_sound}
use Rattle.depot_facts.proofs.Tests.{not_false}

none_of : {A : Type 0} (o : Option A) → is_some o ≡ false → o ≡ None
none_of None e = refl
none_of (Some x) e = absurd cc

module _ (d : List Deed) (sound : IsSound d) where
  -- ---- what stands in no list of a depot: fixes and shelved files

  no_fix : (n : ℕ) → is_fixing d n ≡ false → HasNoFix d n
  no_fix n none name = go (spec d FixForm name) refl
    where
      go : (o : Option FormValue) → spec d FixForm name ≡ o → IfSome o (λ form. IsTrue (is_on form) → number_of_field form (codes "Change") ≢ n)
      go None e = tt
      go (Some form) e = λ on is.
          let value : value_in FixShape (codes "Change") (printed_form form) ≡ value_of form (codes "Change") = spec_value d sound FixForm name form e (codes "Change") in
          let numeral : is_numeral (value_of form (codes "Change")) ≡ true =
          ap is_numeral (sym value) ∙ (and_parts _ _ ((saved_fix d sound name form e).change)).0 in
          let text : value_of form (codes "Change") ≡ decimal n = numeral_is (value_of form (codes "Change")) numeral ∙ ap decimal is in
          let of : is_of_change n form ≡ true = ap (λ (w : List ℕ). same w (decimal n)) text ∙ same-self (decimal n) in
          let there : In (fixes_of d n) form =
          filter_in (is_of_change n) (fixes_on d) form (filter_in is_on (filter_map (spec d FixForm) (keys_of (spec_name FixForm) d)) form
          (filter_map_in (spec d FixForm) (keys_of (spec_name FixForm) d) name form (key_in (spec_said FixForm name) (spec_name FixForm) name form (spec_names FixForm name form) d e) e) on) of in
          let some = in_some (fixes_of d n) form there in
          absurd (let clash : true ≡ false = sym some ∙ none in cc)

  no_shelf : (n : ℕ) → is_shelved d n ≡ false → HasNoShelf d n
  no_shelf n none name = go (spec d ShelfForm name) refl
    where
      go : (o : Option FormValue) → spec d ShelfForm name ≡ o → IfSome o (λ form. IsTrue (is_kept form) → number_of_field form (codes "Change") ≢ n)
      go None e = tt
      go (Some form) e = λ on is.
          let value : value_in ShelfShape (codes "Change") (printed_form form) ≡ value_of form (codes "Change") = spec_value d sound ShelfForm name form e (codes "Change") in
          let numeral : is_numeral (value_of form (codes "Change")) ≡ true = ap is_numeral (sym value) ∙ (and_parts _ _ ((saved_shelf d sound name form e).change)).0 in
          let text : value_of form (codes "Change") ≡ decimal n = numeral_is (value_of form (codes "Change")) numeral ∙ ap decimal is in
          let of : is_of_change n form ≡ true = ap (λ (w : List ℕ). same w (decimal n)) text ∙ same-self (decimal n) in
          absurd (let clash : true ≡ false = sym (shelf_there d sound n name form e on of) ∙ none in cc)

  -- ---- change -d

  module _ (caller : Caller) (n : ℕ) (unshelved : is_shelved d n ≡ false) (unfixed : is_fixing d n ≡ false) where
    -- the change is the caller's, where it is pending
    its_client : (p : Option Pending) (q : Pending) → p ≡ Some q → not (option_map_or (is_of caller) p true) ≡ false → q.client ≡ caller.client
    its_client None q e h = absurd cc
    its_client (Some p) q e h =
        let one : p ≡ q = cc in
        ap (λ (x : Pending). x.client) (sym one)
        ∙ same-is p.client caller.client (and_parts (same p.user caller.user) (same p.client caller.client) (not_false (is_of caller p) h)).1

    unopened : not (option_map_or (is_of caller) (pending d n) true) ≡ false → nat_lt 0 (length (openings_of d caller n)) ≡ false → HasNoOpening d n
    unopened own empty client path = go (opened d client path) refl
      where
        by_change : (o : Opening) → opened d client path ≡ Some o → o.change ≡ n → IsOpenChange d o.client n → o.client ≡ client → n ≡ 0
        by_change o e is (inl zero_is) same_client = zero_is
        by_change o e is (inr some) same_client = absurd (at (pending d n) refl some)
          where
            at : (p : Option Pending) → pending d n ≡ p → IsSomeAnd p (λ x. x.client ≡ o.client) → ⊥
            at None f h = h
            at (Some q) f h =
                let mine : client ≡ caller.client = sym same_client ∙ sym h ∙ its_client (pending d n) q f own in
                let there : In (openings_of d caller n) o = in_openings d caller n path o (ap (λ (c : List ℕ). opened d c path) (sym mine) ∙ e) is in
                let some_opened = in_some (openings_of d caller n) o there in
                absurd (let clash : true ≡ false = sym some_opened ∙ empty in cc)

        go : (x : Option Opening) → opened d client path ≡ x → IfSome x (λ o. o.change ≡ n → n ≡ 0)
        go None e = tt
        go (Some o) e = λ is.
            let known : IsKnown d client path o = opened_known d sound client path o e in
            by_change o e is (subst (λ (m : ℕ). IsOpenChange d o.client m) is known.ties) known.client_is

    pub change_delete_sound : IsSound (after d (change_delete d caller n).deeds)
    change_delete_sound = unless_sound d sound (delete_refusals d caller n) _ (λ none.
        let own = or_parts _ _ (not_refused _ (NotYours n) none.1.0) in
        let free = or_parts (is_some (landing d n)) _ (not_refused _ (NotDeletable n) none.1.1.0) in
        one_sound d (Drop n) sound refl (none_of (landing d n) free.0, no_shelf n unshelved) (unopened own.0 free.1, no_fix n unfixed))

  -- ---- checkpoint

  pub checkpoint_sound : IsSound (after d (checkpoint d).deeds)
  checkpoint_sound = unless_sound d sound (refuse_if (nat_le 4095 (generation d)) (OverLimit Generation) ∷ []) _ (λ none.
      let below : nat_le 4095 (generation d) ≡ false = not_refused (nat_le 4095 (generation d)) (OverLimit Generation) none.0 in
      one_sound d (Count (codes "journal") (Some (generation d + 1))) sound refl (refl, λ journal. (omega arith, fits (generation d) below)) tt)
    where
      fits : (g : ℕ) → nat_le 4095 g ≡ false → g + 1 ≤ 4095
      fits g e = grind (arith, nat_tests)
