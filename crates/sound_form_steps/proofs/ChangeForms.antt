-- The step that saves a pending change.
use Rattle.std.proofs.Common.{◌≡◌, ◌≤◌, ◌<◌, ◌+◌, ◌⊎◌, ℕ, Bool, true, false, List, [], ◌∷◌, ◌++◌, length, Option, Some, None, Result, Ok, Err, inr, refl, sym, ap, subst, arith}
use Rattle.std.specs.Prelude.{◌==◌, not, codes, map, filter_map, nat_lt, IfSome, IsSome, IsSomeAnd, is_some, unwrap_or, option_map, option_and_then}
use Rattle.std.specs.Option.{option_or, option_flatten}
use Rattle.std.specs.List.{cons_option}
use Rattle.std.proofs.lemmas.Bool.Decides.{nat_tests}
use Rattle.std.proofs.lemmas.Bool.{and_parts}
use Rattle.depot_rows.specs.depot_path.Name.{is_name}
use Rattle.depot_rows.specs.spec_form.Form.{FormValue, lines_of}
use Rattle.depot_rows.specs.spec_form.Places.{field_place}
use Rattle.depot_rows.specs.spec_form.Reading.{form_of}
use Rattle.depot_rows.specs.spec_form.declared.fault.FormFault.{FormFault}
use Rattle.depot_rows.specs.spec_form.declared.shape.Shape.TheVariants.{Change as ChangeShape}
use Rattle.depot_rows.specs.depot_model.Deeds.{Deed, Open, Pend, Opening, Pending, Landing}
use Rattle.depot_rows.specs.depot_model.Latest.{latest, when}
use Rattle.depot_rows.specs.depot_model.Numbers.{pending, pending_said, landing, top}
use Rattle.depot_rows.specs.depot_model.Opened.{opened}
use Rattle.depot_rows.specs.depot_model.Rules.{IsSound}
use Rattle.depot_rows.specs.depot_model.Step.{Step, refuses, after, refuse_if}
use Rattle.depot_rows.specs.depot_model.Steps.Changing.{saved, moved_to, not_open, bad_lines, has_number, form_text, listed_paths, form_number, change_form, change_save}
use Rattle.depot_rows.specs.depot_model.Steps.Opening.{is_of, change_refusal}
use Rattle.depot_rows.specs.depot_model.declared.refusal.Refusal.{Refusal}
use Rattle.depot_rows.specs.depot_model.declared.refusal.Refusal.TheVariants.{BadForm, NoSuchChange, NotYours, OverLimit}
use Rattle.depot_rows.specs.depot_model.declared.refusal.Limit.TheVariants.{Text, Change, Files}
use Rattle.depot_rows.specs.depot_model.declared.request.Caller.{Caller}
use Rattle.depot_rows.specs.depot_model.declared.request.Request.{Request}
use Rattle.depot_rows.proofs.ChangeCounter.{change_of, top_value}
use Rattle.depot_rows.proofs.Keys.{same-is, number-self}
use Rattle.sound_deeds.specs.Keeping.{IsOpenChange}
use Rattle.sound_deeds.proofs.Whole.{one_sound}
use Rattle.sound_file_steps.proofs.Files.{change_ok}
use Rattle.sound_file_steps.proofs.Flat.{Meets, flat_sound}
use Rattle.sound_file_steps.proofs.Known.{IsKnown, opened_known}
use Rattle.depot_facts.proofs.Steps.{AllOf, NoneOf, not_refused, unless_sound}

pub none_back : (xs ys : List (Option Refusal)) → NoneOf (xs ++ ys) → NoneOf ys
none_back [] ys h = h
none_back (x ∷ xs) ys h = none_back xs ys h.1

pub none_front : (xs ys : List (Option Refusal)) → NoneOf (xs ++ ys) → NoneOf xs
none_front [] ys h = tt
none_front (x ∷ xs) ys h = (h.0, none_front xs ys h.1)

module _ (d : List Deed) (sound : IsSound d) where
  -- a number above all others has no change
  pub none_above : (n : ℕ) → top d < n → (pending d n ≡ None) × (landing d n ≡ None)
  none_above n above = go (pending d n) (landing d n) (λ some. let le = (sound.rules).top_is n some in let t = top_value d in absurd (omega (arith, le, t, above)))
    where
      go : (p : Option Pending) (l : Option Landing) → (is_some (change_of p l) ≡ true → ⊥) → (p ≡ None) × (l ≡ None)
      go None None h = (refl, refl)
      go (Some p) l h = absurd (h refl)
      go None (Some l) h = absurd (h refl)

  -- a pending change hasn't landed
  pub not_landed : (n : ℕ) → IsSome (pending d n) → landing d n ≡ None
  not_landed n some = go (landing d n) refl
    where
      go : (l : Option Landing) → landing d n ≡ l → l ≡ None
      go None e = refl
      go (Some l) e = absurd (sound.landed_or_pending n some (ap is_some e))

  module _ (request : Request) (user : is_name (request.caller).user ≡ true) (client : is_name (request.caller).client ≡ true) (form : FormValue) where
    abbrev caller : Caller
    caller = request.caller

    module _ (n : ℕ) (unlanded : landing d n ≡ None) (fits : n ≤ 2147483647) (own : IfSome (pending d n) (λ q. q.client ≡ caller.client)) where
      abbrev pend : Pending
      pend = record { change = n; user = caller.user; client = caller.client; moment = request.moment; text = form_text form }

      into : (c : List ℕ) → c ≡ caller.client → IsOpenChange (Pend pend ∷ d) c n
      into c is = inr (go (n == n) (number-self n))
        where
          go : (b : Bool) → b ≡ true → IsSomeAnd (option_flatten (option_or (when b (Some pend)) (latest (pending_said n) d))) (λ q. q.client ≡ c)
          go true e = sym is
          go false e = absurd cc

      moved_meets : (paths : List (List ℕ)) → AllOf (Meets (Pend pend ∷ d)) (filter_map (moved_to n d caller) paths)
      moved_meets [] = tt
      moved_meets (path ∷ paths) = go (opened d caller.client path) refl (moved_meets paths)
        where
          go : (x : Option Opening) → opened d caller.client path ≡ x → AllOf (Meets (Pend pend ∷ d)) (filter_map (moved_to n d caller) paths)
              → AllOf (Meets (Pend pend ∷ d)) (cons_option (option_map (λ (o : Opening). Open (record o { change = n })) x) (filter_map (moved_to n d caller) paths))
          go None e rest = rest
          go (Some o) e rest =
              let known : IsKnown d caller.client path o = opened_known d sound caller.client path o e in (
                record {
                  has = known.has;
                  plain = refl;
                  keeps = record {
                    client = (known.keeps).client;
                    base = (known.keeps).base;
                    file_type = (known.keeps).file_type;
                    source = (known.keeps).source;
                    moved = (known.keeps).moved;
                  };
                  ties = into o.client known.client_is;
                },
                rest,
              )

      saved_sound : IsSound (after d (saved d request form n).deeds)
      saved_sound = flat_sound (Pend pend ∷ d) (filter_map (moved_to n d caller) (listed_paths form))
          (one_sound d (Pend pend) sound refl (user, client, unlanded, fits) own) (moved_meets (listed_paths form))

    numbered : (number : Option ℕ) → option_and_then (change_refusal d caller) number ≡ None → nat_lt 2147483647 (unwrap_or number (top d + 1)) ≡ false
        → IsSound (after d (saved d request form (unwrap_or number (top d + 1))).deeds)
    numbered None none fits =
        let free = none_above (top d + 1) (omega arith) in
        saved_sound (top d + 1) free.1 (small (top d + 1) fits) (subst (λ (p : Option Pending). IfSome p (λ q. q.client ≡ caller.client)) (sym free.0) tt)
      where
        small : (n : ℕ) → nat_lt 2147483647 n ≡ false → n ≤ 2147483647
        small n e = grind (arith, nat_tests)
    numbered (Some n) none fits = go (change_ok d caller n none)
      where
        small : (m : ℕ) → nat_lt 2147483647 m ≡ false → m ≤ 2147483647
        small m e = grind (arith, nat_tests)

        owned : (p : Option Pending) → IsSomeAnd p (λ q. q.client ≡ caller.client) → (is_some p ≡ true) × IfSome p (λ q. q.client ≡ caller.client)
        owned None h = absurd h
        owned (Some p) h = (refl, h)

        its : (p : Option Pending) → (elim p as (λ _. Option Refusal) [ None ↦ Some (NoSuchChange n) | Some q ↦ refuse_if (not (is_of caller q)) (NotYours n) ]) ≡ None → is_some p ≡ true
        its None e = absurd cc
        its (Some p) e = refl

        own_of : (p : Option Pending) → (n ≡ 0) ⊎ IsSomeAnd p (λ q. q.client ≡ caller.client)
            → (elim p as (λ _. Option Refusal) [ None ↦ Some (NoSuchChange n) | Some q ↦ refuse_if (not (is_of caller q)) (NotYours n) ]) ≡ None
            → IfSome p (λ q. q.client ≡ caller.client)
        own_of None h e = tt
        own_of (Some p) h e = same-is p.client caller.client (and_parts _ _ (yes (is_of caller p) (not_refused (not (is_of caller p)) (NotYours n) e))).1
          where
            yes : (b : Bool) → not b ≡ false → b ≡ true
            yes true f = refl
            yes false f = absurd cc

        go : IsOpenChange d caller.client n → IsSound (after d (saved d request form n).deeds)
        go ok = saved_sound n (not_landed n (its (pending d n) none)) (small n fits) (own_of (pending d n) ok none)

    abbrev number : ℕ
    number = unwrap_or (form_number form) (top d + 1)

    abbrev last_tests : List (Option Refusal)
    last_tests =
        refuse_if (nat_lt 65536 (length (form_text form))) (OverLimit Text)
        ∷ refuse_if (nat_lt 2147483647 number) (OverLimit Change)
        ∷ refuse_if (nat_lt 10000 (length (listed_paths form))) (OverLimit Files)
        ∷ []

    abbrev middle_tests : List (Option Refusal)
    middle_tests = option_and_then (change_refusal d request.caller) (form_number form) ∷ map (not_open d request.caller) (listed_paths form)

    abbrev first_tests : List ℕ → List (Option Refusal)
    first_tests input = refuse_if (not (has_number form)) (BadForm (field_place input (codes "Change"))) ∷ bad_lines input 0 (lines_of form (codes "Files"))

    pub form_sound : (input : List ℕ) → IsSound (after d (change_form d request input form).deeds)
    form_sound input =
        unless_sound d sound ((first_tests input ++ middle_tests) ++ last_tests) (saved d request form number) (λ none.
        let at_last : NoneOf last_tests = none_back (first_tests input ++ middle_tests) last_tests none in
        let middle : NoneOf middle_tests = none_back (first_tests input) middle_tests (none_front (first_tests input ++ middle_tests) last_tests none) in
        numbered (form_number form) middle.0 (not_refused (nat_lt 2147483647 number) (OverLimit Change) at_last.1.0))

  pub change_save_sound : (request : Request) → is_name (request.caller).user ≡ true → is_name (request.caller).client ≡ true → (input : List ℕ)
      → IsSound (after d (change_save d request input).deeds)
  change_save_sound request user client input = go (form_of ChangeShape input)
    where
      go : (r : Result FormValue FormFault)
          → IsSound (after d (elim r as (λ _. Step) [ Err fault ↦ refuses (BadForm fault.line) | Ok form ↦ change_form d request input form ]).deeds)
      go (Err fault) = sound
      go (Ok form) = form_sound request user client form input
