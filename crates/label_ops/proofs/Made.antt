-- The form of a label alone, and the steps that make a label and tag files.
use Rattle.std.proofs.Common.{◌≡◌, ◌⊎◌, ℕ, Bool, true, false, List, [], ◌∷◌, ◌++◌, Result, Ok, Err, inl, inr, refl, sym, ap, subst, ◌∙◌, append-nil}
use Rattle.std.specs.Prelude.{codes, if◌then◌else◌}
use Rattle.depot_rows.specs.depot_path.Answers.{Answers}
use Rattle.depot_rows.specs.depot_path.Name.{is_name}
use Rattle.depot_rows.specs.spec_form.Form.{FormValue}
use Rattle.depot_rows.specs.spec_form.Printing.{printed_form}
use Rattle.depot_rows.specs.spec_form.Reading.{form_of, no_memory}
use Rattle.depot_rows.specs.spec_form.Shapes.{fields_of}
use Rattle.depot_rows.specs.spec_form.declared.fault.FormFault.{FormFault}
use Rattle.depot_rows.specs.spec_form.declared.shape.Shape.TheVariants.{Label}
use Rattle.depot_rows.specs.table_changes.Changed.{AllRows}
use Rattle.depot_rows.specs.depot_model.Asking.{is_label}
use Rattle.depot_rows.specs.depot_model.Deeds.{Deed, Spec, LabelForm}
use Rattle.depot_rows.specs.depot_model.Step.{Step as ModelStep, after, both}
use Rattle.depot_rows.specs.depot_model.Steps.Tagging.{made_label}
use Rattle.depot_rows.specs.depot_model.Values.{valued}
use Rattle.reply_rows.specs.Made.{IsMade, told}
use Rattle.reply_rows.specs.declared.step.Step.{Step}
use Rattle.reply_rows.proofs.Bare.{made_of, tells_made}
use Rattle.reply_rows.proofs.Joined.{made_on, then_on}
use Rattle.depot_facts.proofs.Spelled.{label_spelled}
use Rattle.depot_facts.proofs.Steps.{AllOf}
use Rattle.label_ops.specs.Tagged.{saved_label}
use Rattle.label_ops.proofs.Following.{IsTag, tags_follow}

abbrev pub label_form : List ℕ → FormValue
label_form label = record { shape = Label; fields = valued (codes "Label") label ∷ [] }

text_is : (label : List ℕ) → is_name label ≡ true → codes "Label:\t" ++ label ++ codes "\n\n" ≡ printed_form (label_form label)
unfolding fields_of
text_is [] is = absurd cc
text_is (b ∷ label) is =
    (λ i. codes "Label:\t" ++ sym (append-nil (b ∷ label)) i ++ codes "\n\n")
    ∙ sym (append-nil (codes "Label:\t" ++ ((b ∷ label) ++ []) ++ codes "\n\n"))

abbrev ok_form : FormValue → Result FormValue FormFault
ok_form form = Ok form

pub form_read : (label text : List ℕ) (form : FormValue) → is_name label ≡ true → text ≡ codes "Label:\t" ++ label ++ codes "\n\n"
    → Answers no_memory (Ok form) (form_of Label text) → form ≡ label_form label
form_read label text form is spells answers =
    let reads : form_of Label text ≡ Ok (label_form label) = ap (form_of Label) (spells ∙ text_is label is) ∙ (label_spelled label is).1 in
    go answers.is reads
  where
    one : (a b : FormValue) → ok_form a ≡ ok_form b → a ≡ b
    one a b e = cc

    go : (Ok form ≡ Err no_memory) ⊎ (Ok form ≡ form_of Label text) → form_of Label text ≡ Ok (label_form label) → form ≡ label_form label
    go (inl e) reads = absurd cc
    go (inr e) reads = one form (label_form label) (e ∙ reads)

-- ---- the step that makes a label

module _ (all : AllRows) (d e : List Deed) (label : List ℕ) (step : Step) where
  abbrev making : Bool → ModelStep
  making there = record { deeds = if there then [] else Spec LabelForm label (label_form label) ∷ []; rows = [] }

  pub is_there : (there : Bool) → there ≡ true → there ≡ is_label d label → step ≡ told [] → IsMade all d e (record { deeds = made_label d label; rows = [] }) step
  is_there there on is none =
      subst (λ (b : Bool). IsMade all d e (making b) step) (sym on ∙ is)
      (subst (λ (s : Step). IsMade all d e (making true) s) (sym none) (tells_made all d e [] tt))

  pub is_made : (there : Bool) → there ≡ false → there ≡ is_label d label → step ≡ saved_label label → IsMade all d e (record { deeds = made_label d label; rows = [] }) step
  is_made there off is makes =
      subst (λ (b : Bool). IsMade all d e (making b) step) (sym off ∙ is)
      (subst (λ (s : Step). IsMade all d e (making false) s) (sym makes) (made_of all d e (making false) (saved_label label) tt (refl, tt, tt) refl refl refl))

-- ---- files after the label

pub tagged_on : (all : AllRows) (d : List Deed) (makes tags : ModelStep) (made more joined : Step) → AllOf IsTag tags.deeds → IsMade all d d makes made → IsMade all d d tags more
    → joined.deeds ≡ made.deeds ++ more.deeds → joined.rows ≡ made.rows ++ more.rows → joined.stores ≡ made.stores ++ more.stores → joined.reads ≡ made.reads ++ more.reads
    → IsMade all d d (both makes tags) joined
tagged_on all d makes tags made more joined are first files deeds rows stores reads =
    let is : joined ≡ then_on made more = λ i. record { deeds = deeds i; rows = rows i; stores = stores i; reads = reads i } in
    let later : IsMade all d (after d makes.deeds) tags more = record {
      deeds = tags_follow d (after d makes.deeds) more.deeds tags.deeds are files.deeds;
      rows = files.rows;
      stores = files.stores;
      reads = files.reads;
    } in
    subst (λ (x : Step). IsMade all d d (both makes tags) x) (sym is) (made_on all d d makes tags made more first later)
