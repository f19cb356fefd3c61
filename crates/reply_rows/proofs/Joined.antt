-- Steps one after another, and steps of rows alone.
use Rattle.std.proofs.Common.{◌≡◌, ℕ, List, [], ◌∷◌, ◌++◌, Option, Some, None, refl, sym, ap, subst, ◌∙◌, append_assoc, append-nil}
use Rattle.std.specs.Prelude.{map, option_map}
use Rattle.std.specs.Option.{option_to_list}
use Rattle.depot_rows.specs.table_changes.Changed.{AllRows}
use Rattle.depot_rows.specs.depot_model.declared.reply.Row.{Row}
use Rattle.depot_rows.specs.depot_model.declared.refusal.Refusal.{Refusal}
use Rattle.depot_rows.specs.depot_model.Deeds.{Deed}
use Rattle.depot_rows.specs.depot_model.Refusals.{refusal_row}
use Rattle.depot_rows.specs.depot_model.Step.{Step as ModelStep, after, both, does, nothing, refuses, tells, unless}
use Rattle.depot_rows.specs.Effects.{Follow}
use Rattle.depot_rows.specs.declared.deed.Deed.{Deed as Done}
use Rattle.reply_rows.specs.declared.content.RowContent.{RowContent}
use Rattle.reply_rows.specs.declared.step.Step.{Step}
use Rattle.reply_rows.specs.Made.{IsMade, ComeFrom, contents_of, does as done, told, waiting}
use Rattle.reply_rows.proofs.Bare.{made_of, refuses_made}

-- ---- deeds and rows one after another

pub follow_on : (d : List Deed) (dones more : List Done) (deeds others : List Deed) → Follow d dones deeds → Follow (after d deeds) more others
    → Follow d (dones ++ more) (deeds ++ others)
follow_on d [] more [] others p q = q
follow_on d [] more (x ∷ deeds) others p q = absurd p
follow_on d (a ∷ dones) more [] others p q = absurd p
follow_on d (a ∷ dones) more (x ∷ deeds) others p q = (p.0, p.1, follow_on (x ∷ d) dones more deeds others p.2 q)

pub after_on : (d : List Deed) (deeds others : List Deed) → after d (deeds ++ others) ≡ after (after d deeds) others
after_on d [] others = refl
after_on d (x ∷ deeds) others = after_on (x ∷ d) deeds others

pub waiting_on : (rows more : List Row) → map waiting (rows ++ more) ≡ map waiting rows ++ map waiting more
waiting_on [] more = refl
waiting_on (row ∷ rows) more = ap (λ (x : List Row). waiting row ∷ x) (waiting_on rows more)

pub contents_on : (rows more : List Row) → contents_of (rows ++ more) ≡ contents_of rows ++ contents_of more
contents_on [] more = refl
contents_on (row ∷ rows) more =
    ap (λ (x : List (List ℕ)). option_to_list row.content ++ x) (contents_on rows more)
    ∙ sym (append_assoc (option_to_list row.content) (contents_of rows) (contents_of more))

pub come_on : (all : AllRows) (d : List Deed) (contents others : List (List ℕ)) (places more : List RowContent) → ComeFrom all d contents places → ComeFrom all d others more
    → ComeFrom all d (contents ++ others) (places ++ more)
come_on all d [] others [] more p q = q
come_on all d [] others (place ∷ places) more p q = absurd p
come_on all d (content ∷ contents) others [] more p q = absurd p
come_on all d (content ∷ contents) others (place ∷ places) more p q = (p.0, come_on all d contents others places more p.1 q)

-- ---- steps one after another

pub both_nothing : (m : ModelStep) → both m nothing ≡ m
both_nothing m = λ i. record { deeds = append-nil m.deeds i; rows = append-nil m.rows i }

pub both_assoc : (a b c : ModelStep) → both (both a b) c ≡ both a (both b c)
both_assoc a b c = λ i. record { deeds = append_assoc a.deeds b.deeds c.deeds i; rows = append_assoc a.rows b.rows c.rows i }

-- one step and then another
abbrev pub then_on : Step → Step → Step
then_on step more =
    record { deeds = step.deeds ++ more.deeds; rows = step.rows ++ more.rows; stores = step.stores ++ more.stores; reads = step.reads ++ more.reads }

pub made_on : (all : AllRows) (d e : List Deed) (m more : ModelStep) (step other : Step) → IsMade all d e m step → IsMade all d (after e m.deeds) more other
    → IsMade all d e (both m more) (then_on step other)
made_on all d e m more step other was is = record {
  deeds = follow_on e step.deeds other.deeds m.deeds more.deeds was.deeds is.deeds;
  rows = (λ i. was.rows i ++ is.rows i) ∙ sym (waiting_on m.rows more.rows);
  stores = (λ i. was.stores i ++ is.stores i);
  reads =
      subst (λ (x : List (List ℕ)). ComeFrom all d x (step.reads ++ other.reads)) (sym (contents_on m.rows more.rows))
      (come_on all d (contents_of m.rows) (contents_of more.rows) step.reads other.reads was.reads is.reads);
}

-- ---- rows alone

-- deeds, and a row without a content
pub made_done : (all : AllRows) (d e : List Deed) (dones : List Done) (deeds : List Deed) (row is : Row) (step : Step) → Follow e dones deeds → row ≡ is → is.content ≡ None
    → step ≡ done dones row → IsMade all d e (does deeds is) step
made_done all d e dones deeds row is step follows same none made =
    subst (λ (x : Step). IsMade all d e (does deeds is) x) (sym (made ∙ ap (done dones) same))
    (made_of all d e (does deeds is) (done dones is) (none, tt) follows refl refl refl)

-- a row alone
pub made_row : (all : AllRows) (d e : List Deed) (row is : Row) (step : Step) → row ≡ is → is.content ≡ None → step ≡ told (row ∷ []) → IsMade all d e (tells (is ∷ [])) step
made_row all d e row is step same none made = made_done all d e [] [] row is step tt same none made

-- a refusal
pub made_refusal : (all : AllRows) (d e : List Deed) (why : Refusal) (row : Row) (step : Step) → row ≡ refusal_row why → step ≡ told (row ∷ []) → IsMade all d e (refuses why) step
made_refusal all d e why row step same made =
    subst (λ (x : Step). IsMade all d e (refuses why) x) (sym (made ∙ ap (λ (r : Row). told (r ∷ [])) same)) (refuses_made all d e why)

-- a step that may be refused: it is, and it isn't
pub refused : (all : AllRows) (d e : List Deed) (test : Option Refusal) (model : ModelStep) (row : Row) (step : Step) → Some row ≡ option_map refusal_row test
    → step ≡ told (row ∷ []) → IsMade all d e (unless (test ∷ []) model) step
refused all d e None model row step is made = absurd cc
refused all d e (Some why) model row step is made = let one : row ≡ refusal_row why = cc in made_refusal all d e why row step one made

pub passed : (all : AllRows) (d e : List Deed) (test : Option Refusal) (model : ModelStep) (step : Step) → None ≡ option_map refusal_row test → IsMade all d e model step
    → IsMade all d e (unless (test ∷ []) model) step
passed all d e None model step is made = made
passed all d e (Some why) model step is made = absurd cc
