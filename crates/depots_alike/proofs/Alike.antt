-- What two depots tell alike of single names, files and callers. Sound depots with the same rows and contents do, and deeds on opened files, owed
-- resolves and have lists leave it so.
use Rattle.std.proofs.Common.{◌≡◌, ℕ, Bool, true, false, List, [], ◌∷◌, map, Option, Some, None, refl}
use Rattle.std.specs.Prelude.{◌&&◌, unwrap_or}
use Rattle.std.specs.List.{list_all}
use Rattle.std.specs.Option.{option_or, option_flatten}
use Rattle.std.proofs.lemmas.Bool.{and_parts}
use Rattle.depot_rows.specs.depot_path.Bytes.{same}
use Rattle.depot_rows.specs.depot_model.declared.request.Caller.{Caller}
use Rattle.depot_rows.specs.depot_model.Asking.{may_at}
use Rattle.depot_rows.specs.db_records.declared.table.TableId.{TableId}
use Rattle.depot_rows.specs.db_records.declared.table.TableId.TheVariants as ids
use Rattle.depot_rows.specs.depot_model.Deeds.{Deed, Opening, SpecKind, Spec, Guard, Group, Count, Pend, Drop, Open, Shut, Hold, Free, Got, Tag, Owe, Paid, Land}
use Rattle.depot_rows.specs.depot_model.Latest.{have, have_said, labelled, latest, spec, when, is_held}
use Rattle.depot_rows.specs.depot_model.Opened.{opened, opening_said}
use Rattle.depot_rows.specs.depot_model.Revisions.{revisions, credited}
use Rattle.depot_rows.specs.depot_model.Step.{after}
use Rattle.row_reads.proofs.Rights.{same_at}
use Rattle.step_tables.specs.DeedTables.{stays_in}
use Rattle.depot_facts.specs.Contents.{seen}
use Rattle.depots_alike.proofs.Credits.{credited_same}
use Rattle.depots_alike.proofs.Revisions.{revisions_same}
use Rattle.depots_alike.proofs.Searches.{have_same, labelled_same, opened_same, spec_same}
use Rattle.depots_alike.proofs.Twins.{Twins}

pub record Alike (d e : List Deed) : Type 0 where
  pub openings : (client path : List ℕ) → opened d client path ≡ opened e client path
  pub haves : (client path : List ℕ) → have d client path ≡ have e client path
  pub labels : (label path : List ℕ) → labelled d label path ≡ labelled e label path
  pub forms : (kind : SpecKind) (name : List ℕ) → spec d kind name ≡ spec e kind name
  pub made : (path : List ℕ) → map seen (revisions d path) ≡ map seen (revisions e path)
  pub credits : (s t : List ℕ) (n : ℕ) → credited d s t n ≡ credited e s t n
  pub rights : (caller : Caller) (path : List ℕ) (need : ℕ) → may_at d caller path need ≡ may_at e caller path need

pub alike_of : (d e : List Deed) → Twins d e → Alike d e
alike_of d e twins = record {
  openings = opened_same d e twins;
  haves = have_same d e twins;
  labels = labelled_same d e twins;
  forms = spec_same d e twins;
  made = revisions_same d e twins;
  credits = credited_same d e twins;
  rights = λ caller. same_at d e caller twins.left twins.right twins.rows;
}

-- ---- after deeds on opened files, owed resolves and have lists

abbrev pub file_tables : List TableId
file_tables = ids.Have ∷ ids.Resolve ∷ ids.Working ∷ []

module _ (d e : List Deed) where
  said_opening : (b : Bool) (o : Option Opening) (client path : List ℕ) → opened d client path ≡ opened e client path
      → option_flatten (option_or (when b o) (latest (opening_said client path) d)) ≡ option_flatten (option_or (when b o) (latest (opening_said client path) e))
  said_opening true o client path h = refl
  said_opening false o client path h = h

  said_have : (b : Bool) (n : ℕ) (client path : List ℕ) → have d client path ≡ have e client path
      → unwrap_or (option_or (when b n) (latest (have_said client path) d)) 0 ≡ unwrap_or (option_or (when b n) (latest (have_said client path) e)) 0
  said_have true n client path h = refl
  said_have false n client path h = h

grown : (d e : List Deed) (deed : Deed) → stays_in file_tables deed ≡ true → Alike d e → Alike (deed ∷ d) (deed ∷ e)
grown d e (Open o) in_files alike = record {
  openings = λ client path. said_opening d e (same o.client client && same o.path path) (Some o) client path (alike.openings client path);
  haves = alike.haves;
  labels = alike.labels;
  forms = alike.forms;
  made = alike.made;
  credits = alike.credits;
  rights = alike.rights;
}
grown d e (Shut held) in_files alike = record {
  openings = λ client path. said_opening d e (is_held client path held) None client path (alike.openings client path);
  haves = alike.haves;
  labels = alike.labels;
  forms = alike.forms;
  made = alike.made;
  credits = alike.credits;
  rights = alike.rights;
}
grown d e (Got held rev) in_files alike = record {
  openings = alike.openings;
  haves = λ client path. said_have d e (is_held client path held) rev client path (alike.haves client path);
  labels = alike.labels;
  forms = alike.forms;
  made = alike.made;
  credits = alike.credits;
  rights = alike.rights;
}
grown d e (Hold held) in_files alike = record {
  openings = alike.openings;
  haves = alike.haves;
  labels = alike.labels;
  forms = alike.forms;
  made = alike.made;
  credits = alike.credits;
  rights = alike.rights;
}
grown d e (Free held) in_files alike = record {
  openings = alike.openings;
  haves = alike.haves;
  labels = alike.labels;
  forms = alike.forms;
  made = alike.made;
  credits = alike.credits;
  rights = alike.rights;
}
grown d e (Owe o) in_files alike = record {
  openings = alike.openings;
  haves = alike.haves;
  labels = alike.labels;
  forms = alike.forms;
  made = alike.made;
  credits = alike.credits;
  rights = alike.rights;
}
grown d e (Paid held from how) in_files alike = record {
  openings = alike.openings;
  haves = alike.haves;
  labels = alike.labels;
  forms = alike.forms;
  made = alike.made;
  credits = alike.credits;
  rights = alike.rights;
}
grown d e (Tag label path rev) in_files alike = absurd cc
grown d e (Spec kind name form) in_files alike = absurd cc
grown d e (Guard lines) in_files alike = absurd cc
grown d e (Group name users) in_files alike = absurd cc
grown d e (Count name value) in_files alike = absurd cc
grown d e (Pend p) in_files alike = absurd cc
grown d e (Drop n) in_files alike = absurd cc
grown d e (Land l) in_files alike = absurd cc

pub all_grown : (d e deeds : List Deed) → list_all (stays_in file_tables) deeds ≡ true → Alike d e → Alike (after d deeds) (after e deeds)
all_grown d e [] in_files alike = alike
all_grown d e (deed ∷ deeds) in_files alike =
    all_grown (deed ∷ d) (deed ∷ e) deeds (and_parts (stays_in file_tables deed) (list_all (stays_in file_tables) deeds) in_files).1
    (grown d e deed (and_parts (stays_in file_tables deed) (list_all (stays_in file_tables) deeds) in_files).0 alike)
