-- A deed changes no row of a table that isn't one of its own, and deeds that stay in some tables change no row of another.
use Rattle.std.proofs.Common.{◌≡◌, ℕ, Bool, true, false, List, [], ◌∷◌, refl, sym, ap, ◌∙◌}
use Rattle.std.specs.Prelude.{◌==◌, ◌||◌, option_and_then}
use Rattle.std.specs.List.{list_all, list_any}
use Rattle.std.proofs.lemmas.Bool.{eqb-true, and_parts}
use Rattle.depot_model.specs.db_records.declared.table.TableId.{TableId}
use Rattle.depot_model.specs.db_records.declared.table.TableId.TheVariants.{Rev}
use Rattle.depot_model.specs.db_records.Key.{key_table}
use Rattle.depot_model.specs.db_records.Table.{table_number}
use Rattle.depot_model.specs.db_records.declared.key.Key.{Key}
use Rattle.depot_model.specs.db_records.declared.key.Key.TheVariants as keys
use Rattle.depot_model.specs.Deeds.{Deed, Spec, Guard, Group, Count, Pend, Drop, Open, Shut, Hold, Free, Got, Tag, Owe, Paid, Land}
use Rattle.depot_model.specs.Numbers.{landings}
use Rattle.depot_model.specs.Records.{record_of}
use Rattle.depot_model.specs.Revisions.{Revision, revisions, revision_in}
use Rattle.depot_model.specs.Step.{after}
use Rattle.depot_model.specs.Steps.Submitting.{content_at}
use Rattle.depot_model.specs.Tables.{is_in}
use Rattle.step_tables.specs.DeedTables.{deed_tables, stays_in}

-- ---- one deed

abbrev Elsewhere : Deed → Key → Type 0
Elsewhere deed key = is_in (deed_tables deed) (key_table key) ≡ false

module _ (d : List Deed) where
  abbrev Stays : Deed → Key → Type 0
  Stays deed key = record_of (deed ∷ d) key ≡ record_of d key

  counted : (name : _) (value : _) (key : Key) → Elsewhere (Count name value) key → Stays (Count name value) key
  counted name value (keys.Counter other) away = absurd cc
  counted name value _ away = refl

  grouped : (name : _) (users : _) (key : Key) → Elsewhere (Group name users) key → Stays (Group name users) key
  grouped name users (keys.Group group user) away = absurd cc
  grouped name users _ away = refl

  guarded : (lines : _) (key : Key) → Elsewhere (Guard lines) key → Stays (Guard lines) key
  guarded lines (keys.Protect n) away = absurd cc
  guarded lines _ away = refl

  saved : (kind : _) (name : _) (form : _) (key : Key) → Elsewhere (Spec kind name form) key → Stays (Spec kind name form) key
  saved kind name form (keys.Domain word other) away = absurd cc
  saved kind name form _ away = refl

  got : (held : _) (rev : _) (key : Key) → Elsewhere (Got held rev) key → Stays (Got held rev) key
  got held rev (keys.Have client path) away = absurd cc
  got held rev _ away = refl

  tagged : (label : _) (path : _) (rev : _) (key : Key) → Elsewhere (Tag label path rev) key → Stays (Tag label path rev) key
  tagged label path rev (keys.Label other text) away = absurd cc
  tagged label path rev _ away = refl

  owed : (o : _) (key : Key) → Elsewhere (Owe o) key → Stays (Owe o) key
  owed o (keys.Resolve client path from) away = absurd cc
  owed o _ away = refl

  paid : (held : _) (from : _) (how : _) (key : Key) → Elsewhere (Paid held from how) key → Stays (Paid held from how) key
  paid held from how (keys.Resolve client path other) away = absurd cc
  paid held from how _ away = refl

  shut : (held : _) (key : Key) → Elsewhere (Shut held) key → Stays (Shut held) key
  shut held (keys.Resolve client path from) away = absurd cc
  shut held (keys.Working path client) away = absurd cc
  shut held _ away = refl

  opened : (o : _) (key : Key) → Elsewhere (Open o) key → Stays (Open o) key
  opened o (keys.Working path client) away = absurd cc
  opened o _ away = refl

  locked : (held : _) (key : Key) → Elsewhere (Hold held) key → Stays (Hold held) key
  locked held (keys.Working path client) away = absurd cc
  locked held _ away = refl

  freed : (held : _) (key : Key) → Elsewhere (Free held) key → Stays (Free held) key
  freed held (keys.Working path client) away = absurd cc
  freed held _ away = refl

  pended : (p : _) (key : Key) → Elsewhere (Pend p) key → Stays (Pend p) key
  pended p (keys.Counter name) away = absurd cc
  pended p (keys.Change n) away = absurd cc
  pended p _ away = refl

  dropped : (n : _) (key : Key) → Elsewhere (Drop n) key → Stays (Drop n) key
  dropped n (keys.Change m) away = absurd cc
  dropped n _ away = refl

  landed : (l : _) (key : Key) → Elsewhere (Land l) key → Stays (Land l) key
  landed l (keys.Counter name) away = absurd cc
  landed l (keys.Integed to from a b x y how change) away = absurd cc
  landed l (keys.Change n) away = absurd cc
  landed l (keys.Rev path n) away = absurd cc
  landed l _ away = refl

pub deed_stays : (d : List Deed) (deed : Deed) (key : Key) → is_in (deed_tables deed) (key_table key) ≡ false
    → record_of (deed ∷ d) key ≡ record_of d key
deed_stays d (Count name value) = counted d name value
deed_stays d (Group name users) = grouped d name users
deed_stays d (Guard lines) = guarded d lines
deed_stays d (Spec kind name form) = saved d kind name form
deed_stays d (Got held rev) = got d held rev
deed_stays d (Tag label path rev) = tagged d label path rev
deed_stays d (Owe o) = owed d o
deed_stays d (Paid held from how) = paid d held from how
deed_stays d (Shut held) = shut d held
deed_stays d (Open o) = opened d o
deed_stays d (Hold held) = locked d held
deed_stays d (Free held) = freed d held
deed_stays d (Pend p) = pended d p
deed_stays d (Drop n) = dropped d n
deed_stays d (Land l) = landed d l

-- ---- deeds that stay in some tables

-- a table that isn't among some isn't among those of a deed that stays in them
not_among : (tables : List TableId) (table : TableId) → is_in tables table ≡ false → (own : List TableId) → list_all (is_in tables) own ≡ true → is_in own table ≡ false
not_among tables table away [] e = refl
not_among tables table away (other ∷ own) e = go (table_number other == table_number table) refl (not_among tables table away own (and_parts (is_in tables other) (list_all (is_in tables) own) e).1)
  where
    go : (b : Bool) → (table_number other == table_number table) ≡ b → is_in own table ≡ false → (b || is_in own table) ≡ false
    go false is later = later
    go true is later =
        let there : is_in tables other ≡ true = (and_parts (is_in tables other) (list_all (is_in tables) own) e).0 in
        let same : is_in tables other ≡ is_in tables table =
        ap (λ n. list_any (λ (t : TableId). table_number t == n) tables) (eqb-true (table_number other) (table_number table) is) in
        absurd (let both : true ≡ false = sym there ∙ (same ∙ away) in cc)

pub rows_stay : (tables : List TableId) (key : Key) → is_in tables (key_table key) ≡ false → (d deeds : List Deed)
    → list_all (stays_in tables) deeds ≡ true → record_of (after d deeds) key ≡ record_of d key
rows_stay tables key away d [] e = refl
rows_stay tables key away d (deed ∷ deeds) e =
    rows_stay tables key away (deed ∷ d) deeds (and_parts (stays_in tables deed) (list_all (stays_in tables) deeds) e).1
    ∙ deed_stays d deed key (not_among tables (key_table key) away (deed_tables deed) (and_parts (stays_in tables deed) (list_all (stays_in tables) deeds) e).0)

-- ---- deeds that stay out of the table of revisions

module _ (tables : List TableId) (away : is_in tables Rev ≡ false) where
  module _ {A : Type 0} (reading : List Deed → A)
      (same_but_landed : (d : List Deed) (deed : Deed) → is_in (deed_tables deed) Rev ≡ false → reading (deed ∷ d) ≡ reading d) where
    pub reading_stays : (d deeds : List Deed) → list_all (stays_in tables) deeds ≡ true → reading (after d deeds) ≡ reading d
    reading_stays d [] e = refl
    reading_stays d (deed ∷ deeds) e =
        reading_stays (deed ∷ d) deeds (and_parts (stays_in tables deed) (list_all (stays_in tables) deeds) e).1
        ∙ same_but_landed d deed (not_among tables Rev away (deed_tables deed) (and_parts (stays_in tables deed) (list_all (stays_in tables) deeds) e).0)

same_landings : (d : List Deed) (deed : Deed) → is_in (deed_tables deed) Rev ≡ false → landings (deed ∷ d) ≡ landings d
same_landings d (Land l) e = absurd cc
same_landings d _ e = refl

same_revisions : (path : List ℕ) (d : List Deed) (deed : Deed) → is_in (deed_tables deed) Rev ≡ false → revisions (deed ∷ d) path ≡ revisions d path
same_revisions path d (Land l) e = absurd cc
same_revisions path d _ e = refl

module _ (tables : List TableId) (away : is_in tables Rev ≡ false) (d deeds : List Deed) (all : list_all (stays_in tables) deeds ≡ true) where
  pub landings_stay : landings (after d deeds) ≡ landings d
  landings_stay = reading_stays tables away landings same_landings d deeds all

  pub revisions_stay : (path : List ℕ) → revisions (after d deeds) path ≡ revisions d path
  revisions_stay path = reading_stays tables away (λ e. revisions e path) (same_revisions path) d deeds all

  pub contents_stay : (path : List ℕ) (n : ℕ) → content_at (after d deeds) path n ≡ content_at d path n
  contents_stay path n = ap (λ (revs : List Revision). option_and_then (λ (r : Revision). r.entry.content) (revision_in revs n)) (revisions_stay path)
