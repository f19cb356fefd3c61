-- What the deeds of a sound depot keep that its rows don't say.
use Rattle.std.proofs.Common.{◌≡◌, ℕ, Bool, true, List, [], ◌∷◌, Option, refl}
use Rattle.std.specs.Prelude.{IsTrue, IfSome, is_ok}
use Rattle.std.specs.List.{list_all}
use Rattle.std.proofs.lemmas.Bool.{and_from}
use Rattle.depot_rows.specs.depot_path.Path.{is_path}
use Rattle.depot_rows.specs.protect_table.Line.{table_of as protects_of}
use Rattle.depot_rows.specs.db_records.declared.key.Key.{Key}
use Rattle.depot_rows.specs.depot_model.Deeds.{Deed, SpecKind, Count, Group, Got, Tag, Owe, Paid, Open, Hold, Owing, Held, How, Opening}
use Rattle.depot_rows.specs.depot_model.Latest.{guard_lines, spec}
use Rattle.depot_rows.specs.depot_model.Numbers.{landings}
use Rattle.depot_rows.specs.depot_model.Records.{record_of}
use Rattle.depot_rows.specs.depot_model.Rules.{Rows, KeepRules, IsSound, LandAlike, NotBoth, stay_landed, IsSpelled, has_paths, have_their_contents}
use Rattle.depots_of_rows.specs.Telling.{Contents, HasTheseContents}
use Rattle.depots_of_rows.proofs.Given.{only}

pub record Side (contents : Contents) (d : List Deed) : Type 0 where
  pub agree : LandAlike d
  pub apart : NotBoth d
  pub stay : IsTrue (stay_landed d)
  pub lines : IsTrue (is_ok (protects_of (guard_lines d)))
  pub forms : (kind : SpecKind) (name : List ℕ) → IfSome (spec d kind name) (IsSpelled kind)
  pub paths : IsTrue (list_all has_paths d)
  pub whole : IsTrue (list_all have_their_contents (landings d))
  pub these : HasTheseContents contents d

-- a depot that has the rows whose keys pass a test, and no others
pub record Built (rows : Rows) (contents : Contents) (test : Key → Bool) (d : List Deed) : Type 0 where
  pub rows_are : (q : Key) → record_of d q ≡ only test rows q
  pub side : Side contents d

pub sound_by : (contents : Contents) (d : List Deed) → Side contents d → KeepRules (record_of d) → IsSound d
sound_by contents d side keep = record {
  rules = keep;
  landings_agree = side.agree;
  landed_or_pending = side.apart;
  landed_stay = side.stay;
  lines_read = side.lines;
  forms_read = side.forms;
  paths = side.paths;
  contents = side.whole;
}

pub one_path : (path : List ℕ) → is_path path ≡ true → list_all is_path (path ∷ []) ≡ true
one_path path is = and_from (is_path path) true is refl

pub two_paths : (path other : List ℕ) → is_path path ≡ true → is_path other ≡ true → list_all is_path (path ∷ other ∷ []) ≡ true
two_paths path other is there = and_from (is_path path) (list_all is_path (other ∷ [])) is (one_path other there)

-- ---- deeds that speak of nothing of it but of paths

module _ (contents : Contents) (d : List Deed) (s : Side contents d) where
  pub side_count : (name : List ℕ) (value : Option ℕ) → Side contents (Count name value ∷ d)
  side_count name value = record { agree = s.agree; apart = s.apart; stay = s.stay; lines = s.lines; forms = s.forms; paths = s.paths; whole = s.whole; these = s.these }

  pub side_group : (group : List ℕ) (users : List (List ℕ)) → Side contents (Group group users ∷ d)
  side_group group users = record { agree = s.agree; apart = s.apart; stay = s.stay; lines = s.lines; forms = s.forms; paths = s.paths; whole = s.whole; these = s.these }

  pub side_got : (held : Held) (rev : ℕ) → has_paths (Got held rev) ≡ true → Side contents (Got held rev ∷ d)
  side_got held rev has = record {
    agree = s.agree;
    apart = s.apart;
    stay = s.stay;
    lines = s.lines;
    forms = s.forms;
    whole = s.whole;
    these = s.these;
    paths = and_from (has_paths (Got held rev)) (list_all has_paths d) has s.paths;
  }

  pub side_tag : (label path : List ℕ) (rev : ℕ) → has_paths (Tag label path rev) ≡ true → Side contents (Tag label path rev ∷ d)
  side_tag label path rev has = record {
    agree = s.agree;
    apart = s.apart;
    stay = s.stay;
    lines = s.lines;
    forms = s.forms;
    whole = s.whole;
    these = s.these;
    paths = and_from (has_paths (Tag label path rev)) (list_all has_paths d) has s.paths;
  }

  pub side_owe : (o : Owing) → has_paths (Owe o) ≡ true → Side contents (Owe o ∷ d)
  side_owe o has = record {
    agree = s.agree;
    apart = s.apart;
    stay = s.stay;
    lines = s.lines;
    forms = s.forms;
    whole = s.whole;
    these = s.these;
    paths = and_from (has_paths (Owe o)) (list_all has_paths d) has s.paths;
  }

  pub side_paid : (held : Held) (from : List ℕ) (how : How) → has_paths (Paid held from how) ≡ true → Side contents (Paid held from how ∷ d)
  side_paid held from how has = record {
    agree = s.agree;
    apart = s.apart;
    stay = s.stay;
    lines = s.lines;
    forms = s.forms;
    whole = s.whole;
    these = s.these;
    paths = and_from (has_paths (Paid held from how)) (list_all has_paths d) has s.paths;
  }

  pub side_open : (o : Opening) → has_paths (Open o) ≡ true → Side contents (Open o ∷ d)
  side_open o has = record {
    agree = s.agree;
    apart = s.apart;
    stay = s.stay;
    lines = s.lines;
    forms = s.forms;
    whole = s.whole;
    these = s.these;
    paths = and_from (has_paths (Open o)) (list_all has_paths d) has s.paths;
  }

  pub side_hold : (held : Held) → has_paths (Hold held) ≡ true → Side contents (Hold held ∷ d)
  side_hold held has = record {
    agree = s.agree;
    apart = s.apart;
    stay = s.stay;
    lines = s.lines;
    forms = s.forms;
    whole = s.whole;
    these = s.these;
    paths = and_from (has_paths (Hold held)) (list_all has_paths d) has s.paths;
  }
