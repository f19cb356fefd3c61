-- What texts of rows spell: paths, actions, how a resolve was paid, and forms.
use Rattle.std.proofs.Common.{◌≡◌, ◌⊎◌, ◌≤◌, ℕ, Bool, true, false, List, [], ◌∷◌, map, Option, Some, None, Result, Ok, Err, inl, inr, refl, sym, arith}
use Rattle.std.specs.Prelude.{◌||◌, ◌==◌, if◌then◌else◌, option_map}
use Rattle.std.specs.List.{list_all}
use Rattle.std.specs.Option.{option_map_or}
use Rattle.depot_rows.specs.depot_path.Bytes.{same}
use Rattle.depot_rows.specs.depot_path.Path.{path_fault, printed, is_path, unless, unescaped}
use Rattle.depot_rows.specs.depot_path.declared.fault.PathFault.{PathFault}
use Rattle.depot_rows.proofs.depot_path.Paths.{reads_path}
use Rattle.depot_rows.specs.spec_form.declared.fault.FormFault.{FormFault}
use Rattle.depot_rows.specs.spec_form.Form.{FormValue}
use Rattle.depot_rows.specs.spec_form.Printing.{printed_form}
use Rattle.depot_rows.specs.spec_form.Reading.{form_of}
use Rattle.depot_rows.specs.db_records.declared.record.Record.{Record}
use Rattle.depot_rows.specs.depot_model.Deeds.{SpecKind, ClientForm, LabelForm, ShelfForm, JobForm, FixForm}
use Rattle.depot_rows.specs.depot_model.Latest.{kind_word}
use Rattle.depot_rows.specs.depot_model.Records.{numbered_record, shape_of, printed_or_empty}
use Rattle.depot_rows.specs.depot_model.Rows.{action_word, how_word}
use Rattle.depot_rows.specs.depot_model.Rules.{Rows, IsPath, IsOneOf, IsForm, IsSpelled, IsMoved, IsSource, is_one_of, reads_as, action_words, hows, path_or_none}
use Rattle.depot_rows.specs.declared.deed.Action.{Action}
use Rattle.depot_rows.specs.declared.deed.Action.TheVariants.{Add, Edit, Delete, Branch, Integrate, MoveAdd, MoveDelete}
use Rattle.depot_rows.specs.declared.deed.How.{How}
use Rattle.depot_rows.specs.declared.deed.How.TheVariants.{CopyFrom, BranchFrom, DeleteFrom, Ignored, MovedFrom}
use Rattle.depot_rows.specs.declared.deed.Source.{Source}
use Rattle.depot_rows.specs.Deed.{action_of, how_of}
use Rattle.depot_rows.proofs.Keys.{same-is, number-is}
use Rattle.depot_facts.proofs.Spelled.{spelled_is}
use Rattle.depots_of_rows.proofs.Side.{one_path}

-- ---- paths

pub record Spells (text : List ℕ) : Type 0 where
  pub path : List ℕ
  pub is : is_path path ≡ true
  pub text_is : printed path ≡ text

pub path_in : (text : List ℕ) → IsPath text → Spells text
path_in text h = go (path_fault text) refl h
  where
    spelled : (x : List ℕ) → is_path x ≡ true → same (printed x) text ≡ true → Spells text
    spelled x is e = record { path = x; is = is; text_is = same-is (printed x) text e }

    go : (fault : Option PathFault) → path_fault text ≡ fault
        → (elim (unless fault (unescaped 0 text)) as (λ _. Bool) [ Err f ↦ false | Ok x ↦ same (printed x) text ]) ≡ true → Spells text
    go None e h = spelled (unescaped 0 text) (reads_path text e) h
    go (Some fault) e h = absurd cc

-- the path at the other end of a move, where there is one
pub record Moves (text : List ℕ) : Type 0 where
  pub moved : Option (List ℕ)
  pub text_is : printed_or_empty moved ≡ text
  pub paths : list_all is_path (path_or_none moved) ≡ true

pub moved_in : (action text : List ℕ) → IsMoved action text → Moves text
moved_in action text (inl h) =
    let s = path_in text h.1 in
    record { moved = Some s.path; text_is = s.text_is; paths = one_path s.path s.is }
moved_in action text (inr h) = record { moved = None; text_is = sym h.1; paths = refl }

pub record Takes (text : List ℕ) (rev : ℕ) : Type 0 where
  pub source : Option Source
  pub text_is : option_map_or (λ (s : Source). printed s.path) source [] ≡ text
  pub rev_is : option_map_or (λ (s : Source). s.rev) source 0 ≡ rev
  pub paths : list_all is_path (path_or_none (option_map (λ (s : Source). s.path) source)) ≡ true

pub source_in : (rows : Rows) (text : List ℕ) (rev : ℕ) → IsSource rows text rev → Takes text rev
source_in rows text rev (inl h) = record { source = None; text_is = sym h.0; rev_is = sym h.1; paths = refl }
source_in rows text rev (inr h) =
    let s = path_in text h.0 in
    record { source = Some (record { path = s.path; rev = rev }); text_is = s.text_is; rev_is = refl; paths = one_path s.path s.is }

-- ---- words

pub either_true : (a b : Bool) → (a || b) ≡ true → (a ≡ true) ⊎ (b ≡ true)
either_true true b e = inl refl
either_true false b e = inr e

-- one of some things has a word that is one of theirs
pub word_among : {A : Type 0} (word_of : A → List ℕ) (xs : List A) (word : List ℕ) → is_one_of (map word_of xs) word ≡ true → (x : A) × (word_of x ≡ word)
word_among word_of [] word e = absurd cc
word_among {A} word_of (y ∷ ys) word e = go (either_true (same word (word_of y)) (is_one_of (map word_of ys) word) e) (word_among word_of ys word)
  where
    go : (same word (word_of y) ≡ true) ⊎ (is_one_of (map word_of ys) word ≡ true) → (is_one_of (map word_of ys) word ≡ true → (x : A) × (word_of x ≡ word))
        → (x : A) × (word_of x ≡ word)
    go (inl h) later = (y, sym (same-is word (word_of y) h))
    go (inr h) later = later h

abbrev pub word_of_action : Action → List ℕ
word_of_action action = action_word (action_of action)

abbrev pub word_of_how : How → List ℕ
word_of_how how = how_word (how_of how)

pub action_in : (word : List ℕ) → IsOneOf action_words word → (x : Action) × (word_of_action x ≡ word)
action_in word h = word_among word_of_action (Add ∷ Edit ∷ Delete ∷ Branch ∷ Integrate ∷ MoveAdd ∷ MoveDelete ∷ []) word h

pub how_in : (word : List ℕ) → IsOneOf (map how_word hows) word → (x : How) × (word_of_how x ≡ word)
how_in word h = word_among word_of_how (CopyFrom ∷ BranchFrom ∷ DeleteFrom ∷ Ignored ∷ MovedFrom ∷ []) word h

-- ---- forms

pub record Reads (kind : SpecKind) (text : List ℕ) : Type 0 where
  pub form : FormValue
  pub text_is : printed_form form ≡ text
  pub spelled : IsSpelled kind form

read_in : (kind : SpecKind) (text : List ℕ) → reads_as (shape_of kind) text ≡ true → Reads kind text
read_in kind text h = go (form_of (shape_of kind) text) refl h
  where
    go : (r : Result FormValue FormFault) → form_of (shape_of kind) text ≡ r
        → (elim r as (λ _. Bool) [ Err f ↦ false | Ok x ↦ same (printed_form x) text ]) ≡ true → Reads kind text
    go (Err fault) e h = absurd cc
    go (Ok x) e h = record { form = x; text_is = same-is (printed_form x) text h; spelled = spelled_is kind text x e }

pub record Saves (word text : List ℕ) : Type 0 where
  pub kind : SpecKind
  pub word_is : kind_word kind ≡ word
  pub reads : Reads kind text

pub form_in : (rows : Rows) (word name text : List ℕ) → IsForm rows word name text → Saves word text
form_in rows word name text (inl h) = record { kind = ClientForm; word_is = sym h.0; reads = read_in ClientForm text h.2 }
form_in rows word name text (inr (inl h)) = record { kind = LabelForm; word_is = sym h.0; reads = read_in LabelForm text h.2 }
form_in rows word name text (inr (inr (inl h))) = record { kind = ShelfForm; word_is = sym h.0; reads = read_in ShelfForm text h.1.reads }
form_in rows word name text (inr (inr (inr (inl h)))) = record { kind = JobForm; word_is = sym h.0; reads = read_in JobForm text h.1.reads }
form_in rows word name text (inr (inr (inr (inr h)))) = record { kind = FixForm; word_is = sym h.0; reads = read_in FixForm text h.1.reads }

-- ---- numbers

pub numbered_some : (made : ℕ → Record) (n : ℕ) → 1 ≤ n → numbered_record made n ≡ Some (made n)
numbered_some made n h = go (n == 0) refl
  where
    go : (b : Bool) → (n == 0) ≡ b → (if b then None else Some (made n)) ≡ Some (made n)
    go true e = let zero_is : n ≡ 0 = number-is n 0 e in absurd (omega (arith, h, zero_is))
    go false e = refl
