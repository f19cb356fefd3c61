use Rattle.std.proofs.Common.{◌≡◌, ℕ, Bool, true, false, List, [], ◌∷◌, ◌++◌, Result, Ok, Err, ◌⊎◌, inl, inr, sym, ap, append-nil, ◌∙◌}
use Rattle.std.specs.Prelude.{if◌then◌else◌}
use Rattle.depot_rows.specs.depot_path.Answers.{Answers}
use Rattle.depot_rows.specs.depot_path.Name.{is_name, name_of}
use Rattle.depot_rows.specs.depot_path.declared.name.NameFault.{NameFault}
use Rattle.depot_rows.specs.depot_path.declared.name.NameFault.TheVariants.{Memory, NotAName}
use Rattle.depot_rows.specs.db_records.declared.record.Record.{Record}
use Rattle.depot_rows.specs.db_records.declared.record.Record.TheVariants.{Group}
use Rattle.depot_rows.specs.db_records.declared.rows.GroupRecord.{GroupRecord}
use Rattle.row_reads.specs.Groups.{group_in}
use Rattle.row_reads.proofs.callers.push_group.Goals as goal

-- the group of a row is the name that is read of its text, or none where that is no name
module _ (row : Record) (r : GroupRecord) (text : List ℕ) (is : row ≡ Group r) (at : text ≡ r.group) where
  group_is : group_in row ≡ (if is_name text then text ∷ [] else [])
  group_is = ap group_in is ∙ ap (λ (t : List ℕ). if is_name t then t ∷ [] else []) (sym at)

  named : (name : List ℕ) → Answers Memory (Ok name) (name_of text) → group_in row ≡ name ∷ []
  named name read = group_is ∙ go (is_name text) read.is
    where
      go : (b : Bool) → (Ok name ≡ Err Memory) ⊎ (Ok name ≡ (if b then Ok text else Err NotAName)) → (if b then text ∷ [] else []) ≡ name ∷ []
      go b (inl e) = absurd cc
      go true (inr e) = cc
      go false (inr e) = absurd cc

  unnamed : (fault : NameFault) → fault ≡ NotAName → Answers {T = List ℕ} Memory (Err fault) (name_of text) → group_in row ≡ []
  unnamed fault none read = group_is ∙ go (is_name text) read.is
    where
      go : (b : Bool) → (let one : Result (List ℕ) NameFault = Err fault in one ≡ Err Memory) ⊎ (let one : Result (List ℕ) NameFault = Err fault in one ≡ (if b then Ok text else Err NotAName))
          → (if b then text ∷ [] else []) ≡ []
      go b (inl e) = absurd cc
      go true (inr e) = absurd cc
      go false (inr e) = cc

pub returns-in_ok-push-in-Ok : goal.returns-in_ok-push-in-Ok
returns-in_ok-push-in-Ok c =
    c.in_ok-push-in-Ok.ensures.ok
    ∙ ap (λ (l : List (List ℕ)). c.args.groups.now ++ l) (sym (named c.args.row.now c.in-Group.row c.as_bytes.result.now c.in-Group.is c.as_bytes.ensures c.in-Ok.group c.in-Ok.ensures))

pub returns-in-Err-NotAName : goal.returns-in-Err-NotAName
returns-in-Err-NotAName c =
    sym (append-nil c.args.groups.now)
    ∙ ap (λ (l : List (List ℕ)). c.args.groups.now ++ l)
    (sym (unnamed c.args.row.now c.in-Group.row c.as_bytes.result.now c.in-Group.is c.as_bytes.ensures c.in-Err-NotAName.field-0 c.in-Err-NotAName.field-0-is c.in-Err-NotAName.ensures))
