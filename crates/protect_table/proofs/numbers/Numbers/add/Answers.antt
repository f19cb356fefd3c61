use Rattle.std.proofs.Common.{◌≡◌, ◌∙◌, ap, subst, List, ℕ, Result, Ok, Err}
use Rattle.std.proofs.lemmas.Result.{on_ok_weaker}
use Rattle.depot_path.specs.Answers.{Answers}
use Rattle.depot_path.specs.Name.{name_of}
use Rattle.depot_path.specs.declared.name.NameFault.{NameFault}
use Rattle.depot_path.specs.declared.name.NameFault.TheVariants.{Memory, NotAName}
use Rattle.protect_table.proofs.Naming.{group_added, is_named, is_no_name, other_added, user_added}
use Rattle.protect_table.proofs.numbers.Numbers.add.Goals as goal

read_as : (text bytes : List ℕ) (result was : Result (List ℕ) NameFault) → bytes ≡ text → was ≡ result → Answers Memory was (name_of bytes) → Answers Memory result (name_of text)
read_as text bytes result was e is h = subst (λ t. Answers Memory result (name_of t)) e (subst (λ r. Answers Memory r (name_of bytes)) is h)

pub returns-in-User : goal.returns-in-User
returns-in-User c =
    let read = read_as c.args.line.now.name c.as_bytes.result.now (Ok c.in-Ok.name) c.read.result c.as_bytes.ensures c.in-Ok.is c.read.ensures in
    on_ok_weaker c.add.result
    (user_added c.args.self.now.users c.add.new.by_name c.args.self.now.groups c.args.self.now.others c.args.number c.args.line.now c.in-Ok.name c.in-User.is
    (is_named c.args.line.now.name c.in-Ok.name read)) c.add.ensures

pub returns-in-Group : goal.returns-in-Group
returns-in-Group c =
    let read = read_as c.args.line.now.name c.as_bytes.result.now (Ok c.in-Ok.name) c.read.result c.as_bytes.ensures c.in-Ok.is c.read.ensures in
    on_ok_weaker c.add-in-Group.result
    (group_added c.args.self.now.users c.args.self.now.groups c.add-in-Group.new.by_name c.args.self.now.others c.args.number c.args.line.now c.in-Ok.name c.in-Group.is
    (is_named c.args.line.now.name c.in-Ok.name read)) c.add-in-Group.ensures

pub returns-in-Err-NotAName : goal.returns-in-Err-NotAName
returns-in-Err-NotAName c =
    let read = read_as c.args.line.now.name c.as_bytes.result.now (Err NotAName) c.read.result c.as_bytes.ensures (c.in-Err-NotAName.is ∙ ap Err c.in-Err-NotAName.field-0-is) c.read.ensures in
    on_ok_weaker c.push.result
    (other_added c.args.self.now.users c.args.self.now.groups c.args.self.now.others c.push.new.self c.args.number c.args.line.now
    (is_no_name c.args.line.now.name read)) c.push.ensures.ok
