use Rattle.std.proofs.Common.{subst, Err}
use Rattle.command_words.proofs.Names.{Read, named, unnamed}
use Rattle.depot_path.specs.Name.{name_of}
use Rattle.depot_path.specs.declared.name.NameFault.{NameFault}
use Rattle.command_words.proofs.values.name.Goals as goal

pub returns-in-Ok : goal.returns-in-Ok
returns-in-Ok c = named c.in-Ok.name c.args.word.now c.args.command.now c.in-Ok.ensures

pub returns-in-Err-NotAName : goal.returns-in-Err-NotAName
returns-in-Err-NotAName c =
    let P : NameFault → Type 0 = λ v. Read (Err v) (name_of c.args.word.now) in
    unnamed c.args.word.now c.args.command.now c.bad_usage.result (subst P c.in-Err-NotAName.field-0-is c.in-Err-NotAName.ensures) c.bad_usage.ensures
