use Rattle.std.proofs.Common.{◌≡◌, ◌++◌, map}
use Rattle.spec_form.specs.Form.{with_value}
use Rattle.spec_form.specs.Fields.{seen_fields}
use Rattle.spec_form.proofs.FieldsLemmas.{names}
use Rattle.spec_form.proofs.fields.Fields.with.Given as goal

-- the copies, and then what is left
abbrev pub invariant-loop-key : goal.invariant-loop-key
invariant-loop-key l = record {
  copied : l.copy ++ map (with_value l.name l.value) (seen_fields l.key-iterator) ≡ map (with_value l.name l.value) l.fn.self;
  named : names l.copy ++ names (seen_fields l.key-iterator) ≡ names l.fn.self;
}
