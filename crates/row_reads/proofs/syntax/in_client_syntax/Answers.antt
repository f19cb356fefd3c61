use Rattle.std.proofs.Common.{◌∷◌, refl, sym, ap, ◌∙◌}
use Rattle.depot_rows.specs.depot_model.Arguments.{begins_with_name}
use Rattle.row_reads.proofs.syntax.in_client_syntax.Goals as goal

pub returns-in_default : goal.returns-in_default
returns-in_default c =
    let name = c.args.client.now in
    sym (ap (begins_with_name (0x2F ∷ 0x2F ∷ name)) (sym c.pieces.ensures) ∙ c.in_default.ensures.none refl (0x2F ∷ name))

pub returns-in_default-after_byte : goal.returns-in_default-after_byte
returns-in_default-after_byte c =
    let name = c.args.client.now in
    sym (ap (begins_with_name (0x2F ∷ 0x2F ∷ name)) (sym c.pieces.ensures) ∙ c.in-Some.ensures.some (0x2F ∷ name)
    ∙ c.in_default-after_byte.ensures.none refl name)

pub returns : goal.returns
returns c =
    let name = c.args.client.now in
    c.begins_with_name.ensures ∙ ap (λ n. begins_with_name n c.in-Some-after_byte.pieces.now) c.as_bytes.ensures.value
    ∙ sym (ap (begins_with_name (0x2F ∷ 0x2F ∷ name)) (sym c.pieces.ensures) ∙ c.in-Some.ensures.some (0x2F ∷ name) ∙ c.in-Some-after_byte.ensures.some name)
