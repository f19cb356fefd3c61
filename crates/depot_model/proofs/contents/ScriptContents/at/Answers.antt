use Rattle.std.proofs.Common.{List, Some, None, ap, ◌∙◌}
use Rattle.std.specs.Prelude.{map}
use Rattle.std.specs.Option.{option_copied}
use Rattle.depot_model.specs.Contents.{ScriptFiles, content_of, contents_after, newest}
use Rattle.depot_model.specs.Steps.Submitting.{block_at}
use Rattle.depot_model.specs.declared.contents.FileLine.{FileLine}
use Rattle.depot_model.proofs.InForce.{look_up}
use Rattle.depot_model.proofs.contents.ScriptContents.at.Goals as goal

pub returns-in_err-said : goal.returns-in_err-said
returns-in_err-said c =
    let was = c.self.inside in
    ap option_copied c.from_residual.ensures
    ∙ (look_up was.lines was.files.entries c.self.invariant c.args.lines c.args.path.now None c.in_err-said.ensures.value
    ∙ ap (λ (s : ScriptFiles). block_at (map content_of (contents_after c.args.lines s.files)) c.args.path.now) c.self.view_is)

pub returns : goal.returns
returns c =
    let was = c.self.inside in
    c.newest.ensures
    ∙ (ap (λ (ls : List FileLine). newest None c.args.lines ls) c.as_slice.ensures
    ∙ (look_up was.lines was.files.entries c.self.invariant c.args.lines c.args.path.now (Some c.in_ok-said.said.now) c.in_ok-said.ensures.value
    ∙ ap (λ (s : ScriptFiles). block_at (map content_of (contents_after c.args.lines s.files)) c.args.path.now) c.self.view_is))
