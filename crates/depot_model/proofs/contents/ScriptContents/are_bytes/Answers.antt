use Rattle.std.proofs.Common.{◌≡◌, true, subst}
use Rattle.std.specs.Prelude.{map}
use Rattle.std.specs.List.{list_all}
use Rattle.depot_model.specs.Contents.{ScriptFiles, are_bytes, content_of, contents_after}
use Rattle.depot_model.specs.declared.request.Content.{Content}
use Rattle.depot_model.proofs.InForce.{all_bytes}
use Rattle.depot_model.proofs.contents.ScriptContents.are_bytes.Goals as goal

pub returns : goal.returns
returns c =
    let was = c.self.inside in
    subst (λ (s : ScriptFiles). list_all (λ (x : Content). are_bytes x.bytes) (map content_of (contents_after c.args.lines s.files)) ≡ true) c.self.view_is
    (all_bytes was.lines was.files.entries c.self.invariant c.args.lines)
