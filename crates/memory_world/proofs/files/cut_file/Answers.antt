use Rattle.std.proofs.Common.{◌≡◌, ◌∙◌, ◌<◌, ap, List, ℕ, length, take, rules}
use Rattle.memory_world.proofs.Contents.{contents_at, contents_changed, put_none}
use Rattle.memory_world.proofs.files.cut_file.Goals as goal

pub returns-then-file-len : goal.returns-then-file-len
returns-then-file-len c = λ f.
    let files = c.args.files.now.items in
    let v = c.index_mut-bytes.result.now in
    let lt : c.args.file < length files = search rules in
    let here : v.items ≡ Rattle.memory_world.specs.Files.contents files c.args.file = contents_at files c.args.file v lt (search rules) in
    contents_changed files c.args.file c.truncate.new.self _ f lt (c.truncate.ensures.items ∙ ap (λ (l : List ℕ). take c.args.length l) here)

pub returns-else-file-len : goal.returns-else-file-len
returns-else-file-len c = λ f. put_none c.args.files.now.items c.args.file c.args.length f (search rules)
