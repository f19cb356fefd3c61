use Rattle.std.proofs.Common.{◌≡◌, ◌∙◌, ◌<◌, ap, List, ℕ, length, rules}
use Rattle.memory_world.specs.Files.{contents, written}
use Rattle.memory_world.proofs.Contents.{contents_at, contents_changed, contents_unchanged, put_alike}
use Rattle.memory_world.proofs.files.write_file.Goals as goal

pub returns-in-Ok-clause-written : goal.returns-in-Ok-clause-written
returns-in-Ok-clause-written c = λ f.
    let files = c.make_room.new.files.items in
    let v = c.index_mut-bytes.result.now in
    let lt : c.args.file < length files = search rules in
    let here : v.items ≡ contents c.args.files.now.items c.args.file = contents_at files c.args.file v lt (search rules) ∙ c.make_room.ensures.same c.args.file in
    contents_changed files c.args.file c.overwrite.new.bytes _ f lt c.in-Ok.ensures.written
    ∙ put_alike c.args.file f _ (written c.args.at c.args.piece.now (contents c.args.files.now.items c.args.file)) (contents files) (contents c.args.files.now.items) (ap (λ (l : List ℕ). written c.args.at c.args.piece.now l) here) (c.make_room.ensures.same f)

pub returns-in-Err-clause-kept : goal.returns-in-Err-clause-kept
returns-in-Err-clause-kept c = λ f.
    let files = c.make_room.new.files.items in
    let v = c.index_mut-bytes.result.now in
    let lt : c.args.file < length files = search rules in
    contents_unchanged files c.args.file v c.overwrite.new.bytes f lt (search rules) c.in-Err.ensures.kept ∙ c.make_room.ensures.same f
