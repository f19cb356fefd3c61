use Rattle.std.proofs.Common.{◌≡◌, drop}
use Rattle.std.specs.Prelude.{◌||◌}
use Rattle.depot_path.specs.Bytes.{is_among}
use Rattle.depot_path.specs.Path.{are_plain_after}
use Rattle.depot_path.proofs.plain.are_plain_components.Given as goal

abbrev pub invariant-loop-byte : goal.invariant-loop-byte
invariant-loop-byte l = record {
  plain : are_plain_after l.before (drop l.byte-index l.text) ≡ are_plain_after 0x2F l.text;
  parted : (l.parted || is_among (drop l.byte-index l.text) 0x2F) ≡ is_among l.text 0x2F;
}
