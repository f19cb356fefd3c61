-- Which contents a shelf may keep: those that a script may give. This project's own choice.
use Rattle.std.specs.Prelude.{Bool, ◌&&◌, nat_le, length}
use Rattle.depot_rows.specs.depot_model.Contents.{are_bytes}
use Rattle.depot_rows.specs.depot_model.declared.request.Content.{Content}

-- a content is no longer than a block of a script, and it is of bytes
abbrev pub is_short : Content → Bool
is_short content = nat_le (length content.bytes) 8388608

abbrev pub is_of_bytes : Content → Bool
is_of_bytes content = are_bytes content.bytes

abbrev pub fits_content : Content → Bool
fits_content content = is_short content && is_of_bytes content
