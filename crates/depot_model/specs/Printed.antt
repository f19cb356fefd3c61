-- The bytes of a reply, which is this project's own form of p4's tagged output.
use Rattle.std.specs.Prelude.{ℕ, List, [], ◌∷◌, ◌++◌, Option, Some, None, codes, decimal, if◌then◌else◌, ◌==◌}
use Rattle.std.specs.List.{flat_map}
use Rattle.depot_model.specs.declared.reply.Field.{Field}
use Rattle.depot_model.specs.declared.reply.Row.{Row}

-- within a value a line feed is followed by a tab
abbrev pub value_byte : ℕ → List ℕ
value_byte b = if b == 10 then codes "\n\t" else b ∷ []

abbrev pub printed_value : List ℕ → List ℕ
printed_value value = flat_map value_byte value

-- `... NAME VALUE`
abbrev pub printed_field : Field → List ℕ
printed_field field = codes "... " ++ field.name ++ codes " " ++ printed_value field.value ++ codes "\n"

abbrev pub printed_fields : List Field → List ℕ
printed_fields fields = flat_map printed_field fields

-- exactly its bytes, and a line feed
abbrev pub printed_content : Option (List ℕ) → List ℕ
printed_content None = []
printed_content (Some content) = content ++ codes "\n"

-- the fields, an empty line, the content
abbrev pub printed_row : Row → List ℕ
printed_row row = printed_fields row.fields ++ codes "\n" ++ printed_content row.content

abbrev pub printed_rows : List Row → List ℕ
printed_rows rows = flat_map printed_row rows

-- the rows, and `... end NUMBER` with an empty line
abbrev pub printed : List Row → ℕ → List ℕ
printed rows number = printed_rows rows ++ codes "... end " ++ decimal number ++ codes "\n\n"
