-- Values that the definitions give, worked out by hand.
use Rattle.std.proofs.Common.{◌≡◌, ◌++◌, ◌∷◌, ℕ, List, [], map, Result, Ok, Err, refl}
use Rattle.std.specs.Prelude.{codes}
use Rattle.spec_form.specs.declared.shape.Shape.TheVariants.{Client, Label, Group, Protect, Change, Fix}
use Rattle.spec_form.specs.declared.form.Field.{Field}
use Rattle.spec_form.specs.declared.fault.FormFault.{FormFault}
use Rattle.spec_form.specs.declared.fault.FormFaultKind.{FormFaultKind}
use Rattle.spec_form.specs.declared.fault.FormFaultKind.TheVariants.{NoField, UnknownField, Twice, Missing, NotUtf8}
use Rattle.spec_form.specs.declared.fault.ValueFault.{ValueFault}
use Rattle.spec_form.specs.declared.fault.ValueFault.TheVariants.{NoSingleField, NotAValue}
use Rattle.spec_form.specs.Shapes.{fields_of}
use Rattle.spec_form.specs.Form.{FormValue, lines_of, with_line}
use Rattle.spec_form.specs.Reading.{form_of}
use Rattle.spec_form.specs.Printing.{printed_form}
use Rattle.spec_form.specs.Places.{line_place, field_place}

abbrev value : List ℕ → List ℕ → Field
value name line = record { name = name; lines = line ∷ [] }

abbrev client : Field → FormValue
client host = record {
  shape = Client;
  fields =
      value (codes "Client") (codes "ws1") ∷ value (codes "Update") (codes "2023/11/14 10:00:00") ∷ value (codes "Access") (codes "2023/11/14 10:00:00")
      ∷ value (codes "Owner") (codes "ann") ∷ host ∷ value (codes "Description") (codes "Created by ann.") ∷ value (codes "Root") (codes "/home/ann/ws1")
      ∷ value (codes "Options") (codes "noallwrite noclobber nocompress unlocked nomodtime normdir") ∷ value (codes "SubmitOptions") (codes "submitunchanged")
      ∷ value (codes "LineEnd") (codes "local") ∷ value (codes "View") (codes "//depot/... //ws1/...") ∷ [];
}

abbrev client_text : List ℕ
client_text = codes "Client:\tws1\n\nUpdate:\t2023/11/14 10:00:00\n\nAccess:\t2023/11/14 10:00:00\n\nOwner:\tann\n\nHost:\thostA\n\nDescription:\n\tCreated by ann.\n\nRoot:\t/home/ann/ws1\n\nOptions:\tnoallwrite noclobber nocompress unlocked nomodtime normdir\n\nSubmitOptions:\tsubmitunchanged\n\nLineEnd:\tlocal\n\nView:\n\t//depot/... //ws1/...\n"

-- the client form of a first day, of 330 bytes
reads_client : form_of Client (codes "# A Perforce Client Specification.\n\n" ++ client_text) ≡ Ok (client (value (codes "Host") (codes "hostA")))
unfolding fields_of
reads_client = refl

prints_client : printed_form (client (value (codes "Host") (codes "hostA"))) ≡ client_text ++ codes "\n"
unfolding fields_of
prints_client = refl

reads_printed : form_of Client (client_text ++ codes "\n") ≡ Ok (client (value (codes "Host") (codes "hostA")))
unfolding fields_of
reads_printed = refl

other_host : with_line (codes "Host") (codes "b") (client (value (codes "Host") (codes "hostA"))) ≡ Ok (client (value (codes "Host") (codes "b")))
unfolding fields_of
other_host = refl

no_host : with_line (codes "Host") [] (client (value (codes "Host") (codes "hostA"))) ≡ Ok (client (record { name = codes "Host"; lines = [] }))
unfolding fields_of
no_host = refl

-- a field of many lines, one that the form doesn't have, and one that no client has
abbrev no_field : Result FormValue ValueFault
no_field = Err NoSingleField

no_single : map (λ (name : List ℕ). with_line name (codes "b") (record { shape = Client; fields = value (codes "Client") (codes "ws1") ∷ value (codes "View") [] ∷ [] })) (codes "View" ∷ codes "Host" ∷ codes "Stream" ∷ []) ≡
    no_field ∷ no_field ∷ no_field ∷ []
unfolding fields_of
no_single = refl

abbrev no_line : Result FormValue ValueFault
no_line = Err NotAValue

not_values : map (λ (line : List ℕ). with_line (codes "Host") line (client (value (codes "Host") (codes "hostA")))) (codes "a\nb" ∷ codes " b" ∷ codes "\tb" ∷ (0xFF ∷ []) ∷ []) ≡
    no_line ∷ no_line ∷ no_line ∷ no_line ∷ []
unfolding fields_of
not_values = refl

view_lines : lines_of (client (value (codes "Host") (codes "hostA"))) (codes "View") ≡ codes "//depot/... //ws1/..." ∷ []
view_lines = refl

no_lines : lines_of (client (value (codes "Host") (codes "hostA"))) (codes "Jobs") ≡ []
no_lines = refl

-- a new change, of 28 bytes
reads_change : form_of Change (codes "Change:\tnew\nDescription:\n\tx\n") ≡ Ok (record { shape = Change; fields = value (codes "Change") (codes "new") ∷ value (codes "Description") (codes "x") ∷ [] })
unfolding fields_of
reads_change = refl

-- comments, blanks before and behind, lines of blanks alone, a field without a value, a last line without its end
reads_blanks : form_of Change (codes "# new\nDescription: \t a \t\n \t b c  \n  \n#x\n\td\nType:  \nChange: 7 ") ≡
    Ok (record { shape = Change; fields = record { name = codes "Description"; lines = codes "a" ∷ codes "b c" ∷ [] ∷ codes "d" ∷ [] } ∷ record { name = codes "Type"; lines = [] } ∷ value (codes "Change") (codes "7 ") ∷ [] })
unfolding fields_of
reads_blanks = refl

prints_blanks : printed_form (record { shape = Change; fields = record { name = codes "Description"; lines = codes "a" ∷ [] ∷ [] } ∷ record { name = codes "Type"; lines = [] } ∷ value (codes "Change") (codes "7 ") ∷ [] }) ≡
    codes "Description:\n\ta\n\t\n\nType:\n\nChange:\t7 \n\n"
unfolding fields_of
prints_blanks = refl

-- a required field without a value is there
no_value : form_of Protect (codes "Protections:\n") ≡ Ok (record { shape = Protect; fields = record { name = codes "Protections"; lines = [] } ∷ [] })
unfolding fields_of
no_value = refl

abbrev fault : FormFaultKind → ℕ → Result FormValue FormFault
fault kind line = Err (record { what = kind; line = line })

empty_form : form_of Fix [] ≡ fault Missing 0
unfolding fields_of
empty_form = refl

no_colon : form_of Change (codes "#\n\nChange new\n") ≡ fault NoField 3
unfolding fields_of
no_colon = refl

blanks_first : form_of Change (codes " \nStream:\n") ≡ fault NoField 1
unfolding fields_of
blanks_first = refl

further_of_single : form_of Change (codes "Change:\tnew\n\tx\n") ≡ fault NoField 2
unfolding fields_of
further_of_single = refl

nameless : form_of Change (codes ": x\n") ≡ fault UnknownField 1
unfolding fields_of
nameless = refl

-- fields of Helix Core's clients that these don't have
refused : map (λ (name : List ℕ). form_of Client (codes "Client: a\n" ++ name ++ codes ":\tx\n")) (codes "AltRoots" ∷ codes "ChangeView" ∷ codes "ServerID" ∷ codes "Type" ∷ codes "Backup" ∷ codes "Stream" ∷ []) ≡
    fault UnknownField 2 ∷ fault UnknownField 2 ∷ fault UnknownField 2 ∷ fault UnknownField 2 ∷ fault UnknownField 2 ∷ fault UnknownField 2 ∷ []
unfolding fields_of
refused = refl

twice : form_of Group (codes "Group: a\nUsers:\n\tann\nUsers:\n") ≡ fault Twice 4
unfolding fields_of
twice = refl

not_text : form_of Label (codes "Label: " ++ 0xFF ∷ codes "\nLabel:\n") ≡ fault NotUtf8 0
unfolding fields_of
not_text = refl

-- places of lines
abbrev blanks : List ℕ
blanks = codes "# new\nDescription: \t a \t\n \t b c  \n  \n#x\n\td\nType:  \nChange: 7 "

places : map (line_place blanks (codes "Description")) (0 ∷ 1 ∷ 2 ∷ 3 ∷ 4 ∷ []) ≡ 2 ∷ 3 ∷ 4 ∷ 6 ∷ 0 ∷ []
places = refl

heads : map (field_place blanks) (codes "Description" ∷ codes "Change" ∷ codes "Type" ∷ codes "b c" ∷ []) ≡ 2 ∷ 8 ∷ 7 ∷ 0 ∷ []
heads = refl

no_value_no_place : line_place blanks (codes "Type") 0 ≡ 0
no_value_no_place = refl
