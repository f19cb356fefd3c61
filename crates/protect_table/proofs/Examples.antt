-- Values that the definitions give.
use Rattle.std.proofs.Common.{◌≡◌, ℕ, List, [], ◌∷◌, refl, Ok, Err}
use Rattle.std.specs.Prelude.{true, false, codes, filter}
use Rattle.protect_table.specs.Line.{table_of}
use Rattle.protect_table.specs.Rights.{level, any_level, may, may_any}
use Rattle.protect_table.specs.Wildcard.{fits_word}
use Rattle.protect_table.specs.Words.{words_of}
use Rattle.protect_table.specs.declared.line.ProtectLine.{ProtectLine}
use Rattle.protect_table.specs.declared.fault.LineFault.TheVariants.{BadMode, BadGrantee, BadPath}
use Rattle.protect_table.specs.declared.who.Who.{Who}

abbrev lines : List (List ℕ) → List ProtectLine
lines texts = elim (table_of texts) [ Ok ls ↦ ls | Err fault ↦ [] ]

abbrev user : List ℕ → Who
user name = record { user = name; groups = []; host = codes "hostA" }

-- the needs that a caller meets at a path, and somewhere
abbrev needs : List ProtectLine → Who → List ℕ → List ℕ
needs table who path = filter (may table who path) (1 ∷ 2 ∷ 3 ∷ 4 ∷ 5 ∷ 6 ∷ [])

abbrev needs_somewhere : List ProtectLine → Who → List ℕ
needs_somewhere table who = filter (may_any table who) (1 ∷ 2 ∷ 3 ∷ 4 ∷ 5 ∷ 6 ∷ [])

-- ---- levels

abbrev table : List ProtectLine
table = lines (codes "write user * * //depot/..." ∷ codes "list user * * -//depot/secret/..." ∷ codes "read user ann * //depot/secret/..." ∷ codes "super user root * //..." ∷ [])

ann : level table (user (codes "ann")) (codes "//depot/secret/x") ≡ 2
ann = refl

bob : level table (user (codes "bob")) (codes "//depot/secret/x") ≡ 0
bob = refl

root : level table (user (codes "root")) (codes "//depot/secret/x") ≡ 6
root = refl

ann_elsewhere : level table (user (codes "ann")) (codes "//depot/a") ≡ 4
ann_elsewhere = refl

no_lines : (who : Who) (path : List ℕ) → level [] who path ≡ 6
no_lines who path = refl

no_lines_somewhere : (who : Who) → any_level [] who ≡ 6
no_lines_somewhere who = refl

-- ---- single rights

abbrev single : List ProtectLine
single = lines (codes "super user root * //..." ∷ codes "write user * * //depot/..." ∷ codes "=open user bob * -//depot/rel/..." ∷ codes "list user eve * -//..." ∷ codes "list user eve * //depot/..." ∷ codes "=read user eve * //depot/pub/..." ∷ [])

bob_in_rel : needs single (user (codes "bob")) (codes "//depot/rel/x") ≡ 1 ∷ 2 ∷ 4 ∷ []
bob_in_rel = refl

bobs_level : level single (user (codes "bob")) (codes "//depot/rel/x") ≡ 4
bobs_level = refl

bob_outside : needs single (user (codes "bob")) (codes "//depot/a") ≡ 1 ∷ 2 ∷ 3 ∷ 4 ∷ []
bob_outside = refl

eve_in_pub : needs single (user (codes "eve")) (codes "//depot/pub/x") ≡ 1 ∷ 2 ∷ []
eve_in_pub = refl

eve_outside : needs single (user (codes "eve")) (codes "//depot/a") ≡ 1 ∷ []
eve_outside = refl

eve_anywhere : any_level single (user (codes "eve")) ≡ 2
eve_anywhere = refl

-- a mode of a single right grants no lower need
alone : needs (lines (codes "=write user ann * //depot/..." ∷ [])) (user (codes "ann")) (codes "//depot/a") ≡ 4 ∷ []
alone = refl

-- ---- `=write` on an exclusion

abbrev sealed : List ProtectLine
sealed = lines (codes "super user root * //..." ∷ codes "write user ann * //..." ∷ codes "=write user * * -//depot/rel/..." ∷ codes "=write user ann * -//..." ∷ [])

root_in_rel : needs sealed (user (codes "root")) (codes "//depot/rel/x") ≡ 1 ∷ 2 ∷ 3 ∷ 5 ∷ 6 ∷ []
root_in_rel = refl

roots_level : level sealed (user (codes "root")) (codes "//depot/rel/x") ≡ 6
roots_level = refl

-- an exclusion of a part of the tree denies nothing somewhere
root_anywhere : needs_somewhere sealed (user (codes "root")) ≡ 1 ∷ 2 ∷ 3 ∷ 4 ∷ 5 ∷ 6 ∷ []
root_anywhere = refl

ann_sealed : needs sealed (user (codes "ann")) (codes "//depot/a") ≡ 1 ∷ 2 ∷ 3 ∷ []
ann_sealed = refl

ann_anywhere : any_level sealed (user (codes "ann")) ≡ 3
ann_anywhere = refl

-- ---- groups that disagree, `*` in a name and in hosts, a host that differs, an exclusion that a later line overrides

abbrev team : List ProtectLine
team = lines (codes "read group dev* host* //depot/..." ∷ codes "write group ops * -//depot/..." ∷ codes "open group * *A //depot/a/..." ∷ codes "super user ann deskB //..." ∷ codes "=write group ops * -//depot/..." ∷ codes "write user ann * //depot/b" ∷ [])

abbrev ann_from : List ℕ → List (List ℕ) → Who
ann_from host groups = record { user = codes "ann"; groups = groups; host = host }

one_group : level team (ann_from (codes "hostA") (codes "devs" ∷ [])) (codes "//depot/c") ≡ 2
one_group = refl

two_groups : level team (ann_from (codes "hostA") (codes "devs" ∷ codes "ops" ∷ [])) (codes "//depot/c") ≡ 0
two_groups = refl

no_group : level team (ann_from (codes "hostA") []) (codes "//depot/c") ≡ 0
no_group = refl

overridden : level team (ann_from (codes "hostA") (codes "devs" ∷ codes "ops" ∷ [])) (codes "//depot/a/c") ≡ 3
overridden = refl

after_single : level team (ann_from (codes "hostA") (codes "ops" ∷ [])) (codes "//depot/b") ≡ 4
after_single = refl

other_host : level team (ann_from (codes "deskA") (codes "devs" ∷ [])) (codes "//depot/c") ≡ 0
other_host = refl

own_host : level team (ann_from (codes "deskB") []) (codes "//depot/c") ≡ 6
own_host = refl

own_host_sealed : needs team (ann_from (codes "deskB") (codes "ops" ∷ [])) (codes "//depot/c") ≡ 1 ∷ 2 ∷ 3 ∷ 5 ∷ 6 ∷ []
own_host_sealed = refl

star_within : fits_word (codes "a*n*") (codes "ann") ≡ true
star_within = refl

star_of_nothing : fits_word (codes "*a*nn*") (codes "ann") ≡ true
star_of_nothing = refl

star_after : fits_word (codes "a*b") (codes "ann") ≡ false
star_after = refl

dots_are_dots : fits_word (codes "a...") (codes "ann") ≡ false
dots_are_dots = refl

-- ---- words, quotes and comments

five_words : words_of (codes "  read user a##b  * \"-//a b/...\" ## x") ≡ codes "read" ∷ codes "user" ∷ codes "a##b" ∷ codes "*" ∷ codes "\"-//a b/...\"" ∷ []
five_words = refl

-- the `-` of an exclusion stands before the quotes or just inside them
abbrev with_exclusion : List ℕ → List ProtectLine
with_exclusion text = lines (codes "super user * * //..." ∷ text ∷ [])

dash_before : level (with_exclusion (codes "list user * * -\"//a b/...\"")) (user (codes "ann")) (codes "//a b/c") ≡ 0
dash_before = refl

dash_inside : with_exclusion (codes "list user * * \"-//a b/...\" ## none") ≡ with_exclusion (codes "list user * * -\"//a b/...\"")
dash_inside = refl

-- ---- the first bad line and its fault

comment_alone : table_of (codes "list user * * //..." ∷ codes "## all" ∷ codes "list team" ∷ []) ≡ Err (record { what = BadMode; line = 2 })
comment_alone = refl

no_such_mode : table_of (codes "=list user * * //..." ∷ []) ≡ Err (record { what = BadMode; line = 1 })
no_such_mode = refl

no_such_kind : table_of (codes "list team * * //..." ∷ []) ≡ Err (record { what = BadGrantee; line = 1 })
no_such_kind = refl

no_host : table_of (codes "list user ann" ∷ []) ≡ Err (record { what = BadGrantee; line = 1 })
no_host = refl

quoted_name : table_of (codes "list user \"ann\" * //..." ∷ []) ≡ Err (record { what = BadGrantee; line = 1 })
quoted_name = refl

no_path : table_of (codes "list user ann *" ∷ []) ≡ Err (record { what = BadPath; line = 1 })
no_path = refl

bad_path : table_of (codes "list user ann * depot/..." ∷ []) ≡ Err (record { what = BadPath; line = 1 })
bad_path = refl

quote_within : table_of (codes "list user ann * //a\"b c\"/..." ∷ []) ≡ Err (record { what = BadPath; line = 1 })
quote_within = refl

-- one `#` begins no comment
six_words : table_of (codes "list user * * //... # all" ∷ []) ≡ Err (record { what = BadPath; line = 1 })
six_words = refl
