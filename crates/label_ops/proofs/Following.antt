-- Deeds that put files into labels may follow whatever depot.
use Rattle.std.proofs.Common.{◌≡◌, ℕ, zero, suc, Bool, true, false, List, [], ◌∷◌, refl, sym, subst}
use Rattle.std.specs.Prelude.{◌==◌, if◌then◌else◌}
use Rattle.std.specs.List.{list_all}
use Rattle.depot_rows.specs.depot_model.declared.command.FileArgument.{FileArgument}
use Rattle.depot_rows.specs.depot_model.declared.reply.Row.{Row}
use Rattle.depot_rows.specs.depot_model.declared.request.Caller.{Caller}
use Rattle.depot_rows.specs.depot_model.Arguments.{named, no_file, submitted}
use Rattle.depot_rows.specs.depot_model.Asking.{to_open}
use Rattle.depot_rows.specs.depot_model.Deeds.{Deed, Tag}
use Rattle.depot_rows.specs.depot_model.Latest.{labelled}
use Rattle.depot_rows.specs.depot_model.Records.{record_of}
use Rattle.depot_rows.specs.depot_model.Step.{does, nothing}
use Rattle.depot_rows.specs.depot_model.Steps.Opening.{right_refusal}
use Rattle.depot_rows.specs.depot_model.Steps.Tagging.{tag_file, tag_files, tag_to, tagged_rev}
use Rattle.depot_rows.specs.Deed.{IsDeed}
use Rattle.depot_rows.specs.Effects.{Follow, May}
use Rattle.depot_rows.specs.declared.deed.Deed.{Deed as Done}
use Rattle.depot_rows.specs.declared.deed.Deed.TheVariants as dones
use Rattle.depot_facts.proofs.Steps.{AllOf, over_these, unless_all}

-- the deed puts a file into a label, or takes it out
abbrev pub IsTag : Deed → Type 0
IsTag deed = (label path : List ℕ) × (rev : ℕ) × (deed ≡ Tag label path rev)

-- ---- which deeds `tag` gives

to_tags : (label path : List ℕ) (old new : ℕ) → AllOf IsTag (tag_to label path old new).deeds
to_tags label path zero zero = tt
to_tags label path zero (suc new) = ((label, path, suc new, refl), tt)
to_tags label path (suc old) zero = ((label, path, 0, refl), tt)
to_tags label path (suc old) (suc new) = go (old == new) _
  where
    go : (b : Bool) (row : Row) → AllOf IsTag (if b then nothing else does (Tag label path (suc new) ∷ []) row).deeds
    go true row = tt
    go false row = ((label, path, suc new, refl), tt)

file_tags : (d : List Deed) (caller : Caller) (label path : List ℕ) (new : ℕ) → AllOf IsTag (tag_file d caller label path new).deeds
file_tags d caller label path new =
    unless_all IsTag (right_refusal to_open d caller path ∷ []) (tag_to label path (labelled d label path) new) (λ _. to_tags label path (labelled d label path) new)

any_path : (paths : List (List ℕ)) → list_all (λ _. true) paths ≡ true
any_path [] = refl
any_path (path ∷ paths) = any_path paths

pub files_tag : (d : List Deed) (caller : Caller) (label : List ℕ) (removes : Bool) (arguments : List FileArgument)
    → AllOf IsTag (tag_files d caller label removes arguments).deeds
files_tag d caller label removes arguments =
    over_these IsTag (λ _. true) (named false d caller (submitted d)) (λ argument path. tag_file d caller label path (tagged_rev removes d caller label argument path))
    (λ a. any_path (named false d caller (submitted d) a)) (λ a path is. file_tags d caller label path (tagged_rev removes d caller label a path)) no_file (λ a. tt) [] arguments

-- ---- they may follow

one_follows : (d e : List Deed) (done : Done) (label path : List ℕ) (rev : ℕ) → IsDeed d done (Tag label path rev) → May done (record_of d)
    → IsDeed e done (Tag label path rev) × May done (record_of e)
one_follows d e (dones.Tag l p n) label path rev is may = (is, may)
one_follows d e (dones.Spec kind name form) label path rev is may = (is, may)
one_follows d e (dones.Guard lines) label path rev is may = (is, may)
one_follows d e (dones.Group name users) label path rev is may = (is, may)
one_follows d e (dones.Count name value) label path rev is may = (is, may)
one_follows d e (dones.Open o) label path rev is may = (is, may)
one_follows d e (dones.Shut held) label path rev is may = (is, may)
one_follows d e (dones.Free held) label path rev is may = (is, may)
one_follows d e (dones.Got held n) label path rev is may = (is, may)
one_follows d e (dones.Owe o) label path rev is may = (is, may)
one_follows d e (dones.Paid held from how) label path rev is may = (is, may)
one_follows d e (dones.Pend p) label path rev is may = absurd cc
one_follows d e (dones.Drop n) label path rev is may = absurd cc
one_follows d e (dones.Hold held) label path rev is may = absurd cc
one_follows d e (dones.Land l) label path rev is may = let other = is.1 in absurd cc

pub tags_follow : (d e : List Deed) (done : List Done) (deeds : List Deed) → AllOf IsTag deeds → Follow d done deeds → Follow e done deeds
tags_follow d e [] [] are follow = tt
tags_follow d e [] (deed ∷ deeds) are follow = absurd follow
tags_follow d e (x ∷ done) [] are follow = absurd follow
tags_follow d e (x ∷ done) (deed ∷ deeds) are follow =
    let tag = are.0 in
    let is = tag.3 in
    let here = one_follows d e x tag.0 tag.1 tag.2 (subst (λ (t : Deed). IsDeed d x t) is follow.0) follow.1 in
    (subst (λ (t : Deed). IsDeed e x t) (sym is) here.0, here.1, tags_follow (deed ∷ d) (deed ∷ e) done deeds are.1 follow.2)
