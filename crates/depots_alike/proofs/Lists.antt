-- Lists of paths and of names are known by what is in them.
use Rattle.std.proofs.Common.{◌≡◌, ℕ, Bool, true, false, List, [], ◌∷◌, refl, sym, ap, subst, ◌∙◌}
use Rattle.std.specs.Prelude.{◌||◌, ◌&&◌, if◌then◌else◌, filter}
use Rattle.std.specs.List.{list_any, list_all}
use Rattle.std.specs.Ordering.{is_lt, is_eq, nat_cmp}
use Rattle.std.specs.declared.cmp.Ordering.TheVariants.{Equal}
use Rattle.std.specs.Cmp.Lexicographic.{slice_cmp, texts_ties}
use Rattle.std.proofs.lemmas.Cmp.{nat_list_cmp_total, on_total}
use Rattle.std.proofs.lemmas.Bool.{and_parts}
use Rattle.depot_rows.specs.depot_path.Bytes.{same}
use Rattle.depot_rows.specs.depot_path.Order.{path_cmp}
use Rattle.depot_rows.specs.depot_path.Path.{path_of, printed, is_path}
use Rattle.depot_rows.proofs.depot_path.Paths.{prints_path}
use Rattle.depot_rows.specs.depot_model.Sorted.{inserted, path_inserted, all_inserted}
use Rattle.depot_rows.proofs.Keys.{same-is, same-self}
use Rattle.depots_alike.proofs.Ordered.{IsOrder, Rise, one_list, put, put_rises, has_put, filter_rises, has_filter as has_what_passes}

abbrev pub has : List (List ℕ) → List ℕ → Bool
has xs x = list_any (same x) xs

or_assoc : (a b c : Bool) → (a || (b || c)) ≡ ((a || b) || c)
or_assoc true b c = refl
or_assoc false b c = refl

-- ---- paths

one_path : (p q : List ℕ) → is_path p ≡ true → is_path q ≡ true → path_cmp p q ≡ Equal → p ≡ q
one_path p q is other e =
    let text : printed p ≡ printed q = same-is (printed p) (printed q) (texts_ties (printed p) (printed q) ∙ ap is_eq e) in
    let read = sym (prints_path p is) ∙ ap path_of text ∙ prints_path q other in
    cc

pub paths_ordered : IsOrder same path_cmp is_path
paths_ordered = record { is = same-is; self = same-self; total = on_total printed nat_list_cmp_total; one = one_path }

abbrev pub PathsRise : List (List ℕ) → Type 0
PathsRise = Rise paths_ordered

path_put : (p : List ℕ) (ps : List (List ℕ)) → path_inserted p ps ≡ put paths_ordered p ps
path_put p [] = refl
path_put p (q ∷ qs) = ap (λ rest. if same p q then q ∷ qs else (if is_lt (path_cmp p q) then p ∷ q ∷ qs else q ∷ rest)) (path_put p qs)

pub one_path_list : (xs ys : List (List ℕ)) → PathsRise xs → PathsRise ys → ((z : List ℕ) → has xs z ≡ has ys z) → xs ≡ ys
one_path_list = one_list paths_ordered

pub some_paths_rise : (test : List ℕ → Bool) (ps : List (List ℕ)) → PathsRise ps → PathsRise (filter test ps)
some_paths_rise = filter_rises paths_ordered

has_path_inserted : (z p : List ℕ) (ps : List (List ℕ)) → has (path_inserted p ps) z ≡ (same z p || has ps z)
has_path_inserted z p ps = ap (λ xs. has xs z) (path_put p ps) ∙ has_put paths_ordered z p ps

path_inserted_rises : (p : List ℕ) (ps : List (List ℕ)) → is_path p ≡ true → PathsRise ps → PathsRise (path_inserted p ps)
path_inserted_rises p ps is rise = subst PathsRise (sym (path_put p ps)) (put_rises paths_ordered p ps is rise)

pub has_all_inserted : (z : List ℕ) (more ps : List (List ℕ)) → has (all_inserted more ps) z ≡ (has more z || has ps z)
has_all_inserted z [] ps = refl
has_all_inserted z (p ∷ more) ps =
    has_path_inserted z p (all_inserted more ps) ∙ ap (λ b. same z p || b) (has_all_inserted z more ps) ∙ or_assoc (same z p) (has more z) (has ps z)

pub all_inserted_rises : (more ps : List (List ℕ)) → list_all is_path more ≡ true → PathsRise ps → PathsRise (all_inserted more ps)
all_inserted_rises [] ps all rise = rise
all_inserted_rises (p ∷ more) ps all rise =
    path_inserted_rises p (all_inserted more ps) (and_parts (is_path p) (list_all is_path more) all).0
    (all_inserted_rises more ps (and_parts (is_path p) (list_all is_path more) all).1 rise)

-- ---- names, in the order of bytes

one_name : (p q : List ℕ) → slice_cmp nat_cmp p q ≡ Equal → p ≡ q
one_name p q e = same-is p q (texts_ties p q ∙ ap is_eq e)

pub names_ordered : IsOrder same (slice_cmp nat_cmp) (λ _. true)
names_ordered = record { is = same-is; self = same-self; total = nat_list_cmp_total; one = λ p q _ _ e. one_name p q e }

abbrev pub NamesRise : List (List ℕ) → Type 0
NamesRise = Rise names_ordered

name_put : (p : List ℕ) (ps : List (List ℕ)) → inserted p ps ≡ put names_ordered p ps
name_put p [] = refl
name_put p (q ∷ qs) = ap (λ rest. if same p q then q ∷ qs else (if is_lt (slice_cmp nat_cmp p q) then p ∷ q ∷ qs else q ∷ rest)) (name_put p qs)

pub one_name_list : (xs ys : List (List ℕ)) → NamesRise xs → NamesRise ys → ((z : List ℕ) → has xs z ≡ has ys z) → xs ≡ ys
one_name_list = one_list names_ordered

pub some_names_rise : (test : List ℕ → Bool) (ps : List (List ℕ)) → NamesRise ps → NamesRise (filter test ps)
some_names_rise = filter_rises names_ordered

pub has_inserted : (z p : List ℕ) (ps : List (List ℕ)) → has (inserted p ps) z ≡ (same z p || has ps z)
has_inserted z p ps = ap (λ xs. has xs z) (name_put p ps) ∙ has_put names_ordered z p ps

pub inserted_rises : (p : List ℕ) (ps : List (List ℕ)) → NamesRise ps → NamesRise (inserted p ps)
inserted_rises p ps rise = subst NamesRise (sym (name_put p ps)) (put_rises names_ordered p ps refl rise)

pub has_filter : (test : List ℕ → Bool) (xs : List (List ℕ)) (z : List ℕ) → has (filter test xs) z ≡ (has xs z && test z)
has_filter = has_what_passes names_ordered
