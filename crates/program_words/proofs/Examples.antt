-- Some command lines, and what they ask.
use Rattle.std.proofs.Common.{◌≡◌, [], ◌∷◌, Some, None, codes, refl}
use Rattle.program_words.specs.Words.{asked, init, load, schedule, serve}

-- `--seed 1 --count 3 load`
options_of_a_load : asked (codes "--seed" ∷ codes "1" ∷ codes "--count" ∷ codes "3" ∷ codes "load" ∷ []) ≡ Some (load 1 3)
options_of_a_load = refl

-- `load`: a seed is 1 and a count 100 where none is given
options_absent : asked (codes "load" ∷ []) ≡ Some (load 1 100)
options_absent = refl

-- `load a`: a mode without names has none
names_without_use : asked (codes "load" ∷ codes "a" ∷ []) ≡ None
names_without_use = refl

-- `schedule a --seed=007`
value_behind_a_sign : asked (codes "schedule" ∷ codes "a" ∷ codes "--seed=007" ∷ []) ≡ Some (schedule 7 (codes "a" ∷ []))
value_behind_a_sign = refl

-- `schedule a --seed 2 b`: an option may stand among the names
options_between : asked (codes "schedule" ∷ codes "a" ∷ codes "--seed" ∷ codes "2" ∷ codes "b" ∷ []) ≡ Some (schedule 2 (codes "a" ∷ codes "b" ∷ []))
options_between = refl

-- `--count 3 -- init`: a mode that has no use for an option allows it
option_without_use : asked (codes "--count" ∷ codes "3" ∷ codes "--" ∷ codes "init" ∷ []) ≡ Some init
option_without_use = refl

-- `-- dump --seed=1`: behind `--` no option comes
behind_the_end : asked (codes "--" ∷ codes "dump" ∷ codes "--seed=1" ∷ []) ≡ None
behind_the_end = refl

-- `--seed 1 --seed=1 dump`
given_twice : asked (codes "--seed" ∷ codes "1" ∷ codes "--seed=1" ∷ codes "dump" ∷ []) ≡ None
given_twice = refl

-- `dump --seed`
without_value : asked (codes "dump" ∷ codes "--seed" ∷ []) ≡ None
without_value = refl

-- `--count 0 dump`
below_the_least : asked (codes "--count" ∷ codes "0" ∷ codes "dump" ∷ []) ≡ None
below_the_least = refl

-- `--co 3 dump`
shortened : asked (codes "--co" ∷ codes "3" ∷ codes "dump" ∷ []) ≡ None
shortened = refl

-- `schedule a a`
one_name_twice : asked (codes "schedule" ∷ codes "a" ∷ codes "a" ∷ []) ≡ None
one_name_twice = refl

-- `--help`
no_help : asked (codes "--help" ∷ []) ≡ None
no_help = refl

-- `serve a b`
on_threads : asked (codes "serve" ∷ codes "a" ∷ codes "b" ∷ []) ≡ Some (serve (codes "a" ∷ codes "b" ∷ []))
on_threads = refl

-- `serve`: a mode with names has one at least
no_names : asked (codes "serve" ∷ []) ≡ None
no_names = refl
