-- What the matches ask.
use Rattle.std.specs.Prelude.{ℕ, List, [], Option, Some, None, codes, unwrap_or}
use Rattle.clap.specs.Walk.{Row, Text, all_of, first_of}
use Rattle.program_words.specs.Words.{Job, job_of_mode, number_in}

-- MODE and the names, with the numbers of the options
abbrev pub job_numbered : Option ℕ → Option ℕ → Text → List Text → Option Job
job_numbered (Some seed) (Some count) word names = job_of_mode seed count word names
job_numbered _ _ word names = None

-- the texts that the options are given, MODE and the names
abbrev pub job_by_texts : Option Text → Option Text → Option Text → List Text → Option Job
job_by_texts (Some seed) (Some count) (Some word) names = job_numbered (number_in 0 2147483647 seed) (number_in 1 10000 count) word names
job_by_texts _ _ _ names = None

abbrev pub job_in : List Row → Option Job
job_in rows = job_by_texts (first_of (codes "seed") rows) (first_of (codes "count") rows) (first_of (codes "MODE") rows) (unwrap_or (all_of (codes "NAME") rows) [])
