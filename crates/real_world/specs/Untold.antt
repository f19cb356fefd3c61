-- A disk that doesn't tell what its files hold.
use Rattle.outside_api.specs.Disk.{Files}

-- no files are told
abbrev pub no_files : Files → Type 0
no_files files = ⊥
