-- The lines that tell how a following ended (this project's own choice).
use Rattle.std.specs.Prelude.{◌++◌, ℕ, List, codes, decimal}
use Rattle.end_lines.specs.Lines.{cause_line}
use Rattle.end_lines.specs.Causes.{cause_by}
use Rattle.end_lines.specs.declared.cause.Cause.TheVariants as server
use Rattle.depot_follow.specs.declared.ended.ChainCause.{ChainCause}
use Rattle.depot_follow.specs.declared.ended.ChainCause.TheVariants as causes

-- `apart GENERATION PLACE`
abbrev pub apart_line : ℕ → ℕ → List ℕ
apart_line generation place = codes "apart " ++ (decimal generation ++ (codes " " ++ (decimal place ++ codes "\n")))

-- `bad PLACE`
abbrev pub bad_line : ℕ → List ℕ
bad_line place = codes "bad " ++ (decimal place ++ codes "\n")

-- `usage`; `unmade` or `damaged DISK FILE PLACE`, of the node behind the word `node`; `apart GENERATION PLACE`; `bad PLACE`; `incomplete`; or `fault`
abbrev pub chain_line : ChainCause → List ℕ
chain_line causes.Done = cause_line server.Done
chain_line causes.Usage = cause_line server.Usage
chain_line (causes.Shut fault) = cause_line (cause_by fault)
chain_line (causes.NodeShut fault) = codes "node " ++ cause_line (cause_by fault)
chain_line (causes.Apart departure) = apart_line departure.generation departure.place
chain_line (causes.Bad place) = bad_line place
chain_line causes.Incomplete = codes "incomplete\n"
chain_line causes.Fault = cause_line server.Fault
chain_line causes.Memory = cause_line server.Memory

-- `generation G`, `changes N`, `verified R`
abbrev pub done_lines : ℕ → ℕ → ℕ → List ℕ
done_lines generation changes verified =
    codes "generation " ++ (decimal generation ++ (codes "\nchanges " ++ (decimal changes ++ (codes "\nverified " ++ (decimal verified ++ codes "\n")))))
