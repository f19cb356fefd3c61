use Rattle.std.proofs.Common.{◌∙◌}
use Rattle.std.proofs.lemmas.Result.{IfOk-weaker}
use Rattle.clap.specs.Matches.{found_of}
use Rattle.clap.specs.Simple.{app_of}
use Rattle.clap.specs.Walk.{rows_of}
use Rattle.program_words.specs.Words.{words_of}
use Rattle.program_words.proofs.Readings.{matches_ask, mode_asked, none_asked, refused_ask}
use Rattle.program_words.proofs.mode.mode_of.Goals as goal

pub returns-in-Ok-clause-mode : goal.returns-in-Ok-clause-mode
returns-in-Ok-clause-mode c =
    let asks = matches_ask (app_of c.in_ok-command.command) (words_of c.args.words.now) (rows_of (found_of c.in-Ok.matches)) c.in_ok-command.ensures c.in-Ok.ensures.kinds (λ simple. (c.in-Ok.ensures.matches simple).0) in
    IfOk-weaker c.mode_in.result _ _ (λ mode is. mode_asked (words_of c.args.words.now) mode (is ∙ asks)) c.mode_in.ensures.mode

pub returns-in-Ok-clause-usage : goal.returns-in-Ok-clause-usage
returns-in-Ok-clause-usage c =
    let asks = matches_ask (app_of c.in_ok-command.command) (words_of c.args.words.now) (rows_of (found_of c.in-Ok.matches)) c.in_ok-command.ensures c.in-Ok.ensures.kinds (λ simple. (c.in-Ok.ensures.matches simple).0) in
    IfOk-weaker c.mode_in.result _ _ (λ mode is. none_asked (words_of c.args.words.now) mode (is ∙ asks)) c.mode_in.ensures.mode

pub returns-clause-usage : goal.returns-clause-usage
returns-clause-usage c =
    refused_ask (app_of c.in_ok-command.command) (words_of c.args.words.now) c.in-Err.error.kind c.in_ok-command.ensures c.in-Err.ensures.kinds (λ memory. c.in_default.not-OutOfMemory (c.kind.ensures ∙ memory))
