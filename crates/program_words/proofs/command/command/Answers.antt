use Rattle.std.proofs.Common.{◌≡◌, ◌∙◌, ap, ap₂, rules, true, codes}
use Rattle.std.proofs.lemmas.Result.{IfOk-weaker}
use Rattle.clap.specs.Walk.{rule_of}
use Rattle.clap.specs.Simple.{App, app_of, app_of_fields, new_app, on_top, with_rule}
use Rattle.clap.specs.declared.builder.command.Command.{Command}
use Rattle.clap.specs.declared.builder.command.Command.TheOpen.{Command-F}
use Rattle.clap.specs.declared.builder.command.Command.TheViews.{out-Command}
use Rattle.program_words.specs.Commands.{mode_rule, name_rule}
use Rattle.program_words.proofs.command.command.Goals as goal

-- the settings of the command
abbrev set : App → App
set = on_top (λ s. record s { no_binary_name = true; disable_help_flag = true; disable_version_flag = true })

pub returns : goal.returns
returns c =
    let mode : rule_of c.required.result ≡ mode_rule = search rules in
    let name : rule_of c.action.result ≡ name_rule = search rules in
    let fields : out-Command c.disable_version_flag.result ≡ record (out-Command c.new.result) { no_binary_name = true; disable_help_flag = true; disable_version_flag = true } =
    c.disable_version_flag.ensures
    ∙ ap (λ (f : Command-F Command). record f { disable_version_flag = true }) (c.disable_help_flag.ensures ∙ ap (λ (f : Command-F Command). record f { disable_help_flag = true }) c.no_binary_name.ensures) in
    let none : app_of c.disable_version_flag.result ≡ set (new_app (codes "laitsjop")) = ap app_of_fields fields ∙ ap set c.new.ensures.app in
    let one = c.in_ok-arg.ensures.shape c.option.ensures.local ∙ ap₂ with_rule none c.option.ensures.rule in
    let two = c.in_ok-arg-2.ensures.shape c.option-2.ensures.local ∙ ap₂ with_rule one c.option-2.ensures.rule in
    let three = c.in_ok-arg-3.ensures.shape (search rules) ∙ ap₂ with_rule two mode in
    IfOk-weaker c.arg-4.result _ _ (λ command adds. adds.shape (search rules) ∙ ap₂ with_rule three name) c.arg-4.ensures
