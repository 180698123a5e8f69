-- By the name, and what stands behind it.
use Rattle.pr_commands.proofs.Common.{sym, ap, ◌∙◌, option_and_then, option_map, names_of, ask_of}
use Rattle.pr_commands.specs.Asked.{ask_at}
use Rattle.pr_commands.proofs.asked.ask_of.Goals as goal

pub returns-in_err-equals-clause-ask : goal.returns-in_err-equals-clause-ask
unfolding ask_of
returns-in_err-equals-clause-ask c =
    ap (option_map _) c.from_residual.ensures ∙ sym (ap (option_and_then (ask_at (names_of c.args.nexuses.now) c.args.word.now)) (sym c.equals_of.ensures.place ∙ c.in_err-equals.was))
