use Rattle.pr_commands.proofs.Common.{sym, ◌∙◌, ap, ◌++◌, ◌+◌, [], ◌∷◌, arith, range_with_len, commands_by}
use Rattle.std.proofs.Common.{map}
use Rattle.std.proofs.lemmas.List.FromFn.{map-range_with_len_more}
use Rattle.pr_commands.proofs.runs.counts_of.Goals as goal

pub loop-host-preserved : goal.loop-host-preserved
loop-host-preserved c = (
  c.push.ensures.items
      ∙ (ap (λ cs. cs ++ c.commands_by.result ∷ []) c.loop-host.invariant.0
      ∙ (ap (λ k. map (λ h. commands_by c.args.history.now h) (range_with_len 0 c.loop-host.host) ++ k ∷ []) c.commands_by.ensures
      ∙ sym (map-range_with_len_more (λ h. commands_by c.args.history.now h) 0 c.loop-host.host c.loop-host.host (omega (arith))))),
  c.push.ensures.len ∙ ap (λ n. n + 1) c.loop-host.invariant.1,
)
