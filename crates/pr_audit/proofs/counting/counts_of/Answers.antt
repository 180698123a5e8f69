use Rattle.pr_audit.proofs.Common.{[], ◌∷◌, ◌++◌, map, sym, ap, ◌∙◌, arith, range_with_len, commands_by}
use Rattle.std.proofs.lemmas.List.FromFn.{map-range_with_len_more}
use Rattle.pr_audit.proofs.counting.counts_of.Goals as goal

pub loop-host-preserved : goal.loop-host-preserved
loop-host-preserved c =
    c.in_ok-push.ensures.items
    ∙ (ap (λ cs. cs ++ c.commands_by.result ∷ []) c.loop-host.invariant
    ∙ (ap (λ k. map (λ h. commands_by c.args.history.now h) (range_with_len 0 c.loop-host.host) ++ k ∷ []) c.commands_by.ensures
    ∙ sym (map-range_with_len_more (λ h. commands_by c.args.history.now h) 0 c.loop-host.host c.loop-host.host (omega (arith)))))
