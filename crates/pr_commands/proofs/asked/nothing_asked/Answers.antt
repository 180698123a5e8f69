-- One more, and then all.
use Rattle.pr_commands.proofs.Common.{◌≡◌, List, [], ◌∷◌, ◌++◌, Option, None, ap, ◌∙◌, arith, replicate, End}
use Rattle.std.proofs.lemmas.List.{replicate_more}
use Rattle.pr_commands.proofs.asked.nothing_asked.Goals as goal

pub loop-nexus-preserved : goal.loop-nexus-preserved
loop-nexus-preserved c =
    c.in_ok-push.ensures.items ∙ ap (λ (es : List (Option End)). es ++ None ∷ []) c.loop-nexus.invariant ∙ replicate_more c.loop-nexus._nexus None

pub returns : goal.returns
returns c =
    let past = c.loop-nexus-test.false in
    let most = c.loop-nexus.auto._nexus-end in
    let same : c.loop-nexus._nexus ≡ c.args.count = omega (arith, past, most) in
    c.loop-nexus.invariant ∙ ap (λ n. replicate n None) same
