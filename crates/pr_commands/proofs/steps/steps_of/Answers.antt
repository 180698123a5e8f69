-- One word more.
use Rattle.pr_commands.proofs.Common.{◌+◌, length, drop, sym, ap, ◌∙◌, subst, map, All, IsThere, names_of, steps_of}
use Rattle.std.proofs.Common.{IfSome}
use Rattle.std.proofs.lemmas.List.{drop_more}
use Rattle.std.proofs.lemmas.List.Elements.{All-push}
use Rattle.pr_commands.specs.Steps.{step_in}
use Rattle.pr_commands.proofs.lemmas.EachWord.{onto, one_more, one_none}
use Rattle.pr_commands.proofs.steps.steps_of.Goals as goal

pub returns-in-None-clause-named : goal.returns-in-None-clause-named
returns-in-None-clause-named c =
    let version = c.args.version in
    let names = names_of c.args.nexuses.now in
    let this = ap (λ ss. onto c.loop-word.steps.items (steps_of version names (map (λ w. w.now) ss))) (drop_more c.args.words.now c.loop-word.word-index _ c.loop-word-test.true) in
    sym (c.loop-word.invariant.0 ∙ (this ∙ one_none (step_in version names) _ _ c.loop-word.steps.items (sym (rw c.as_bytes.ensures.value at c.step_in.ensures.step) ∙ c.in-None.is)))

pub loop-word-preserved : goal.loop-word-preserved
loop-word-preserved c =
    let version = c.args.version in
    let names = names_of c.args.nexuses.now in
    let this = ap (λ ss. onto c.loop-word.steps.items (steps_of version names (map (λ w. w.now) ss))) (drop_more c.args.words.now c.loop-word.word-index _ c.loop-word-test.true) in
    let more = one_more (step_in version names) _ (map (λ w. w.now) (drop (c.loop-word.word-index + 1) c.args.words.now)) c.loop-word.steps.items c.in-Some.step (sym (rw c.as_bytes.ensures.value at c.step_in.ensures.step) ∙ c.in-Some.is) in
    let items = c.in_ok-push-in-Some.ensures.items in (
      c.loop-word.invariant.0 ∙ (this ∙ (more ∙ ap (λ l. onto l (steps_of version names (map (λ w. w.now) (drop (c.loop-word.word-index + 1) c.args.words.now)))) (sym items))),
      subst (All (IsThere (length c.args.nexuses.now))) (sym items)
          (All-push (IsThere (length c.args.nexuses.now)) c.loop-word.steps.items c.in-Some.step c.loop-word.invariant.1
          (subst (λ o. IfSome o (IsThere (length c.args.nexuses.now))) c.in-Some.is c.step_in.ensures.there)),
    )
