-- One word more.
use Rattle.pr_commands.proofs.Common.{◌+◌, drop, sym, ap, ◌∙◌, map, names_of}
use Rattle.std.proofs.lemmas.List.{drop_more}
unfoldable use Rattle.pr_commands.specs.Facts.{fact_of}
use Rattle.pr_commands.specs.Facts.{facts_of}
use Rattle.pr_commands.proofs.lemmas.EachWord.{onto, one_more, one_none}
use Rattle.pr_commands.proofs.facts.facts_of.Goals as goal

pub returns-in-None : goal.returns-in-None
returns-in-None c =
    let names = names_of c.args.nexuses.now in
    let this = ap (λ ws. onto c.loop-word.facts.items (facts_of names (map (λ w. w.now) ws))) (drop_more c.args.words.now c.loop-word.word-index _ c.loop-word-test.true) in
    sym (c.loop-word.invariant ∙ (this ∙ one_none (fact_of names) _ _ c.loop-word.facts.items (sym (rw c.as_bytes.ensures.value at c.fact_of.ensures) ∙ c.in-None.is)))

pub loop-word-preserved : goal.loop-word-preserved
loop-word-preserved c =
    let names = names_of c.args.nexuses.now in
    let this = ap (λ ws. onto c.loop-word.facts.items (facts_of names (map (λ w. w.now) ws))) (drop_more c.args.words.now c.loop-word.word-index _ c.loop-word-test.true) in
    let rest = map (λ w. w.now) (drop (c.loop-word.word-index + 1) c.args.words.now) in
    let more = one_more (fact_of names) _ rest c.loop-word.facts.items c.in-Some.fact (sym (rw c.as_bytes.ensures.value at c.fact_of.ensures) ∙ c.in-Some.is) in
    c.loop-word.invariant ∙ (this ∙ (more ∙ ap (λ l. onto l (facts_of names rest)) (sym c.in_ok-push-in-Some.ensures.items)))
