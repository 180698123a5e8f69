use Rattle.pr_commands.proofs.Common.{ℕ, List, Appends, subst, scenario_of, names_in, FallsShort}
use Rattle.std.specs.Borrow.{Bor}
use Rattle.pr_commands.specs.Never.{IsNeverOf}
use Rattle.pr_commands.specs.NeverText.{never_text}
use Rattle.pr_commands.specs.Steps.{texts_of}
use Rattle.pr_commands.specs.inside.Questioned.{answer_in}
use Rattle.pr_commands.proofs.lemmas.Endings.Answers.{answered, cut, whole}
use Rattle.pr_commands.proofs.never.never_text.Goals as goal

pub returns-in_err-write_never-clause-ends : goal.returns-in_err-write_never-clause-ends
returns-in_err-write_never-clause-ends g c =
    let q = c.in_ok-questioned.questioned in
    let found = c.in_ok-questioned.ensures.answered in
    let short = subst (λ (ws : List (Bor (List ℕ))). FallsShort (g.W.Write.contents c.args.writer.now) (g.W.Write.contents c.write_never.new.writer) (never_text (names_in (scenario_of q.scenario)) (texts_of c.args.words.now) q.sought (texts_of ws)))
    c.deref.ensures.value c.in_err-write_never.ensures in
    cut _ _ _ _ _ _ _ _ _ _ _ (answered _ _ _ _ (scenario_of q.scenario) (answer_in q) found.0 found.1) short c.from_residual-in_err-write_never.ensures.1

pub returns-clause-ends : goal.returns-clause-ends
returns-clause-ends g c =
    let q = c.in_ok-questioned.questioned in
    let found = c.in_ok-questioned.ensures.answered in
    let wrote = subst (λ (ws : List (Bor (List ℕ))). Appends (g.W.Write.contents c.args.writer.now) (g.W.Write.contents c.write_never.new.writer) (never_text (names_in (scenario_of q.scenario)) (texts_of c.args.words.now) q.sought (texts_of ws)))
    c.deref.ensures.value c.in_ok-write_never.ensures in
    whole (IsNeverOf _) _ _ _ _ _ _ (answered _ _ _ _ (scenario_of q.scenario) (answer_in q) found.0 found.1) c.is_no.ensures wrote
