-- What is never so is told where all that can come up was seen.
use Rattle.pr_commands.proofs.Common.{ℕ, List, Option, sym, subst, arith, scenario_of, End}
use Rattle.std.specs.Borrow.{Bor}
use Rattle.std.specs.Prelude.{Vec}
use Rattle.std.specs.declared.alloc.Global.{Global}
use Rattle.pr_explore.specs.declared.moments.Fact.{Fact}
use Rattle.pr_witness.specs.Moments.{IsMomentSought}
use Rattle.pr_commands.specs.Never.{AreUnmet}
use Rattle.pr_commands.specs.Steps.{texts_of}
use Rattle.pr_commands.proofs.never.search.Goals as goal
use Rattle.pr_commands.proofs.never.search.Goals.{in-Some+in_ok-unmet-in-Some, in-None}

pub returns : goal.returns
returns c =
    let s = scenario_of c.args.scenario.now in
    let words = texts_of c.args.words.now in
    let ends = subst (λ (asked : List (Option End)). IsMomentSought s asked c.deref-2.result.now c.in_ok-sought.sought) c.deref.ensures.value c.in_ok-sought.ensures.sought in
    let sought = subst (λ (facts : List Fact). IsMomentSought s c.args.question.now.asked.items facts c.in_ok-sought.sought) c.deref-2.ensures.value ends in
    elim c.match-seen.branch [
      | in-Some+in_ok-unmet-in-Some w ↦ (sought, subst (λ (v : Vec (Bor (List ℕ)) Global). AreUnmet s words (texts_of v.items)) (sym w.unmet-is) w.in_ok-unmet-in-Some.ensures)
      | in-None w ↦ (
        sought,
        subst (λ (v : Vec (Bor (List ℕ)) Global). AreUnmet s words (texts_of v.items)) (sym w.unmet-is)
            (subst (λ (ws : List (Bor (List ℕ))). AreUnmet s words (texts_of ws)) (sym w.new-unmet.ensures.items) (λ k d within. absurd (omega (arith, within)))),
      )
    ]
