use Rattle.pr_interference.proofs.Common.{◌≡◌, ◌<◌, length, arith, get_or_default, view_in, ClauseLeads, ClauseLeaves}
use Rattle.pr_interference.proofs.lemmas.Interfering.Additions.{adds_element}
use Rattle.pr_interference.proofs.onlooker.Onlooker.add_role.Goals as goal

pub loop-clause-preserved : goal.loop-clause-preserved
loop-clause-preserved c s is =
    let o = c.args.self.now in
    let clauses = c.args.self.now.clauses.now in
    let n = c.loop-clause.clause-index in
    let small : n < length clauses = omega arith in
    adds_element s c.args.answer.now c.loop-clause.answer c.add_clause.new.answer n clauses _ (λ clause. ClauseLeads (view_in s o.view) clause o.other) (λ clause. ClauseLeaves (view_in s o.view) clause o.other)
    small (get_or_default clauses n _ _ small) (c.loop-clause.invariant s is) (c.add_clause.ensures s is)

pub returns : goal.returns
returns c = let all : c.loop-clause.clause-index ≡ length c.args.self.now.clauses.now = omega arith in rw all at c.loop-clause.invariant

pub add_clause-requires-clause-shown : goal.add_clause-requires-clause-shown
add_clause-requires-clause-shown c s is u i shown so = (c.loop-clause.invariant s is).kept i (c.requires.shown s is u i shown so)
