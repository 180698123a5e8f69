use Rattle.pr_interference.proofs.lemmas.Interfering.RoleEffects.{is_interference}
use Rattle.pr_interference.proofs.onlooker.Onlooker.interfered.Goals as goal

pub returns : goal.returns
returns c s is =
    let o = c.args.self.now in
    is_interference s o o.clauses.now c.kept-answer.result c.add_role.new.answer is (c.kept-answer.ensures s is.hosts is.fits) (c.add_role.ensures s is)
