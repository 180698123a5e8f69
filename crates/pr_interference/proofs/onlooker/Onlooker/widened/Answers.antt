use Rattle.pr_interference.proofs.lemmas.Interfering.RoleEffects.{is_widened, has_what_it_shows}
use Rattle.pr_interference.proofs.onlooker.Onlooker.widened.Goals as goal

pub add_role-requires : goal.add_role-requires
add_role-requires c = record { shown = λ s is. has_what_it_shows s c.args.self.now is }

pub returns : goal.returns
returns c s is = is_widened s c.args.self.now c.args.self.now.clauses.now c.add_role.new.answer is (c.add_role.ensures s is)
