use Rattle.pr_world.proofs.lemmas.Courses.Starts.{begun, stands_at_first}
use Rattle.pr_world.proofs.course.Course.begin.Goals as goal

pub returns-clause-reached : goal.returns-clause-reached
returns-clause-reached c =
    begun _ _ _ _ c.first_start.ensures.value c.first_start.ensures.allowed c.in_ok-participants_of.ensures c.in_ok-with_capacity.ensures.items

pub returns-clause-stands : goal.returns-clause-stands
returns-clause-stands c = stands_at_first _ _ _ c.first_start.ensures.allowed c.in_ok-participants_of.ensures
