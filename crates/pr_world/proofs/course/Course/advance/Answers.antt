use Rattle.pr_world.proofs.course.Course.advance.Goals as goal

pub returns-in-Of-clause-reached : goal.returns-in-Of-clause-reached
returns-in-Of-clause-reached c = λ steps. rw c.in-Of.is (c.turn.ensures.reached steps)

pub returns-in-Reset-clause-reached : goal.returns-in-Reset-clause-reached
returns-in-Reset-clause-reached c = λ steps. rw c.in-Reset.is (c.reset.ensures.reached steps)

pub returns-in-Fetched-clause-reached : goal.returns-in-Fetched-clause-reached
returns-in-Fetched-clause-reached c = λ steps. rw c.in-Fetched.is (c.fetch.ensures.reached steps)
