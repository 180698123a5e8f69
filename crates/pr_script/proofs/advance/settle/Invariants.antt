-- The place and the open repeats settle as those at the start; each step leaves less to unfold.
use Rattle.pr_script.proofs.Common.{◌≡◌, settled_form, configuration, IsPlaced, meanings}
use Rattle.pr_script.specs.Scripts.{work}
use Rattle.pr_script.proofs.advance.settle.Given as goal

abbrev pub invariant-loop-to : goal.invariant-loop-to
invariant-loop-to l = record {
  placed : IsPlaced l.rows l.at l.opens.items;
  settles : settled_form (configuration (meanings l.rows) l.at l.opens.items) ≡ settled_form (configuration (meanings l.fn.rows) l.fn.from l.fn.opens.items);
}

abbrev pub decreases-loop-to : goal.decreases-loop-to
decreases-loop-to l = work (configuration (meanings l.rows) l.at l.opens.items)
