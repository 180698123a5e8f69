use Rattle.pr_output.specs.Printed.{printed_word}
use Rattle.pr_commands.proofs.witness_text.put_no_arm.Goals as goal

pub returns : goal.returns
unfolding printed_word
returns g c = rw c.from.ensures at c.put_line.ensures
