-- Agrees with docs/MODEL.md, 'Scripts'.
-- What the machine answers, as where its configuration stands.
use Rattle.std.specs.Prelude.{Bool, true, false}
use Rattle.pr_script.specs.declared.next.Next.{Next}
use Rattle.pr_script.specs.declared.next.Next.TheVariants.{Send, Stopped}
use Rattle.pr_script.specs.Scripts.{Standing, ready, stopped}

abbrev pub standing_of_next : Next → Standing
standing_of_next (Send line command) = ready line command
standing_of_next (Stopped word) = stopped word.bytes

abbrev pub is_send : Next → Bool
is_send (Send line command) = true
is_send (Stopped word) = false
