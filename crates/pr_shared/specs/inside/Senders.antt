-- Who sent what of a history.
use Rattle.std.specs.Prelude.{ℕ, Bool, true, nat_lt}
use Rattle.pr_roles.specs.declared.item.Item.{Item}
use Rattle.pr_roles.specs.declared.item.Item.TheVariants.{Sent, Reset}

-- no command of another than the nexuses before this one
abbrev pub is_sent_before : ℕ → Item → Bool
is_sent_before count (Sent e) = nat_lt e.host count
is_sent_before count Reset = true
