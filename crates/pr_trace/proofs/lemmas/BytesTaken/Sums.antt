-- How many bytes are taken in several steps.
use Rattle.pr_trace.proofs.Common.{◌≡◌, ℕ, ◌+◌, ◌≤◌, List, ◌++◌, length, drop, Option, ap, subst, arith, length-append, length-drop, bytes_of_lines, most_items, bytes_held, Takes, MOST_LATER_LINES}
use Rattle.std.proofs.KnownBytes.{Consumes-trans}
use Rattle.pr_trace.specs.BytesTaken.{LosesUpTo, most_of_trace}
use Rattle.pr_trace.specs.declared.ahead.TheConstants.{MOST_HELD}
use Rattle.pr_trace.specs.declared.ahead.Ahead.{Ahead}

pub takes_both : {s t m n o : ℕ} {a b c : Option (List ℕ)} (u : ℕ) → Takes s a b m n → Takes t b c n o → s + t ≤ u → Takes u a c m o
takes_both {s} {t} {m} {n} {o} {a} {b} {c} u h k l = record {
  lost = h.lost ++ k.lost;
  taken = Consumes-trans a b c h.lost k.lost h.taken k.taken;
  counted = omega (arith, length-append h.lost k.lost, h.counted, k.counted);
}

-- a line of so many bytes is dropped then
pub takes_drop : {s m : ℕ} {a b : Option (List ℕ)} (held next : List ℕ) (u n : ℕ) → Takes s a b m (length held) → next ≡ drop n held → s + n ≤ u → Takes u a b m (length next)
takes_drop {s} {m} {a} {b} held next u n h is l = record { lost = h.lost; taken = h.taken; counted = omega (arith, h.counted, ap length is, length-drop n held) }

pub loses_up_to : {s m n : ℕ} {a b : Option (List ℕ)} (limit : ℕ) → Takes s a b m n → n + s ≤ limit → LosesUpTo limit a b
loses_up_to limit h l = record { lost = h.lost; taken = h.taken; limited = omega (arith, h.counted) }

-- what was taken of a trace, by the version that was read out
pub loses_of_trace : {s m n : ℕ} {a b : Option (List ℕ)} (v w : ℕ) → v ≡ w → Takes s a b m n → s ≤ bytes_of_lines (1 + most_items v + MOST_LATER_LINES) → n ≤ MOST_HELD
    → LosesUpTo (most_of_trace w) a b
loses_of_trace {s} {m} {n} {a} {b} v w same taken few held = subst (λ x. LosesUpTo (most_of_trace x) a b) same (loses_up_to (most_of_trace v) taken (omega (arith, few, held)))

pub held_few : (a : Ahead) → length (bytes_held a) ≤ MOST_HELD
held_few a = omega (arith, length-drop a.start a.bytes.items, a.few)
