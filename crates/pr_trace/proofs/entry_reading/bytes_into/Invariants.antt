-- what the pairs so far write stands in front of what the others write
use Rattle.pr_trace.proofs.Common.{◌≡◌, ◌*◌, length, drop, pairs_in}
use Rattle.pr_trace.proofs.lemmas.EntryWords.PairBytes.{onto}
use Rattle.pr_trace.proofs.entry_reading.bytes_into.Given as goal

abbrev pub invariant-loop-pair : goal.invariant-loop-pair
invariant-loop-pair g l = (pairs_in l.word ≡ onto l.bytes.items (pairs_in (drop (2 * l.pair-index) l.word))) × (length l.bytes.items ≡ l.pair-index)
