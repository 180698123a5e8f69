use Rattle.pr_trace.proofs.Common.{[], ◌∷◌, length, sym, ap, ◌∙◌, inl, inr, arith, length-append, pairs_in}
use Rattle.std.proofs.lemmas.Bool.{eqb-false, eqb-true}
use Rattle.pr_trace.proofs.lemmas.EntryWords.PairBytes.{bytes_none, next_pair, no_bytes, no_pair_there, onto_none}
use Rattle.pr_trace.proofs.lemmas.EntryWords.PairBytes.{onto}
use Rattle.pr_trace.proofs.entry_reading.bytes_into.Goals as goal
use Rattle.pr_trace.proofs.entry_reading.bytes_into.Goals.{then-is_empty-via-then-is_empty, then-is_empty-via-else-is_empty+then-pairs-most, then-is_empty-via-else-is_empty+else-pairs-most+then-not-is_empty}

pub returns-then-is_empty : goal.returns-then-is_empty
returns-then-is_empty g c = no_bytes c.args.most c.args.word.now (sym c.is_dash.ensures ∙ c.if-is_dash.false) (λ bs half. elim c.then-is_empty.branch [
  | then-is_empty-via-then-is_empty w ↦ inl (omega (arith, half, c.as_chunks.ensures.front_len, eqb-true _ 0 (sym c.is_empty.ensures ∙ w.if-is_empty.true)))
  | then-is_empty-via-else-is_empty+then-pairs-most w ↦ inr (omega (arith, half, c.as_chunks.ensures.front_len, w.if-pairs-most.true))
  | then-is_empty-via-else-is_empty+else-pairs-most+then-not-is_empty w ↦ inl (omega (arith, half, c.as_chunks.ensures.back_len, eqb-false _ 0 (sym w.if-not-is_empty.ensures)))
])

pub loop-pair-init : goal.loop-pair-init
loop-pair-init g c = (
  onto_none (pairs_in c.args.word.now) ∙ ap (λ items. onto items (pairs_in c.args.word.now)) (sym c.requires.empty),
  ap length c.requires.empty,
)

pub returns-in_default : goal.returns-in_default
returns-in_default g c =
    bytes_none c.args.most c.args.word.now (sym c.is_dash.ensures ∙ c.if-is_dash.false)
    (no_pair_there c.args.word.now c.loop-pair.bytes.items c.as_chunks.result.0.now c.loop-pair.pair-index c.as_chunks.ensures.front (omega (arith, c.loop-pair-test.true, c.as_chunks.ensures.front_len))
    c.loop-pair.invariant.0 (sym c.byte_of.ensures ∙ c.in_default.is))

pub loop-pair-preserved : goal.loop-pair-preserved
loop-pair-preserved g c = (
  next_pair c.args.word.now c.loop-pair.bytes.items c.as_chunks.result.0.now c.loop-pair.pair-index c.as_chunks.ensures.front (omega (arith, c.loop-pair-test.true, c.as_chunks.ensures.front_len))
      c.in-Some.byte c.push.new.self.items c.loop-pair.invariant.0 (sym c.byte_of.ensures ∙ c.in-Some.is) c.push.ensures.items,
  omega (arith, c.loop-pair.invariant.1, ap length c.push.ensures.items, length-append c.loop-pair.bytes.items (c.in-Some.byte ∷ [])),
)
