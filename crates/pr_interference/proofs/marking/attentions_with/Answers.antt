use Rattle.pr_interference.proofs.Common.{◌≡◌, ◌<◌, bit_or, sym, refl, ◌∙◌, arith, ATTENTION_SETS}
use Rattle.std.proofs.lemmas.Nat.{or_lt}
use Rattle.pr_regions.proofs.lemmas.Images.Unions.{union_skips}
use Rattle.pr_interference.proofs.lemmas.Marks.Images.{union_with, image_of}
use Rattle.pr_interference.proofs.marking.attentions_with.Goals.{then-has, else-has}
use Rattle.pr_interference.proofs.marking.attentions_with.Goals as goal

pub with-marked-requires : goal.with-marked-requires
with-marked-requires c = let few : bit_or c.loop-attentions.attentions c.args.mark < ATTENTION_SETS = or_lt 4 c.loop-attentions.attentions c.args.mark (omega arith) c.requires in omega arith

pub loop-attentions-preserved : goal.loop-attentions-preserved
loop-attentions-preserved c = elim c.if-has.branch [
  | then-has w ↦ rw w.marked-is (union_with c.loop-attentions.attentions _ c.args.pending c.loop-attentions.marked w.with-marked.result (λ q. bit_or q c.args.mark)
      (sym c.has.ensures ∙ w.if-has.true) refl w.with-marked.ensures c.loop-attentions.invariant)
  | else-has w ↦ rw w.marked-is (union_skips c.loop-attentions.attentions c.args.pending c.loop-attentions.marked _ (sym c.has.ensures ∙ w.if-has.false) c.loop-attentions.invariant)
]

pub returns : goal.returns
returns c =
    let whole : c.loop-attentions.attentions ≡ ATTENTION_SETS = omega arith in
    image_of ATTENTION_SETS c.args.pending c.loop-attentions.marked (λ q. bit_or q c.args.mark) (rw whole at c.loop-attentions.invariant)
