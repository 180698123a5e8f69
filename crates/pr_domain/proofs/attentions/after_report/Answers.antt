use Rattle.pr_domain.proofs.Common.{◌≡◌, ◌==◌, sym, ◌∙◌, subst, inl, arith, false≢true, eq-eqb, eqb-true, ATTENTION_SETS}
use Rattle.pr_attention.proofs.lemmas.Bits.{same_bits}
use Rattle.pr_regions.proofs.lemmas.Images.Unions.{union_grows, union_joined}
use Rattle.pr_domain.specs.inside.Reporting.{IsAfter}
use Rattle.pr_domain.proofs.attentions.after_report.Goals.{then-has+then-is_among, else-has, else-has-via-then-has+else-is_among, else-has-via-else-has}
use Rattle.pr_domain.proofs.attentions.after_report.Goals as goal

pub loop-attentions-preserved : goal.loop-attentions-preserved
loop-attentions-preserved c =
    let i = c.loop-attentions.attentions in
    let left = c.loop-attentions.left in
    elim c.if-has.branch [
      | then-has+then-is_among w ↦
          let m = w.without.result in
          let after : IsAfter i c.args.attention m = (w.without.ensures.few, sym w.is_among.ensures ∙ w.if-is_among.true, w.without.ensures.codes) in
          rw w.left-is (union_joined i c.args.pending left w.with-left.result (λ q n. IsAfter q c.args.attention n) (λ n. n == m) (sym c.has.ensures ∙ w.if-has.true) w.with-left.ensures
          (λ n. (λ tells. subst (λ k. IsAfter i c.args.attention k) (sym (eqb-true n m tells)) after, λ follows. eq-eqb n m (same_bits n m follows.0 after.0 (follows.2 ∙ sym after.2))))
          c.loop-attentions.invariant)
      | else-has w ↦ rw w.left-is (union_grows i c.args.pending left left (λ q n. IsAfter q c.args.attention n) (λ n had. had)
          (λ there n follows. absurd (elim w.else-has.branch [
            | else-has-via-then-has+else-is_among w' ↦ false≢true (sym w'.if-is_among.false ∙ w'.is_among.ensures ∙ follows.1)
            | else-has-via-else-has w' ↦ false≢true (sym w'.if-has.false ∙ c.has.ensures ∙ there)
          ])) (λ n had. inl had) c.loop-attentions.invariant)
    ]

pub returns : goal.returns
returns c =
    let whole : c.loop-attentions.attentions ≡ ATTENTION_SETS = omega arith in
    let union = rw whole at c.loop-attentions.invariant in
    record { all = union.all; only = union.only }
