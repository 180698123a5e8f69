use Rattle.pr_unit.proofs.Common.{ℕ, Bool, [], ◌∷◌, sym, ◌∙◌, subst, All, code_of, UnitState, unit_of}
use Rattle.std.proofs.Common.{take, slice_index_or}
use Rattle.std.proofs.lemmas.List.{take_all, take_more}
use Rattle.std.proofs.lemmas.List.Elements.{All-append, All-cons, All-nil, All-contains}
use Rattle.pr_attention.specs.declared.attention.Attention.{Attention}
use Rattle.pr_attention.specs.declared.attention.Attention.TheVariants.{PowerOn}
use Rattle.pr_attention.specs.Attentions.{each_attention}
use Rattle.pr_attention.proofs.lemmas.FourCodes.{which, listed}
use Rattle.pr_unit.specs.inside.Following.{IsReported, IsUnreported}
use Rattle.pr_unit.proofs.follows.follow_any_report.Goals as goal

pub loop-attention-preserved : goal.loop-attention-preserved
loop-attention-preserved c =
    let at = λ (u : UnitState) (a : Attention). IsUnreported u c.args.host c.args.request c.args.reply.now (code_of a) in
    let old = unit_of c.args.registry.now c.args.pendings.now in
    let mid = unit_of c.args.registry.now c.loop-attention.pendings in
    let new = unit_of c.args.registry.now c.follow_report.new.pendings in
    let it = slice_index_or each_attention c.loop-attention.attention-index PowerOn in
    let not_it = subst (λ (b : Bool). IsReported mid c.args.host c.args.request c.args.reply.now (code_of it) b new) c.if-follow_report.false c.follow_report.ensures in
    record {
      same = not_it.0 ∙ c.loop-attention.invariant.same;
      none = subst (All (at old)) (sym (take_more each_attention c.loop-attention.attention-index PowerOn c.loop-attention-test.true))
          (All-append (at old) (take c.loop-attention.attention-index each_attention) (it ∷ []) c.loop-attention.invariant.none
          (All-cons (at old) it [] (subst (λ (u : UnitState). at u it) c.loop-attention.invariant.same not_it.1) (All-nil (at old))));
    }

pub returns : goal.returns
returns c = (
  c.loop-attention.invariant.same,
  λ code is.
      let a = which code is in
      let at = λ (x : ℕ). IsUnreported (unit_of c.args.registry.now c.args.pendings.now) c.args.host c.args.request c.args.reply.now x in
      let all = subst (All (λ (b : Attention). at (code_of b))) (take_all c.loop-attention.attention-index each_attention c.loop-attention-test.false) c.loop-attention.invariant.none in
      subst at (sym a.1) (All-contains (λ (b : Attention). at (code_of b)) each_attention a.0 all (listed a.0)),
)
