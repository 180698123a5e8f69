use Rattle.pr_unit.proofs.Common.{false≢true, [], ◌∷◌, sym, ◌∙◌, subst, All, code_of, unit_of}
use Rattle.std.proofs.Common.{take, slice_index_or}
use Rattle.std.proofs.lemmas.List.{take_all, take_more}
use Rattle.std.proofs.lemmas.List.Elements.{All-append, All-cons, All-nil, All-contains}
use Rattle.pr_attention.specs.declared.attention.Attention.{Attention}
use Rattle.pr_attention.specs.declared.attention.Attention.TheVariants.{PowerOn}
use Rattle.pr_attention.specs.Attentions.{each_attention}
use Rattle.pr_attention.proofs.lemmas.FourCodes.{which, listed}
use Rattle.pr_unit.specs.inside.Ways.{Tells}
use Rattle.pr_unit.proofs.shared_paths.tells_any.Goals as goal

pub loop-attention-preserved : goal.loop-attention-preserved
loop-attention-preserved c =
    let told = λ (a : Attention). Tells (unit_of c.args.registry.now c.args.pendings.now) c.args.host c.args.request c.args.reply.now (code_of a) → ⊥ in
    let it = slice_index_or each_attention c.loop-attention.attention-index PowerOn in
    subst (All told) (sym (take_more each_attention c.loop-attention.attention-index PowerOn c.loop-attention-test.true))
    (All-append told (take c.loop-attention.attention-index each_attention) (it ∷ []) c.loop-attention.invariant
    (All-cons told it [] (λ is. false≢true (sym c.if-tells.false ∙ c.tells.ensures.1 is)) (All-nil told)))

pub returns : goal.returns
returns c = (
  λ never. absurd (false≢true never),
  λ any.
      let u = unit_of c.args.registry.now c.args.pendings.now in
      let a = which any.0 (c.requires.well_formed.pending c.args.host any.0 any.1.0).1 in
      let told = λ (b : Attention). Tells u c.args.host c.args.request c.args.reply.now (code_of b) → ⊥ in
      let all = subst (All told) (take_all c.loop-attention.attention-index each_attention c.loop-attention-test.false) c.loop-attention.invariant in
      absurd (All-contains told each_attention a.0 all (listed a.0) (subst (Tells u c.args.host c.args.request c.args.reply.now) a.1 any.1)),
)
