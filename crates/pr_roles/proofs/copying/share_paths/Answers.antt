-- One path more is shared.
use Rattle.pr_roles.proofs.Common.{◌<◌, length, refl, ap, ◌∙◌, arith, length-map, nexus_of}
use Rattle.std.proofs.Math.Seq.{map-set_same}
use Rattle.pr_roles.proofs.lemmas.Scenarios.Paths.{shared_more}
use Rattle.pr_roles.proofs.copying.share_paths.Goals as goal

pub loop-i-preserved : goal.loop-i-preserved
loop-i-preserved c = record {
  nexuses = map-set_same nexus_of c.loop-i.nexuses c.loop-i.i _ c.index-nexuses-i.result refl ∙ c.loop-i.invariant.nexuses;
  paths =
      let there : c.loop-i.i < length c.loop-i.nexuses =
      omega (arith, c.loop-i-test.true, ap length c.loop-i.invariant.nexuses, length-map c.loop-i.nexuses nexus_of, length-map c.args.nexuses.now nexus_of) in
      shared_more c.loop-i.nexuses c.loop-i.i _ refl there c.loop-i.invariant.paths;
}
