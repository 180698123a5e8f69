use Rattle.pr_unit.proofs.Common.{◌<◌, length, sym, ap, ◌∙◌, subst, arith, MOST_NEXUSES, table_pairs, UnitState, unit_of, is_pending}
use Rattle.std.specs.FinSet as set
use Rattle.pr_unit.proofs.lemmas.Attentions.Pairs.{place_read, contains-table_pairs_in}
use Rattle.pr_unit.proofs.unit.Unit.pending.Goals as goal

pub returns-clause-value : goal.returns-clause-value
returns-clause-value c = λ code.
    let table = c.self.inside.pending in
    let u = unit_of c.self.inside.registry table in
    let below : c.args.host < u.registry.hosts = subst (λ (s : UnitState). c.args.host < s.registry.hosts) (sym c.self.view_is) c.requires in
    let most = c.self.invariant.registry.hosts.1 in
    let whole = c.self.told in
    let small : c.from.result < MOST_NEXUSES = omega arith in
    let there : c.from.result < length table = omega arith in
    ap (λ s. set.contains s code) (place_read table c.from.result c.index-self-from.result there)
    ∙ sym (contains-table_pairs_in table c.from.result code small) ∙ ap (λ h. set.contains (table_pairs table) (h, code)) c.from.ensures
    ∙ ap (λ (s : UnitState). is_pending s c.args.host code) c.self.view_is
