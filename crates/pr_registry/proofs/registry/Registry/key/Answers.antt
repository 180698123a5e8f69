use Rattle.pr_registry.proofs.Common.{◌<◌, sym, ap, ◌∙◌, arith, MOST_NEXUSES, State}
use Rattle.pr_registry.specs.Registrations.{key_of}
use Rattle.pr_registry.proofs.lemmas.Tables.{slot, get-table_keys_in}
use Rattle.pr_registry.proofs.registry.Registry.key.Goals as goal

pub returns : goal.returns
returns c =
    let most = c.self.invariant.hosts.1 in
    let same = ap (λ (u : State). u.hosts) c.self.view_is in
    let small : c.args.host < MOST_NEXUSES = omega arith in
    ap (slot c.self.inside.slots) c.from.ensures ∙ sym (get-table_keys_in MOST_NEXUSES c.self.inside.slots c.args.host small)
    ∙ ap (λ u. key_of u c.args.host) c.self.view_is
