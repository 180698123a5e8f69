use Rattle.pr_interference.proofs.Common.{◌≡◌, ◌<◌, length, slice_index_or, sym, ap, ◌∙◌, arith, has}
use Rattle.pr_views.proofs.lemmas.Rooms.Places.{holds_at-get_or}
use Rattle.pr_interference.proofs.lemmas.Interfering.Changes.{is_after}
use Rattle.pr_interference.proofs.onlooker.Onlooker.after.Goals as goal

pub returns-clause-some : goal.returns-clause-some
returns-clause-some c s is uniform proper =
    let pends = c.is_empty.ensures.filled c.if-is_empty.false in
    let words = c.in_ok-words.words in
    let own : c.from.result ≡ s.own = c.from.ensures ∙ sym is.own in
    let there : s.own < length words = (let small = c.args.self.now.own_there in let few = c.args.self.now.few in let same = is.own in omega arith) in
    let gathered = c.in_ok-words.ensures.some s is.known uniform proper in
    is_after s c.args.self.now c.args.place.now c.args.senders c.args.region.now c.args.change.now words
    (record { registrations = c.registrations_after.result; reservations = c.only.result; pending = c.attentions_after.result }) pends.0 is
    (let most = c.args.place.now.few in let same = is.known.hosts in omega arith) gathered pends.1
    (record {
      registrations = λ g small. c.registrations_after.ensures g;
      reservation = c.only.ensures;
      owners = slice_index_or words c.from.result (record { bits = 0 });
      are_own = λ r. holds_at-get_or (λ x. has x r) words s.own (record { bits = 0 }) there ∙ ap (λ i. has (slice_index_or words i (record { bits = 0 })) r) (sym own);
      told = c.attentions_after.ensures;
    })
