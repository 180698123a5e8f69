use Rattle.std.proofs.Common.{ap, sym, ◌∙◌}
use Rattle.std.specs.List.{range_with_len}
use Rattle.pr_shared.proofs.lemmas.Guests.Nexuses.{few_nexuses, known_nexuses, rooms_are, short_nexuses}
use Rattle.pr_shared.proofs.shared.furnished.Goals as goal

pub seats_for-requires-clause-few : goal.seats_for-requires-clause-few
seats_for-requires-clause-few g c = few_nexuses _ _ _ c.parts.ensures.fits c.parts.ensures.value c.deref.ensures.value

pub seats_for-requires-clause-short : goal.seats_for-requires-clause-short
seats_for-requires-clause-short g c = short_nexuses _ _ _ c.parts.ensures.fits c.parts.ensures.value c.deref.ensures.value

pub seats_for-requires-clause-known : goal.seats_for-requires-clause-known
seats_for-requires-clause-known g c = known_nexuses _ _ _ _ c.requires.guests c.parts.ensures.value c.deref.ensures.value

pub seats_for-requires-clause-parts : goal.seats_for-requires-clause-parts
seats_for-requires-clause-parts g c = c.requires.parts ∙ sym (known_nexuses _ _ _ _ c.requires.guests c.parts.ensures.value c.deref.ensures.value)

pub returns-clause-in_order : goal.returns-clause-in_order
returns-clause-in_order g c =
    c.in_ok-seats.ensures.in_order ∙ ap (range_with_len 0) (known_nexuses _ _ _ _ c.requires.guests c.parts.ensures.value c.deref.ensures.value)

pub returns-clause-room : goal.returns-clause-room
returns-clause-room g c = c.in_ok-seats.ensures.room ∙ rooms_are _ _ _ c.parts.ensures.value c.deref.ensures.value
