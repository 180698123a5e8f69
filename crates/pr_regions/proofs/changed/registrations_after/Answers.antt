use Rattle.pr_regions.proofs.Common.{ℕ, ◌≡◌, ◌≢◌, ◌<◌, ◌==◌, Bool, true, false, List, refl, unwrap_or, length, subst, sym, ◌⊎◌, inl, inr, ◌≤◌, ◌∙◌, arith, false≢true, nat_tests, BitSet, has, Transition, MOST_NEXUSES, has_at, holds_at-get_or, IsImage}
use Rattle.std.specs.Option.{option_map_or}
use Rattle.std.proofs.Common.{slice_index_or}
use Rattle.std.proofs.lemmas.Bool.{cases_lt}
use Rattle.std.proofs.lemmas.List.{length-set}
use Rattle.pr_views.proofs.lemmas.Rooms.Places.{holds_at_past, more_set}
use Rattle.pr_regions.specs.Images.{registration_left, becomes}
use Rattle.pr_regions.proofs.changed.registrations_after.Goals.{then-host-from, else-host-from}
use Rattle.pr_regions.proofs.changed.registrations_after.Goals as goal

image_at : (words : List BitSet) (i : ℕ) (w d : BitSet) (f : ℕ → ℕ) → i < length words → IsImage (has (slice_index_or words i d)) f (has w) → IsImage (has_at words i) f (has w)
image_at words i w d f there image = record {
  all = λ n is. image.all n (sym (holds_at-get_or (λ x. has x n) words i d there) ∙ is);
  only = λ m is. let found = image.only m is in (found.0, holds_at-get_or (λ x. has x found.0) words i d there ∙ found.1, found.2);
}

same_image : (p q : ℕ → Bool) (f g : ℕ → ℕ) → ((n : ℕ) → f n ≡ g n) → IsImage p f q → IsImage p g q
same_image p q f g same image = record {
  all = λ n is. subst (λ m. q m ≡ true) (same n) (image.all n is);
  only = λ m is. let found = image.only m is in (found.0, found.1, found.2 ∙ same found.0);
}

becomes_sent : (from g r : ℕ) (c : Transition) → g ≡ from → unwrap_or c.sender r ≡ becomes from c g r
becomes_sent from g r c is = let same : (g == from) ≡ true = grind (arith, nat_tests) in rw same refl

becomes_left : (from g r : ℕ) (c : Transition) → g ≢ from → registration_left c.removed r ≡ becomes from c g r
becomes_left from g r c is = let other : (g == from) ≡ false = grind (arith, nat_tests) in rw other refl

pub loop-host-preserved : goal.loop-host-preserved
loop-host-preserved c =
    let words = c.args.words.now in
    let there : c.loop-host.host < length words = omega arith in
    let nobody : BitSet = record { bits = 0 } in
    let image : IsImage (has_at words c.loop-host.host) (becomes c.from-from.result c.args.change.now c.loop-host.host) (has c.if-host-from.after) = elim c.if-host-from.branch [
      | then-host-from w ↦ subst (λ x. IsImage (has_at words c.loop-host.host) (becomes c.from-from.result c.args.change.now c.loop-host.host) (has x)) (sym w.after-is)
          (same_image _ _ (λ r. unwrap_or c.args.change.now.sender r) (becomes c.from-from.result c.args.change.now c.loop-host.host) (λ r. becomes_sent c.from-from.result c.loop-host.host r c.args.change.now w.if-host-from.true)
          (image_at words c.loop-host.host w.with_given.result nobody (λ r. unwrap_or c.args.change.now.sender r) there w.with_given.ensures))
      | else-host-from w ↦ subst (λ x. IsImage (has_at words c.loop-host.host) (becomes c.from-from.result c.args.change.now c.loop-host.host) (has x)) (sym w.after-is)
          (same_image _ _ (registration_left c.args.change.now.removed) (becomes c.from-from.result c.args.change.now c.loop-host.host) (λ r. becomes_left c.from-from.result c.loop-host.host r c.args.change.now w.if-host-from.false)
          (image_at words c.loop-host.host w.without_removed.result nobody (registration_left c.args.change.now.removed) there w.without_removed.ensures))
    ] in
    record {
      done = more_set (λ g o. IsImage (has_at words g) (becomes c.from-from.result c.args.change.now g) (λ n. option_map_or (λ x. has x n) o false)) c.loop-host.after c.loop-host.host c.loop-host.host
          c.if-host-from.after refl (omega arith) c.loop-host.invariant.done image;
      size = length-set c.loop-host.after c.loop-host.host c.if-host-from.after ∙ c.loop-host.invariant.size;
    }

past_image : (words after : List BitSet) (g : ℕ) (f : ℕ → ℕ) → length words ≤ g → length after ≤ g → IsImage (has_at words g) f (has_at after g)
past_image words after g f beyond also = record {
  all = λ n is. absurd (false≢true (sym (holds_at_past (λ x. has x n) words g beyond) ∙ is));
  only = λ m is. absurd (false≢true (sym (holds_at_past (λ x. has x m) after g also) ∙ is));
}

pub returns : goal.returns
returns c g = at (cases_lt g MOST_NEXUSES)
  where
    at : (g < MOST_NEXUSES) ⊎ (MOST_NEXUSES ≤ g) → IsImage (has_at c.args.words.now g) (becomes c.args.sender c.args.change.now g) (has_at c.loop-host.after g)
    at (inl small) = subst (λ n. IsImage (has_at c.args.words.now g) (becomes n c.args.change.now g) (has_at c.loop-host.after g)) c.from-from.ensures (c.loop-host.invariant.done g (omega arith))
    at (inr beyond) = past_image c.args.words.now c.loop-host.after g (becomes c.args.sender c.args.change.now g) (omega arith) (let e = c.loop-host.invariant.size in omega arith)
