use Rattle.pr_output.proofs.Common.{◌≡◌, ℕ, ◌+◌, ◌<◌, ◌≤◌, List, [], ◌∷◌, ◌++◌, map, length, get_or, drop, refl, add-one, drop_of_length-le, drop-cons, printed_word, joined_by_spaces}
use Rattle.pr_output.specs.declared.printing.Token.{Token}
use Rattle.pr_output.proofs.lemmas.Written.Fronts.{puts_err, wrote_all, wrote_front, wrote_more}
use Rattle.pr_output.proofs.printing.put_spaced.Goals as goal

spaced_from : (words : List Token) (i : ℕ) (d : Token) → i < length words → joined_by_spaces (map printed_word (drop i words)) ≡ (32 ∷ printed_word (get_or words i d)) ++ joined_by_spaces (map printed_word (drop (i + 1) words))
unfolding joined_by_spaces
spaced_from words i d h = rw (add-one, drop-cons words i d) refl

spaced_end : (words : List Token) (i : ℕ) → length words ≤ i → joined_by_spaces (map printed_word (drop i words)) ≡ []
unfolding joined_by_spaces
spaced_end words i h = rw (drop_of_length-le words {i = i} h) refl

pub returns-in_err-put_after_space : goal.returns-in_err-put_after_space
returns-in_err-put_after_space g c =
    let here = spaced_from c.args.words.now c.loop-word.word-index _ c.loop-word-test.true in
    puts_err _ _ _ _ (wrote_front _ _ _ _ _ _ (rw here at c.loop-word.invariant) c.in_err-put_after_space.ensures) c.from_residual.ensures.0

pub loop-word-preserved : goal.loop-word-preserved
loop-word-preserved g c =
    let here = spaced_from c.args.words.now c.loop-word.word-index _ c.loop-word-test.true in
    wrote_more _ _ _ _ _ _ (rw here at c.loop-word.invariant) c.in_ok-put_after_space.ensures

pub returns : goal.returns
returns g c = wrote_all _ _ _ (rw (spaced_end c.args.words.now c.loop-word.word-index c.loop-word-test.false) at c.loop-word.invariant)
