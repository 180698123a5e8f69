-- One word more, and then all.
use Rattle.pr_commands.proofs.Common.{ℕ, List, ap, subst, Appends, FallsShort, flat_map, map, puts_err, wrote_all, wrote_front, wrote_more, drop, ◌++◌, codes}
use Rattle.std.proofs.Common.{drop_of_length-le}
use Rattle.pr_commands.proofs.lemmas.Never.Words.{texts_from}
use Rattle.pr_commands.proofs.never_text.put_words.Goals as goal

pub returns-in_err-put_word : goal.returns-in_err-put_word
returns-in_err-put_word g c =
    let f : List ℕ → List ℕ = λ word. word ++ codes " " in
    let here = texts_from f c.args.words.now c.loop-word.word-index _ c.loop-word-test.true in
    let short = subst (λ (x : List ℕ). FallsShort (g.W.Write.contents c.loop-word.writer) (g.W.Write.contents c.put_word.new.writer) (f x)) c.as_bytes.ensures.value c.in_err-put_word.ensures in
    puts_err _ _ _ _ (wrote_front _ _ _ _ _ _ (rw here at c.loop-word.invariant) short) c.from_residual.ensures.0

pub loop-word-preserved : goal.loop-word-preserved
loop-word-preserved g c =
    let f : List ℕ → List ℕ = λ word. word ++ codes " " in
    let here = texts_from f c.args.words.now c.loop-word.word-index _ c.loop-word-test.true in
    let done = subst (λ (x : List ℕ). Appends (g.W.Write.contents c.loop-word.writer) (g.W.Write.contents c.put_word.new.writer) (f x)) c.as_bytes.ensures.value c.in_ok-put_word.ensures in
    wrote_more _ _ _ _ _ _ (rw here at c.loop-word.invariant) done

pub returns : goal.returns
returns g c =
    let f : List ℕ → List ℕ = λ word. word ++ codes " " in
    let none = ap (λ xs. flat_map f (map (λ w. w.now) xs)) (drop_of_length-le c.args.words.now {i = c.loop-word.word-index} c.loop-word-test.false) in
    wrote_all _ _ _ (rw none at c.loop-word.invariant)
