-- One word more, if by itself it is never so.
use Rattle.pr_commands.proofs.Common.{ℕ, List, [], ◌∷◌, sym, subst, map, All, scenario_of}
use Rattle.std.specs.Borrow.{Bor}
use Rattle.std.specs.Prelude.{Contains, Vec}
use Rattle.std.specs.declared.alloc.Global.{Global}
use Rattle.std.proofs.lemmas.List.{map_push}
use Rattle.std.proofs.lemmas.List.Elements.{All-push}
use Rattle.pr_commands.specs.Never.{IsNeverAsked}
use Rattle.pr_commands.specs.Steps.{texts_of}
use Rattle.pr_commands.proofs.lemmas.Never.Words.{text_there}
use Rattle.pr_commands.proofs.never.unmet_of.Goals as goal
use Rattle.pr_commands.proofs.never.unmet_of.Goals.{then-branch+in_ok-push, else-branch}

pub loop-word-preserved : goal.loop-word-preserved
loop-word-preserved c =
    let P : List ℕ → Type 0 = λ word. Contains (texts_of c.args.words.now) word × IsNeverAsked (scenario_of c.args.scenario.now) (word ∷ []) in
    elim c.if-branch.branch [
      | then-branch+in_ok-push w ↦
          subst (λ (v : Vec (Bor (List ℕ)) Global). All P (texts_of v.items)) (sym w.unmet-is)
          (subst (λ (xs : List (Bor (List ℕ))). All P (texts_of xs)) (sym w.in_ok-push.ensures.items)
          (subst (All P) (sym (map_push (λ (v : Bor (List ℕ)). v.now) c.loop-word.unmet.items _))
          (All-push P (texts_of c.loop-word.unmet.items) _ c.loop-word.invariant
          (text_there c.args.words.now c.loop-word.word-index _ c.loop-word-test.true, c.in_ok-is_never.ensures w.if-branch.true))))
      | else-branch w ↦ subst (λ (v : Vec (Bor (List ℕ)) Global). All P (texts_of v.items)) (sym w.unmet-is) c.loop-word.invariant
    ]
