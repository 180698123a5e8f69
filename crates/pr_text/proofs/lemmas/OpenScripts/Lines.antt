-- The lines and blocks of a script that is open.
use Rattle.pr_text.proofs.Common.{◌≡◌, ℕ, suc, ◌+◌, Bool, true, false, cond, not, List, [], ◌∷◌, ◌++◌, length, ◌==◌, Some, None, fold, count_by, Option, Vec, Global, sym, refl, ap, ◌∙◌, append_assoc, append-nil, zero-add, arith, nat_tests, Command, OpenBlock, ScriptLine, arm_on, block_done, statement_lines, body_lines, arms_lines, send_at, repeat_of, is_repeating, is_sending, awaits_arm}
use Rattle.std.specs.List.{flat_map}
use Rattle.std.proofs.lemmas.List.Concat.{flat_map-append}
use Rattle.std.proofs.lemmas.List.Sums.{fold-append}
use Rattle.pr_script.specs.declared.script.Script.{Script}
use Rattle.pr_script.specs.declared.script.Statement.{Statement}
use Rattle.pr_script.specs.declared.script.Statement.TheVariants.{Send, Repeat}
use Rattle.pr_script.specs.declared.script.Arm.{Arm}
use Rattle.pr_script.specs.Trees.{statement_of, statements_in}
use Rattle.pr_script.specs.inside.ArmLists.{arms_in}
use Rattle.pr_script.proofs.lemmas.Trees.Equations.{tree_repeat, tree_send}
use Rattle.pr_text.specs.declared.open_script.SendWithoutArm.{SendWithoutArm}
use Rattle.pr_text.specs.declared.open_script.OpenBody.{OpenBody}
use Rattle.pr_text.specs.declared.open_script.BlockHead.{BlockHead}
use Rattle.pr_text.specs.declared.open_script.BlockHead.TheVariants as opener
use Rattle.pr_text.specs.inside.OpenScripts.{with_armless, armless_lines, lines_in, arm_lines, opener_lines, frame_lines, block_of, block_by, blocks_in}
use Rattle.pr_text.proofs.lemmas.Sound.Trees.{count-cons}

-- ---- what statements are written as

pub body_lines_in : (ss : List Statement) → body_lines (statements_in ss) ≡ lines_in ss
body_lines_in [] = refl
body_lines_in (s ∷ ss) = ap (λ ls. statement_lines (statement_of s) ++ ls) (body_lines_in ss)

pub arms_lines_in : (arms : List Arm) → arms_lines (arms_in arms) ≡ flat_map arm_lines arms
arms_lines_in [] = refl
arms_lines_in (a ∷ arms) =
    ap (λ ls. arm_on a.test ∷ (ls ++ arms_lines (arms_in arms))) (body_lines_in a.body.statements.items)
    ∙ ap (λ ls. arm_on a.test ∷ (lines_in a.body.statements.items ++ ls)) (arms_lines_in arms)

pub closed_repeat : (count : ℕ) (body : Script) → statement_lines (statement_of (Repeat count body)) ≡ repeat_of count ∷ (lines_in body.statements.items ++ block_done ∷ [])
closed_repeat count body =
    ap statement_lines (tree_repeat count body) ∙ ap (λ ls. repeat_of count ∷ (ls ++ block_done ∷ [])) (body_lines_in body.statements.items)

send_lines : (line : ℕ) (command : Command) (arms : Vec Arm Global) → statement_lines (statement_of (Send line command arms)) ≡ send_at line command ∷ (flat_map arm_lines arms.items ++ block_done ∷ [])
send_lines line command arms =
    ap statement_lines (tree_send line command arms) ∙ ap (λ ls. send_at line command ∷ (ls ++ block_done ∷ [])) (arms_lines_in arms.items)

pub closed_send : (line : ℕ) (command : Command) (arms : Vec Arm Global) (before : List Arm) (a : Arm) → arms.items ≡ before ++ a ∷ []
    → statement_lines (statement_of (Send line command arms))
    ≡ (send_at line command ∷ (flat_map arm_lines before ++ arm_on a.test ∷ [])) ++ (lines_in a.body.statements.items ++ block_done ∷ [])
closed_send line command arms before a e =
    send_lines line command arms ∙ ap (λ ls. send_at line command ∷ ls) (
    ap (λ xs. flat_map arm_lines xs ++ block_done ∷ []) e
    ∙ ap (λ ls. ls ++ block_done ∷ []) (flat_map-append arm_lines before (a ∷ []))
    ∙ simp (append_assoc, append-nil))

-- ---- the steps

pub more_blocks : (outer : List OpenBody) (f : OpenBody) → blocks_in (outer ++ f ∷ []) ≡ block_of f ∷ blocks_in outer
more_blocks outer f = fold-append (λ blocks g. block_of g ∷ blocks) [] outer (f ∷ [])

pub more_lines : (outer : List OpenBody) (f : OpenBody) → (flat_map frame_lines (outer ++ f ∷ []) ++ []) ++ [] ≡ ((flat_map frame_lines outer ++ lines_in f.body.items) ++ []) ++ opener_lines f.opener
more_lines outer f = rw (flat_map-append frame_lines outer (f ∷ [])) (simp (append_assoc, append-nil))

pub first_arm : (xs : List ScriptLine) (x y : ScriptLine) → (xs ++ []) ++ (x ∷ y ∷ []) ≡ (xs ++ x ∷ []) ++ y ∷ []
first_arm xs x y = simp (append_assoc, append-nil)

pub armless_closes : (xs : List ScriptLine) (body : List Statement) (line : ℕ) (command : Command) (arms : Vec Arm Global) → arms.items ≡ []
    → (xs ++ lines_in (body ++ Send line command arms ∷ [])) ++ [] ≡ ((xs ++ lines_in body) ++ send_at line command ∷ []) ++ block_done ∷ []
armless_closes xs body line command arms e =
    let whole : statement_lines (statement_of (Send line command arms)) ≡ send_at line command ∷ block_done ∷ [] =
    send_lines line command arms ∙ ap (λ xs. send_at line command ∷ (flat_map arm_lines xs ++ block_done ∷ [])) e in
    let more : lines_in (body ++ Send line command arms ∷ []) ≡ lines_in body ++ (send_at line command ∷ block_done ∷ []) =
    flat_map-append (λ s. statement_lines (statement_of s)) body (Send line command arms ∷ []) ∙ ap (λ ls. lines_in body ++ (ls ++ [])) whole in
    ap (λ ls. (xs ++ ls) ++ []) more ∙ simp (append_assoc, append-nil)

joined : (a b c d : List ScriptLine) → (a ++ (b ++ (c ++ (d ++ block_done ∷ [])))) ++ [] ≡ (((a ++ (b ++ c)) ++ d) ++ []) ++ block_done ∷ []
joined a b c d = simp (append_assoc, append-nil)

pub closes : (outer : List OpenBody) (f : OpenBody) (body : List Statement) (s : Statement)
    → statement_lines (statement_of s) ≡ opener_lines f.opener ++ (lines_in body ++ block_done ∷ [])
    → (flat_map frame_lines outer ++ lines_in (f.body.items ++ s ∷ [])) ++ [] ≡ ((flat_map frame_lines (outer ++ f ∷ []) ++ lines_in body) ++ []) ++ block_done ∷ []
closes outer f body s e =
    let more : lines_in (f.body.items ++ s ∷ []) ≡ lines_in f.body.items ++ (opener_lines f.opener ++ (lines_in body ++ block_done ∷ [])) =
    flat_map-append (λ t. statement_lines (statement_of t)) f.body.items (s ∷ []) ∙ (ap (λ ls. lines_in f.body.items ++ (ls ++ [])) e ∙ simp append-nil) in
    let whole : flat_map frame_lines (outer ++ f ∷ []) ≡ flat_map frame_lines outer ++ (lines_in f.body.items ++ opener_lines f.opener) =
    flat_map-append frame_lines outer (f ∷ []) ∙ simp append-nil in
    ap (λ ls. (flat_map frame_lines outer ++ ls) ++ []) more
    ∙ (joined (flat_map frame_lines outer) (lines_in f.body.items) (opener_lines f.opener) (lines_in body) ∙ ap (λ ls. ((ls ++ lines_in body) ++ []) ++ block_done ∷ []) (sym whole))

-- ---- how many blocks are open

blocks_from : (p : OpenBlock → Bool) (acc : List OpenBlock) (frames : List OpenBody) → count_by p (fold (λ blocks f. block_of f ∷ blocks) acc frames) ≡ count_by p acc + count_by (λ f. p (block_of f)) frames
blocks_from p acc [] = omega arith
blocks_from p acc (f ∷ frames) =
    omega (arith, blocks_from p (block_of f ∷ acc) frames, count-cons p (block_of f) acc, count-cons (λ g. p (block_of g)) f frames)

pub count_repeats : (frames : List OpenBody) → count_by is_repeating (blocks_in frames) ≡ count_by (λ f. is_repeating (block_of f)) frames
count_repeats frames = blocks_from is_repeating [] frames ∙ zero-add (count_by (λ f. is_repeating (block_of f)) frames)

by_opener : (o : BlockHead) → is_sending (block_by o) ≡ not (is_repeating (block_by o))
by_opener (opener.Repeat line count) = refl
by_opener (opener.Arm line command arms test) = refl

sending_not : (f : OpenBody) → is_sending (block_of f) ≡ not (is_repeating (block_of f))
sending_not f = by_opener f.opener

sends_counted : (frames : List OpenBody) → count_by (λ f. is_sending (block_of f)) frames ≡ count_by (λ f. not (is_repeating (block_of f))) frames
sends_counted [] = refl
sends_counted (f ∷ frames) =
    let e : ◌≡◌ {A = ℕ} (cond (is_sending (block_of f)) 1 0) (cond (not (is_repeating (block_of f))) 1 0) = ap (λ b. cond b 1 0) (sending_not f) in
    omega (arith, e, sends_counted frames, count-cons (λ g. is_sending (block_of g)) f frames, count-cons (λ g. not (is_repeating (block_of g))) f frames)

pub count_sends : (frames : List OpenBody) → count_by is_sending (blocks_in frames) ≡ count_by (λ f. not (is_repeating (block_of f))) frames
count_sends frames = blocks_from is_sending [] frames ∙ (zero-add (count_by (λ f. is_sending (block_of f)) frames) ∙ sends_counted frames)

-- ---- what the blocks say

armed_by : (o : BlockHead) (bs : List OpenBlock) → awaits_arm (block_by o ∷ bs) ≡ false
armed_by (opener.Repeat line count) bs = refl
armed_by (opener.Arm line command arms test) bs = some_arm (length arms.items)
  where
    some_arm : (n : ℕ) → (n + 1 == 0) ≡ false
    some_arm n = grind (arith, nat_tests)

armed_from : (acc : List OpenBlock) (frames : List OpenBody) → awaits_arm acc ≡ false → awaits_arm (fold (λ blocks f. block_of f ∷ blocks) acc frames) ≡ false
armed_from acc [] h = h
armed_from acc (f ∷ frames) h = armed_from (block_of f ∷ acc) frames (armed_by f.opener acc)

-- no open body is a send without arms
pub armed : (frames : List OpenBody) → awaits_arm (blocks_in frames) ≡ false
armed frames = armed_from [] frames refl

length_from : (acc : List OpenBlock) (frames : List OpenBody) → length (fold (λ blocks f. block_of f ∷ blocks) acc frames) ≡ length acc + length frames
length_from acc [] = omega arith
length_from acc (f ∷ frames) = omega (arith, length_from (block_of f ∷ acc) frames)

pub length_blocks : (frames : List OpenBody) → length (blocks_in frames) ≡ length frames
length_blocks frames = length_from [] frames ∙ zero-add (length frames)

-- ---- the end

not_closed : (n m : ℕ) → n ≡ suc m → (n == 0) ≡ true → ⊥
not_closed n m e closed = grind (arith, nat_tests)

-- where no block is open, the lines are those of the statements
pub closed_lines : (armless : Option SendWithoutArm) (outer : List OpenBody) (body : List Statement) → (length (with_armless armless (blocks_in outer)) == 0) ≡ true
    → (flat_map frame_lines outer ++ lines_in body) ++ armless_lines armless ≡ body_lines (statements_in body)
closed_lines (Some a) outer body closed = grind (arith, nat_tests)
closed_lines None [] body closed = append-nil (lines_in body) ∙ sym (body_lines_in body)
closed_lines None (f ∷ outer) body closed =
    absurd (not_closed (length (blocks_in (f ∷ outer))) (length outer) (length_blocks (f ∷ outer)) closed)
