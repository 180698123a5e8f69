-- Where one stands in a table, beside what its script has still to do.
use Rattle.pr_table.proofs.Common.{◌≡◌, ℕ, ◌+◌, ◌<◌, ◌≤◌, List, [], ◌∷◌, ◌++◌, length, drop, true, sym, refl, ap, ◌∙◌, subst, arith, Stmts, Arms, sends, repeats, breaks, stops, none, more, no_arm, arm, again_row, row_count, row_count_of_all, first_row, arm_rows, rows_of, rows_of_all, rows_of_arms, table_rows}
use Rattle.std.proofs.Common.{zero, suc, max, if◌then◌else◌, Bool, false, Some, None, Option, option_map, codes, inl, inr, append_assoc, add-one, length-append}
use Rattle.std.specs.Prelude.{◌⊎◌, option_and_then}
use Rattle.std.specs.List.{slice_get}
use Rattle.pr_cdb.specs.declared.reply.Reply.{Reply}
use Rattle.pr_script.specs.declared.script.Test.{Test}
use Rattle.pr_script.specs.Scripts.{statement, mark, Configuration, before, turn, past_mark, becomes, work, Standing, standing_of_items}
unfoldable use Rattle.pr_script.specs.Scripts.{settled_form}
use Rattle.pr_script.specs.Takes.{matches, first_match, take}
use Rattle.pr_script.proofs.lemmas.Next.Settlement.{settled-becomes, settled-rest, work-turn, work-past_mark}
use Rattle.pr_table.specs.Rows.{TableRow, repeat_row, stop_row, row_at}
use Rattle.pr_table.proofs.lemmas.Rows.Lengths.{length-rows_of, length-rows_of_all}
use Rattle.pr_table.specs.Following.{Whereabouts, turn_to, past_of, again_at, led_by, goes_on, goes_on_often, first_arm, row_after, takes_arm, followed, standing_at_row, standing_at}
use Rattle.pr_table.specs.Laws.{TablesFollowScripts, after_replies}

-- ---- rows that stand in a table

-- from this number on
abbrev HasRows : List TableRow → ℕ → List TableRow → Type 0
HasRows rows at [] = Unit {0}
HasRows rows at (r ∷ rs) = (row_at rows at ≡ Some r) × HasRows rows (at + 1) rs

has_both : (rows : List TableRow) (at : ℕ) (xs ys : List TableRow) → HasRows rows at (xs ++ ys) → HasRows rows at xs × HasRows rows (at + length xs) ys
has_both rows at [] ys has = (tt, subst (λ k. HasRows rows k ys) (let e : at ≡ at + 0 = omega arith in e) has)
has_both rows at (x ∷ xs) ys has =
    let two = has_both rows (at + 1) xs ys has.1 in
    let e : at + 1 + length xs ≡ at + length (x ∷ xs) = omega arith in
    ((has.0, two.0), subst (λ k. HasRows rows k ys) e two.1)

there : (front : List TableRow) (r : TableRow) (rs : List TableRow) → slice_get (front ++ r ∷ rs) (length front) ≡ Some r
there [] r rs = refl
there (f ∷ front) r rs = there front r rs

has_all : (front rs : List TableRow) → HasRows (front ++ rs) (length front + 1) rs
has_all front [] = tt
has_all front (r ∷ rs) =
    let here : row_at (front ++ r ∷ rs) (length front + 1) ≡ Some r = ap (row_at (front ++ r ∷ rs)) (add-one (length front)) ∙ there front r rs in
    let longer : length (front ++ r ∷ []) + 1 ≡ length front + 1 + 1 = omega (arith, length-append front (r ∷ [])) in
    let same : (front ++ r ∷ []) ++ rs ≡ front ++ r ∷ rs = append_assoc front (r ∷ []) rs in
    (here, subst (λ k. HasRows (front ++ r ∷ rs) k rs) longer (subst (λ t. HasRows t (length (front ++ r ∷ []) + 1) rs) same (has_all (front ++ r ∷ []) rs)))

-- ---- beside what is still to do

-- the repeat at this row, whose body is this
record HasRepeat (rows : List TableRow) (at past : ℕ) (b : Stmts) : Type 0 where
  count : ℕ
  row : row_at rows at ≡ Some (repeat_row count past)
  body : HasRows rows (at + 1) (rows_of_all (at + 1) (at + 1 + row_count_of_all b) past b)
  again : row_at rows (at + 1 + row_count_of_all b) ≡ Some (again_row at)

-- At this row, where `past` is the one past the innermost repeat, one has this still to do.
abbrev IsAt : List TableRow → ℕ → ℕ → List ℕ → Configuration → Type 0
IsAt rows at past turns [] = (row_at rows at ≡ Some (stop_row (codes "end"))) × (past ≡ at)
IsAt rows at past turns ((statement s) ∷ l) = (next : ℕ) × HasRows rows at (rows_of at next past s) × IsAt rows next past turns l
IsAt rows at past turns (mark ∷ []) = ⊥
IsAt rows at past turns (mark ∷ mark ∷ l) = ⊥
IsAt rows at past turns (mark ∷ (statement (sends n c a)) ∷ l) = ⊥
IsAt rows at past turns (mark ∷ (statement (repeats left b)) ∷ l) =
    (repeat : ℕ) × (outer : ℕ) × (rest : List ℕ) × (at ≡ repeat + 1 + row_count_of_all b) × (turns ≡ left ∷ rest) × HasRepeat rows repeat past b × IsAt rows past outer rest l
IsAt rows at past turns (mark ∷ (statement breaks) ∷ l) = ⊥
IsAt rows at past turns (mark ∷ (statement (stops w)) ∷ l) = ⊥

-- statements that stand there are to do first
is_before : (rows : List TableRow) (at next past : ℕ) (turns : List ℕ) (b : Stmts) (l : Configuration)
    → HasRows rows at (rows_of_all at next past b) → IsAt rows next past turns l → IsAt rows (first_row at next b) past turns (before b l)
is_before rows at next past turns none l has is = is
is_before rows at next past turns (more s rest) l has is =
    let onto = first_row (at + row_count s) next rest in
    let two = has_both rows at (rows_of at onto past s) (rows_of_all (at + row_count s) next past rest) has in
    let others = subst (λ n. HasRows rows (at + n) (rows_of_all (at + row_count s) next past rest)) (length-rows_of at onto past s) two.1 in
    (onto, two.0, is_before rows (at + row_count s) next past turns rest l others is)

-- past the innermost repeat, which is left
is_left : (rows : List TableRow) (at past : ℕ) (turns : List ℕ) (l : Configuration) → IsAt rows at past turns l → (outer : ℕ) × IsAt rows past outer (drop 1 turns) (past_mark l)
is_left rows at past turns [] is = (past, (subst (λ k. row_at rows k ≡ Some (stop_row (codes "end"))) (sym is.1) is.0, refl))
is_left rows at past turns ((statement s) ∷ l) is = is_left rows is.0 past turns l is.2
is_left rows at past turns (mark ∷ []) is = absurd is
is_left rows at past turns (mark ∷ mark ∷ l) is = absurd is
is_left rows at past turns (mark ∷ (statement (sends n c a)) ∷ l) is = absurd is
is_left rows at past turns (mark ∷ (statement (repeats left b)) ∷ l) is = (is.1, subst (λ o. IsAt rows past is.1 (drop 1 o) l) (sym is.4) is.6)
is_left rows at past turns (mark ∷ (statement breaks) ∷ l) is = absurd is
is_left rows at past turns (mark ∷ (statement (stops w)) ∷ l) is = absurd is

first_of_body : (at : ℕ) (b : Stmts) → first_row (at + 1) (at + 1 + row_count_of_all b) b ≡ at + 1
first_of_body at none = omega arith
first_of_body at (more s rest) = refl

-- where one is after a row that leads on
record IsThere (rows : List TableRow) (p : Whereabouts) (l : Configuration) : Type 0 where
  at : ℕ
  past : ℕ
  turns : List ℕ
  point : p ≡ (at, turns)
  is : IsAt rows at past turns l

-- a repeat goes on
is_turned : (rows : List TableRow) (at past outer : ℕ) (turns : List ℕ) (b : Stmts) (l : Configuration) (left : ℕ)
    → HasRepeat rows at past b → IsAt rows past outer turns l → IsThere rows (turn_to at past left turns) (turn left b l)
is_turned rows at past outer turns b l zero has is = record { at = past; past = outer; turns = turns; point = refl; is = is }
is_turned rows at past outer turns b l (suc left) has is =
    let ends : IsAt rows (at + 1 + row_count_of_all b) past (left ∷ turns) (mark ∷ statement (repeats left b) ∷ l) = (at, outer, turns, refl, refl, has, is) in
    record {
      at = at + 1;
      past = past;
      turns = left ∷ turns;
      point = refl;
      is = subst (λ k. IsAt rows k past (left ∷ turns) (before b (mark ∷ statement (repeats left b) ∷ l))) (first_of_body at b)
          (is_before rows (at + 1) (at + 1 + row_count_of_all b) past (left ∷ turns) b (mark ∷ statement (repeats left b) ∷ l) has.body ends);
    }

-- a repeat that stands there
has_repeat : (rows : List TableRow) (at next past : ℕ) (n : ℕ) (b : Stmts) → HasRows rows at (rows_of at next past (repeats n b)) → HasRepeat rows at next b
has_repeat rows at next past n b has =
    let body = rows_of_all (at + 1) (at + 1 + row_count_of_all b) next b in
    let two = has_both rows (at + 1) body (again_row at ∷ []) has.1 in
    record {
      count = n;
      row = has.0;
      body = two.0;
      again = subst (λ k. row_at rows (at + 1 + k) ≡ Some (again_row at)) (length-rows_of_all (at + 1) (at + 1 + row_count_of_all b) next b) two.1.0;
    }

-- A row leads on, to what settles alike and has less work; or it rests.
record Leads (rows : List TableRow) (at : ℕ) (turns : List ℕ) (l : Configuration) : Type 0 where
  to : Configuration
  there : IsThere rows (goes_on rows (at, turns)) to
  settles : settled_form to ≡ settled_form l
  less : work to < work l

Rests : List TableRow → ℕ → List ℕ → Configuration → Type 0
Rests rows at turns l = (becomes l ≡ l) × (goes_on rows (at, turns) ≡ (at, turns))

goes : (rows : List TableRow) (at past : ℕ) (turns : List ℕ) (l : Configuration) → IsAt rows at past turns l → Rests rows at turns l ⊎ Leads rows at turns l
unfolding Rests
goes rows at past turns [] is = inl (refl, ap (led_by rows at turns) is.0)
goes rows at past turns ((statement (sends n c a)) ∷ l) is = inl (refl, ap (led_by rows at turns) is.1.0)
goes rows at past turns ((statement (stops w)) ∷ l) is = inl (refl, ap (led_by rows at turns) is.1.0)
goes rows at past turns ((statement (repeats n b)) ∷ l) is =
    let has = has_repeat rows at is.0 past n b is.1 in
    let row = ap (led_by rows at turns) is.1.0 in
    inr (record {
      to = turn n b l;
      there = subst (λ p. IsThere rows p (turn n b l)) (sym row) (is_turned rows at is.0 past turns b l n has is.2);
      settles = settled-becomes (statement (repeats n b) ∷ l);
      less = work-turn n b l;
    })
goes rows at past turns ((statement breaks) ∷ l) is =
    let row = ap (led_by rows at turns) is.1.0 in
    let out = is_left rows is.0 past turns l is.2 in
    inr (record {
      to = past_mark l;
      there = subst (λ p. IsThere rows p (past_mark l)) (sym row) (record { at = past; past = out.0; turns = drop 1 turns; point = refl; is = out.1 });
      settles = settled-becomes (statement breaks ∷ l);
      less = omega (arith, work-past_mark l);
    })
goes rows at past turns (mark ∷ []) is = absurd is
goes rows at past turns (mark ∷ mark ∷ l) is = absurd is
goes rows at past turns (mark ∷ (statement (sends n c a)) ∷ l) is = absurd is
goes rows at past turns (mark ∷ (statement breaks) ∷ l) is = absurd is
goes rows at past turns (mark ∷ (statement (stops w)) ∷ l) is = absurd is
goes rows at past turns (mark ∷ (statement (repeats left b)) ∷ l) is =
    let row : row_at rows at ≡ Some (again_row is.0) = ap (row_at rows) is.3 ∙ is.5.again in
    let onward : goes_on rows (at, turns) ≡ turn_to is.0 past left is.2 =
    ap (led_by rows at turns) row ∙ ap (again_at rows is.0) is.4 ∙ ap (λ o. turn_to is.0 (past_of o) left is.2) is.5.row in
    inr (record {
      to = turn left b l;
      there = subst (λ p. IsThere rows p (turn left b l)) (sym onward) (is_turned rows is.0 past is.1 is.2 b l left is.5 is.6);
      settles = settled-becomes (statement (repeats left b) ∷ l) ∙ settled-becomes (mark ∷ statement (repeats left b) ∷ l);
      less = omega (arith, work-turn left b l);
    })

-- who rests stays
stays : (n : ℕ) (rows : List TableRow) (p : Whereabouts) → goes_on rows p ≡ p → goes_on_often n rows p ≡ p
stays zero rows p e = refl
stays (suc n) rows p e = ap (goes_on_often n rows) e ∙ stays n rows p e

-- After enough rows one is where what is still to do has settled.
record Settled (rows : List TableRow) (p : Whereabouts) (l : Configuration) : Type 0 where
  enough : ℕ
  at : ℕ
  past : ℕ
  turns : List ℕ
  is : IsAt rows at past turns (settled_form l)
  comes : (most : ℕ) → enough ≤ most → goes_on_often most rows p ≡ (at, turns)

settled_alike : (rows : List TableRow) (p q : Whereabouts) (l m : Configuration) → goes_on rows p ≡ q → settled_form m ≡ settled_form l → Settled rows q m → Settled rows p l
settled_alike rows p q l m on same was = record {
  enough = suc was.enough;
  at = was.at;
  past = was.past;
  turns = was.turns;
  is = subst (IsAt rows was.at was.past was.turns) same was.is;
  comes = comes;
}
  where
    comes : (most : ℕ) → suc was.enough ≤ most → goes_on_often most rows p ≡ (was.at, was.turns)
    comes zero h = absurd (omega arith)
    comes (suc most) h = ap (goes_on_often most rows) on ∙ was.comes most (omega arith)

settles_within : (n : ℕ) (rows : List TableRow) (at past : ℕ) (turns : List ℕ) (l : Configuration) → work l ≤ n → IsAt rows at past turns l → Settled rows (at, turns) l
unfolding Rests
settles_within zero rows at past turns l h is = elim (goes rows at past turns l is) [
  | inl rest ↦ record {
    enough = 0;
    at = at;
    past = past;
    turns = turns;
    is = subst (IsAt rows at past turns) (sym (settled-rest l rest.0)) is;
    comes = λ most k. stays most rows (at, turns) rest.1;
  }
  | inr leads ↦ absurd (omega (arith, leads.less))
]
settles_within (suc n) rows at past turns l h is = elim (goes rows at past turns l is) [
  | inl rest ↦ record {
    enough = 0;
    at = at;
    past = past;
    turns = turns;
    is = subst (IsAt rows at past turns) (sym (settled-rest l rest.0)) is;
    comes = λ most k. stays most rows (at, turns) rest.1;
  }
  | inr leads ↦ let there = leads.there in
      settled_alike rows (at, turns) (there.at, there.turns) l leads.to there.point leads.settles
      (settles_within n rows there.at there.past there.turns leads.to (omega (arith, leads.less)) there.is)
]

-- both say the same
same_standing : (rows : List TableRow) (at past : ℕ) (turns : List ℕ) (l : Configuration) → IsAt rows at past turns l → standing_at rows (at, turns) ≡ standing_of_items l
same_standing rows at past turns [] is = ap standing_at_row is.0
same_standing rows at past turns ((statement (sends n c a)) ∷ l) is = ap standing_at_row is.1.0
same_standing rows at past turns ((statement (repeats n b)) ∷ l) is = ap standing_at_row is.1.0
same_standing rows at past turns ((statement breaks) ∷ l) is = ap standing_at_row is.1.0
same_standing rows at past turns ((statement (stops w)) ∷ l) is = ap standing_at_row is.1.0
same_standing rows at past turns (mark ∷ []) is = absurd is
same_standing rows at past turns (mark ∷ mark ∷ l) is = absurd is
same_standing rows at past turns (mark ∷ (statement (sends n c a)) ∷ l) is = absurd is
same_standing rows at past turns (mark ∷ (statement (repeats left b)) ∷ l) is = ap standing_at_row (ap (row_at rows) is.3 ∙ is.5.again)
same_standing rows at past turns (mark ∷ (statement breaks) ∷ l) is = absurd is
same_standing rows at past turns (mark ∷ (statement (stops w)) ∷ l) is = absurd is

-- ---- replies

-- Both are trapped, or both go on, and what is to do before it settles is known.
data Taken (rows : List TableRow) (q : Option Whereabouts) (m : Option Configuration) : Type 0 where
  trapped : q ≡ None → m ≡ None → Taken rows q m
  went : (at past : ℕ) (turns : List ℕ) (l : Configuration) → q ≡ Some (at, turns) → m ≡ Some (settled_form l) → IsAt rows at past turns l → Taken rows q m

abbrev stood : List ℕ → Option ℕ → Option Whereabouts
stood turns o = option_map (λ row. (row, turns)) o

abbrev settled : Configuration → Option Stmts → Option Configuration
settled l o = option_map (λ body. settled_form (before body l)) o

abbrev row_if : Option ℕ → ℕ → Bool → Option ℕ
row_if other row b = if b then Some row else other

abbrev body_if : Option Stmts → Stmts → Bool → Option Stmts
body_if other body b = if b then Some body else other

-- the first arm matches, or one behind it
chosen : (rows : List TableRow) (at next past : ℕ) (turns : List ℕ) (test : Test) (body : Stmts) (rest : Arms) (l : Configuration) (reply : Reply)
    → IsAt rows (first_row at next body) past turns (before body l)
    → Taken rows (stood turns (first_arm (arm_rows (at + row_count_of_all body) next rest) reply)) (settled l (first_match rest reply))
    → (b : Bool) → matches test reply ≡ b
    → Taken rows (stood turns (first_arm (arm_rows at next (arm test body rest)) reply)) (settled l (first_match (arm test body rest) reply))
chosen rows at next past turns test body rest l reply is later true e =
    went (first_row at next body) past turns (before body l)
    (ap (λ b. stood turns (row_if (first_arm (arm_rows (at + row_count_of_all body) next rest) reply) (first_row at next body) b)) e)
    (ap (λ b. settled l (body_if (first_match rest reply) body b)) e)
    is
chosen rows at next past turns test body rest l reply is later false e =
    let row = ap (λ b. stood turns (row_if (first_arm (arm_rows (at + row_count_of_all body) next rest) reply) (first_row at next body) b)) e in
    let to = ap (λ b. settled l (body_if (first_match rest reply) body b)) e in
    elim later [
      | trapped nowhere never ↦ trapped (row ∙ nowhere) (to ∙ never)
      | went at2 past2 turns2 m leads some stands ↦ went at2 past2 turns2 m (row ∙ leads) (to ∙ some) stands
    ]

takes_first : (rows : List TableRow) (at next past : ℕ) (turns : List ℕ) (a : Arms) (l : Configuration) (reply : Reply)
    → HasRows rows at (rows_of_arms at next past a) → IsAt rows next past turns l
    → Taken rows (stood turns (first_arm (arm_rows at next a) reply)) (settled l (first_match a reply))
takes_first rows at next past turns no_arm l reply has is = trapped refl refl
takes_first rows at next past turns (arm test body rest) l reply has is =
    let bodies = rows_of_all at next past body in
    let others = rows_of_arms (at + row_count_of_all body) next past rest in
    let two = has_both rows at bodies others has in
    let behind = subst (λ n. HasRows rows (at + n) others) (length-rows_of_all at next past body) two.1 in
    chosen rows at next past turns test body rest l reply (is_before rows at next past turns body l two.0 is)
    (takes_first rows (at + row_count_of_all body) next past turns rest l reply behind is) (matches test reply) refl

trapped_at : (rows : List TableRow) (at : ℕ) (turns : List ℕ) (l : Configuration) (reply : Reply) (row : TableRow) → row_at rows at ≡ Some row → row_after (Some row) reply ≡ None → take l reply ≡ None
    → Taken rows (takes_arm rows (at, turns) reply) (take l reply)
trapped_at rows at turns l reply row here nowhere never = trapped (ap (λ o. stood turns (row_after o reply)) here ∙ ap (stood turns) nowhere) never

takes : (rows : List TableRow) (at past : ℕ) (turns : List ℕ) (l : Configuration) (reply : Reply) → IsAt rows at past turns l → Taken rows (takes_arm rows (at, turns) reply) (take l reply)
takes rows at past turns [] reply is = trapped_at rows at turns [] reply (stop_row (codes "end")) is.0 refl refl
takes rows at past turns ((statement (sends n c a)) ∷ l) reply is =
    subst (λ q. Taken rows q (settled l (first_match a reply))) (sym (ap (λ o. stood turns (row_after o reply)) is.1.0))
    (takes_first rows (at + 1) is.0 past turns a l reply is.1.1 is.2)
takes rows at past turns ((statement (repeats n b)) ∷ l) reply is = trapped_at rows at turns (statement (repeats n b) ∷ l) reply _ is.1.0 refl refl
takes rows at past turns ((statement breaks) ∷ l) reply is = trapped_at rows at turns (statement breaks ∷ l) reply _ is.1.0 refl refl
takes rows at past turns ((statement (stops w)) ∷ l) reply is = trapped_at rows at turns (statement (stops w) ∷ l) reply _ is.1.0 refl refl
takes rows at past turns (mark ∷ []) reply is = absurd is
takes rows at past turns (mark ∷ mark ∷ l) reply is = absurd is
takes rows at past turns (mark ∷ (statement (sends n c a)) ∷ l) reply is = absurd is
takes rows at past turns (mark ∷ (statement (repeats left b)) ∷ l) reply is =
    trapped_at rows at turns (mark ∷ statement (repeats left b) ∷ l) reply (again_row is.0) (ap (row_at rows) is.3 ∙ is.5.again) refl refl
takes rows at past turns (mark ∷ (statement breaks) ∷ l) reply is = absurd is
takes rows at past turns (mark ∷ (statement (stops w)) ∷ l) reply is = absurd is

-- ---- the whole

abbrev said : List TableRow → Option Whereabouts → Option (Option Standing)
said rows q = option_map (standing_at rows) q

abbrev then_said : List TableRow → List Reply → ℕ → Option Whereabouts → Option (Option Standing)
then_said rows replies most q = said rows (option_and_then (followed most rows replies) q)

abbrev then_told : List Reply → Option Configuration → Option (Option Standing)
then_told replies m = option_map standing_of_items (option_and_then (after_replies replies) m)

Follows : List TableRow → List Reply → Whereabouts → Option Configuration → Type 0
Follows rows replies p m = (enough : ℕ) × ((most : ℕ) → enough ≤ most → said rows (followed most rows replies p) ≡ option_map standing_of_items m)

-- with a reply more
on_reply : (rows : List TableRow) (reply : Reply) (replies : List Reply) (p : Whereabouts) (l : Configuration) (come : Settled rows p l)
    → ((at past : ℕ) (turns : List ℕ) (m : Configuration) → IsAt rows at past turns m → Follows rows replies (at, turns) (after_replies replies (settled_form m)))
    → Taken rows (takes_arm rows (come.at, come.turns) reply) (take (settled_form l) reply)
    → Follows rows (reply ∷ replies) p (after_replies (reply ∷ replies) (settled_form l))
unfolding Follows
on_reply rows reply replies p l come others (trapped nowhere never) =
    (come.enough, λ most h. ap (λ q. then_said rows replies most (takes_arm rows q reply)) (come.comes most h) ∙ ap (then_said rows replies most) nowhere ∙ sym (ap (then_told replies) never))
on_reply rows reply replies p l come others (went at past turns m leads some stands) =
    let rest = others at past turns m stands in (
      max come.enough rest.0,
      λ most h.
          ap (λ q. then_said rows replies most (takes_arm rows q reply)) (come.comes most (omega (arith, h))) ∙ ap (then_said rows replies most) leads
          ∙ rest.1 most (omega (arith, h)) ∙ sym (ap (then_told replies) some),
    )

follows : (rows : List TableRow) (replies : List Reply) (at past : ℕ) (turns : List ℕ) (l : Configuration) → IsAt rows at past turns l
    → Follows rows replies (at, turns) (after_replies replies (settled_form l))
unfolding Follows
follows rows [] at past turns l is =
    let come = settles_within (work l) rows at past turns l (omega arith) is in
    (come.enough, λ most h. ap (λ q. Some (standing_at rows q)) (come.comes most h) ∙ ap Some (same_standing rows come.at come.past come.turns (settled_form l) come.is))
follows rows (reply ∷ replies) at past turns l is =
    let come = settles_within (work l) rows at past turns l (omega arith) is in
    on_reply rows reply replies (at, turns) l come (follows rows replies) (takes rows come.at come.past come.turns (settled_form l) reply come.is)

pub tables_follow_scripts : TablesFollowScripts
unfolding Follows
tables_follow_scripts b replies =
    let ending = 1 + row_count_of_all b in
    let rows = table_rows b in
    let all : HasRows rows 1 rows = has_all [] rows in
    let two = has_both rows 1 (rows_of_all 1 ending ending b) (stop_row (codes "end") ∷ []) all in
    let last : row_at rows ending ≡ Some (stop_row (codes "end")) = subst (λ n. row_at rows (1 + n) ≡ Some (stop_row (codes "end"))) (length-rows_of_all 1 ending ending b) two.1.0 in
    let ends : IsAt rows ending ending [] [] = (last, refl) in
    let starts = is_before rows 1 ending ending [] b [] two.0 ends in
    let first : first_row 1 ending b ≡ 1 = first_of_script b in
    follows rows replies 1 ending [] (before b []) (subst (λ k. IsAt rows k ending [] (before b [])) first starts)
  where
    first_of_script : (b : Stmts) → first_row 1 (1 + row_count_of_all b) b ≡ 1
    first_of_script none = refl
    first_of_script (more s rest) = refl
