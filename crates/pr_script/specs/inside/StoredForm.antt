-- What is still to do as lists of tokens, whose type does not hold itself.
use Rattle.std.specs.Prelude.{◌≡◌, ℕ, List, [], ◌∷◌, refl}
use Rattle.std.specs.Coded.{Coded, code_by, coded_list}
use Rattle.std.proofs.Common.{◌∙◌, ap}
use Rattle.pr_cdb.specs.declared.command.Command.{Command}
use Rattle.pr_script.specs.declared.script.Test.{Test}
use Rattle.pr_script.specs.Programs.{Places}
use Rattle.pr_script.specs.Scripts.{Stmt, Stmts, Arms, sends, repeats, breaks, stops, none, more, no_arm, arm, Item, statement, mark, Configuration}

-- Each token makes one part of those that were made last.
pub data Token : Type 0 where
  make_sends : ℕ → Command → Token
  make_repeats : ℕ → Token
  make_breaks : Token
  make_stops : List ℕ → Token
  make_none : Token
  make_more : Token
  make_no_arm : Token
  make_arm : Test → Token

pub data Part : Type 0 where
  a_stmt : Stmt → Part
  the_stmts : Stmts → Part
  the_arms : Arms → Part

abbrev pub parts_with : Token → List Part → List Part
parts_with (make_sends n c) ((the_arms a) ∷ ps) = a_stmt (sends n c a) ∷ ps
parts_with (make_repeats n) ((the_stmts b) ∷ ps) = a_stmt (repeats n b) ∷ ps
parts_with make_breaks ps = a_stmt breaks ∷ ps
parts_with (make_stops w) ps = a_stmt (stops w) ∷ ps
parts_with make_none ps = the_stmts none ∷ ps
parts_with make_more ((the_stmts ss) ∷ (a_stmt s) ∷ ps) = the_stmts (more s ss) ∷ ps
parts_with make_no_arm ps = the_arms no_arm ∷ ps
parts_with (make_arm t) ((the_arms a) ∷ (the_stmts b) ∷ ps) = the_arms (arm t b a) ∷ ps
parts_with _ ps = ps

abbrev pub made_of_all : List Token → List Part → List Part
made_of_all [] ps = ps
made_of_all (t ∷ ts) ps = made_of_all ts (parts_with t ps)

-- the tokens of a part, before those that follow
abbrev mutual
  pub tokens_of : Stmt → List Token → List Token
  tokens_of (sends n c a) ts = tokens_of_arms a (make_sends n c ∷ ts)
  tokens_of (repeats n b) ts = tokens_of_all b (make_repeats n ∷ ts)
  tokens_of breaks ts = make_breaks ∷ ts
  tokens_of (stops w) ts = make_stops w ∷ ts

  pub tokens_of_all : Stmts → List Token → List Token
  tokens_of_all none ts = make_none ∷ ts
  tokens_of_all (more s ss) ts = tokens_of s (tokens_of_all ss (make_more ∷ ts))

  pub tokens_of_arms : Arms → List Token → List Token
  tokens_of_arms no_arm ts = make_no_arm ∷ ts
  tokens_of_arms (arm t b rest) ts = tokens_of_all b (tokens_of_arms rest (make_arm t ∷ ts))

mutual
  made-tokens_of : (s : Stmt) (ts : List Token) (ps : List Part) → made_of_all (tokens_of s ts) ps ≡ made_of_all ts (a_stmt s ∷ ps)
  made-tokens_of (sends n c a) ts ps = made-tokens_of_arms a (make_sends n c ∷ ts) ps
  made-tokens_of (repeats n b) ts ps = made-tokens_of_all b (make_repeats n ∷ ts) ps
  made-tokens_of breaks ts ps = refl
  made-tokens_of (stops w) ts ps = refl

  made-tokens_of_all : (b : Stmts) (ts : List Token) (ps : List Part) → made_of_all (tokens_of_all b ts) ps ≡ made_of_all ts (the_stmts b ∷ ps)
  made-tokens_of_all none ts ps = refl
  made-tokens_of_all (more s ss) ts ps =
      made-tokens_of s (tokens_of_all ss (make_more ∷ ts)) ps ∙ made-tokens_of_all ss (make_more ∷ ts) (a_stmt s ∷ ps)

  made-tokens_of_arms : (a : Arms) (ts : List Token) (ps : List Part) → made_of_all (tokens_of_arms a ts) ps ≡ made_of_all ts (the_arms a ∷ ps)
  made-tokens_of_arms no_arm ts ps = refl
  made-tokens_of_arms (arm t b rest) ts ps =
      made-tokens_of_all b (tokens_of_arms rest (make_arm t ∷ ts)) ps ∙ made-tokens_of_arms rest (make_arm t ∷ ts) (the_stmts b ∷ ps)

-- the tokens of an item: a mark has none
abbrev pub tokens_of_item : Item → List Token
tokens_of_item (statement s) = tokens_of s []
tokens_of_item mark = []

abbrev pub item_of_parts : List Part → Item
item_of_parts ((a_stmt s) ∷ ps) = statement s
item_of_parts _ = mark

abbrev pub item_of : List Token → Item
item_of ts = item_of_parts (made_of_all ts [])

pub item_of-tokens : (i : Item) → item_of (tokens_of_item i) ≡ i
item_of-tokens (statement s) = ap item_of_parts (made-tokens_of s [] [])
item_of-tokens mark = refl

-- what is still to do is stored as the tokens of its items
abbrev pub configuration_code : Coded Token → Coded Configuration
configuration_code code = coded_list (code_by (List Token) (coded_list code) tokens_of_item item_of item_of-tokens)

-- ---- lists of statements

abbrev pub stmts_of_parts : List Part → Stmts
stmts_of_parts ((the_stmts b) ∷ ps) = b
stmts_of_parts _ = none

abbrev pub stmts_of : List Token → Stmts
stmts_of ts = stmts_of_parts (made_of_all ts [])

pub stmts_of-tokens : (b : Stmts) → stmts_of (tokens_of_all b []) ≡ b
stmts_of-tokens b = ap stmts_of_parts (made-tokens_of_all b [] [])

-- what is to do from each place of a program on is stored as the tokens of its statements
abbrev pub places_code : Coded Token → Coded Places
places_code code = coded_list (code_by (List Token) (coded_list code) (λ b. tokens_of_all b []) stmts_of stmts_of-tokens)
