-- The terms of a line are what they are meant to be: names are names, and keys are not zero.
use Rattle.pr_lines.proofs.Common.{◌≡◌, ℕ, ◌+◌, ◌*◌, ◌^◌, ◌<◌, Bool, true, false, cond, List, [], ◌∷◌, map, length, take, drop, nat_lt, Some, None, fold, Option, refl, ap, ◌∙◌, arith, lit<, list_all, nat_tests, each, digit_value}
use Rattle.std.proofs.Common.{add-zero, zero-add, ◌==◌, ◌&&◌, not, nat_le, slice_index, option_map, option_and_then, IfSome, codes, bytes_eq}
use Rattle.std.proofs.lemmas.Bool.{and_parts, and_from, leb-true, ltb-true}
use Rattle.pr_cdb.specs.declared.command.Kind.{Kind}
use Rattle.pr_registry.specs.Registrations.{is_all}
use Rattle.pr_roles.specs.Fitting.{is_version}
use Rattle.pr_script.specs.Grammar.{has_sense_digit}
use Rattle.pr_script.specs.Names.{is_name}
use Rattle.pr_script.specs.declared.script.Test.{Test}
use Rattle.pr_script.specs.declared.script.Test.TheVariants as test
use Rattle.pr_lines.specs.declared.item.RefusalKind.{RefusalKind}
use Rattle.pr_lines.specs.declared.item.RefusalKind.TheVariants as refusal
use Rattle.pr_lines.specs.declared.keyword.Keyword.{Keyword}
use Rattle.pr_lines.specs.declared.keyword.Keyword.TheVariants as keyword
use Rattle.pr_lines.specs.declared.versions.TheConstants.{VERSIONS}
use Rattle.pr_lines.specs.TextLines.{character, only, is_end, if_alone}
use Rattle.pr_script.specs.Digits.{digit_of, byte_of}
use Rattle.pr_lines.specs.WordTerms.{number, without_prefix, hexadecimal, name_of, key_or_zero, key_of, kind_of, code_of, count_of, generation_of, sense_of}
use Rattle.pr_lines.specs.CommandWords.{spelled_of, spelled_in}
use Rattle.pr_lines.specs.Clauses.{clause_of, good_of, test_of}
use Rattle.pr_lines.specs.Lookups.{lookup}
use Rattle.pr_lines.specs.ScenarioLines.{StartReservation, nobody, single, everybody, ScenarioLine, keys_line, nexus_line, start_line, pending_line, refusals_line, reservation_line, generation_line, resets_line, alone_line, order_line, role_line, script_line, plan_line, end_line, send_line, on_line, done_line, repeat_line, break_line, stop_line, command_line, fence_line, list_of, alternative_of, everybody_of, single_of, start_reservation_of, name_in, only_name, only_count, budget_in, parse_fence, parse_of_name, item_of, declares, states}
use Rattle.pr_lines.specs.Keywords.{keyword_of}
use Rattle.pr_lines.specs.inside.Keywords.{parse_plain, parse_after, parse_with}
use Rattle.pr_lines.proofs.lemmas.ScenarioLines.Words.{by_keyword}
use Rattle.pr_lines.proofs.lemmas.WordTerms.NumberRoom.{digit_more, hex_some}

abbrev pub is_key : ℕ → Bool
is_key k = not (k == 0) && nat_lt k (2 ^ 64)

abbrev pub is_wanted : StartReservation → Bool
is_wanted nobody = true
is_wanted (single kind name) = not (is_all kind)
is_wanted (everybody kind) = is_all kind

abbrev pub is_item : ScenarioLine → Bool
is_item (fence_line version) = is_version version
is_item (declares (keys_line ks)) = list_all is_key ks
is_item (declares (nexus_line guest name)) = is_name name
is_item (declares (start_line name xs)) = not (length xs == 0)
is_item (declares (reservation_line ws)) = not (length ws == 0) && list_all is_wanted ws
is_item (declares (alone_line names)) = not (length names == 0) && list_all is_name names
is_item (states (on_line t)) = has_sense_digit t
is_item (states (stop_line word)) = is_name word
is_item i = true

-- ---- steps that may fail

map_if : {A B : Type 0} (Q : A → Type 0) (P : B → Type 0) (f : A → B) (o : Option A) → IfSome o Q → ((x : A) → Q x → P (f x)) → IfSome (option_map f o) P
map_if Q P f None h k = tt
map_if Q P f (Some x) h k = k x h

bind_if : {A B : Type 0} (Q : A → Type 0) (P : B → Type 0) (f : A → Option B) (o : Option A) → IfSome o Q → ((x : A) → Q x → IfSome (f x) P) → IfSome (option_and_then f o) P
bind_if Q P f None h k = tt
bind_if Q P f (Some x) h k = k x h

any_if : {A : Type 0} (o : Option A) → IfSome o (λ _. Unit {0})
any_if None = tt
any_if (Some x) = tt

cond_if : {A : Type 0} (P : A → Type 0) (b : Bool) (o p : Option A) → (b ≡ true → IfSome o P) → (b ≡ false → IfSome p P) → IfSome (cond b o p) P
cond_if P true o p h k = h refl
cond_if P false o p h k = k refl

keep_if : {A : Type 0} (P : A → Type 0) (b : Bool) (x : A) → (b ≡ true → P x) → IfSome (cond b (Some x) None) P
keep_if P true x h = h refl
keep_if P false x h = tt

-- ---- lists

each_all : {A : Type 0} (p : A → Bool) (f : List ℕ → Option A) (ws : List (List ℕ)) → ((w : List ℕ) → IfSome (f w) (λ a. p a ≡ true)) → IfSome (each f ws) (λ ys. list_all p ys ≡ true)
each_all p f [] sound = refl
each_all p f (w ∷ ws) sound =
    bind_if (λ a. p a ≡ true) (λ ys. list_all p ys ≡ true) (λ y. option_map (λ ys. y ∷ ys) (each f ws)) (f w) (sound w)
    (λ y h. map_if (λ ys. list_all p ys ≡ true) (λ ys. list_all p ys ≡ true) (λ ys. y ∷ ys) (each f ws) (each_all p f ws sound) (λ ys k. and_from _ _ h k))

longer : {A : Type 0} (o : Option (List A)) (n m : ℕ) → n ≡ m → IfSome o (λ ys. length ys ≡ n) → IfSome o (λ ys. length ys ≡ m)
longer None n m e h = tt
longer (Some ys) n m e h = h ∙ e

each_long : {A : Type 0} (f : List ℕ → Option A) (ws : List (List ℕ)) → IfSome (each f ws) (λ ys. length ys ≡ length ws)
each_long f [] = refl
each_long f (w ∷ ws) =
    bind_if (λ _. Unit {0}) (λ ys. length ys ≡ length (w ∷ ws)) (λ y. option_map (λ ys. y ∷ ys) (each f ws)) (f w) (any_if (f w))
    (λ y k. map_if (λ ys. length ys ≡ length ws) (λ ys. length ys ≡ length (w ∷ ws)) (λ ys. y ∷ ys) (each f ws) (each_long f ws) (λ ys h. omega (arith, h)))

listed_all : {A : Type 0} (p : A → Bool) (f : List ℕ → Option A) (ws : List (List ℕ)) → ((w : List ℕ) → IfSome (f w) (λ a. p a ≡ true)) → IfSome (list_of f ws) (λ ys. list_all p ys ≡ true)
listed_all p f ws each_is = cond_if (λ ys. list_all p ys ≡ true) (is_end ws) None (each f ws) (λ e. tt) (λ e. each_all p f ws each_is)

is_some_length : (n m : ℕ) → n ≡ m + 1 → not (n == 0) ≡ true
is_some_length n m e = grind (arith, nat_tests)

not_empty : {A : Type 0} (o : Option (List A)) (m : ℕ) → IfSome o (λ ys. length ys ≡ m + 1) → IfSome o (λ ys. not (length ys == 0) ≡ true)
not_empty None m h = tt
not_empty (Some ys) m h = is_some_length (length ys) m h

listed_some : {A : Type 0} (f : List ℕ → Option A) (ws : List (List ℕ)) → IfSome (list_of f ws) (λ ys. not (length ys == 0) ≡ true)
listed_some f [] = tt
listed_some f (w ∷ ws) = cond_if (λ ys. not (length ys == 0) ≡ true) (is_end (w ∷ ws)) None (each f (w ∷ ws)) (λ e. tt) (λ e. not_empty (each f (w ∷ ws)) (length ws) (longer _ _ _ (omega arith) (each_long f (w ∷ ws))))

-- ---- terms

name_sound : (w : List ℕ) → IfSome (name_of w) (λ x. is_name x ≡ true)
unfolding name_of
name_sound w = keep_if (λ x. is_name x ≡ true) (is_name w) w (λ e. e)

only_name_sound : (ws : List (List ℕ)) → IfSome (only_name ws) (λ x. is_name x ≡ true)
only_name_sound ws = bind_if (λ _. Unit {0}) (λ x. is_name x ≡ true) name_of (only ws) (any_if (only ws)) (λ w k. name_sound w)

fold_below : (digits : List ℕ) (n i : ℕ) → n < 16 ^ i → list_all (λ b. nat_lt (digit_value b) 16) digits ≡ true → fold (λ m b. 16 * m + digit_value b) n digits < 16 ^ (i + length digits)
fold_below [] n i h each = rw (add-zero i) h
fold_below (d ∷ digits) n i h each =
    let parts = and_parts (nat_lt (digit_value d) 16) _ each in
    let e : i + length (d ∷ digits) ≡ (i + 1) + length digits = omega arith in
    rw e (fold_below digits (16 * n + digit_value d) (i + 1) (digit_more 16 n (digit_value d) i h (ltb-true (digit_value d) 16 parts.0)) parts.1)

number_sound : (ds : List ℕ) → IfSome (number 16 ds) (λ n. n < 16 ^ length ds)
unfolding number
number_sound ds =
    keep_if (λ n. n < 16 ^ length ds) (list_all (λ b. nat_lt (digit_value b) 16) ds) (fold (λ m b. 16 * m + digit_value b) 0 ds)
    (λ e. let below = fold_below ds 0 0 (lit< tt) e in rw (← zero-add (length ds)) below)

hex_sound : (ds : List ℕ) → IfSome (hexadecimal 16 ds) (λ n. n < 2 ^ 64)
hex_sound ds =
    cond_if (λ n. n < 2 ^ 64) (nat_lt 0 (length ds) && nat_le (length ds) 16) (number 16 ds) None
    (λ e. hex_some (number 16 ds) (length ds) 16 (number_sound ds) (leb-true (length ds) 16 (and_parts (nat_lt 0 (length ds)) _ e).1)) (λ e. tt)

key_below : (w : List ℕ) → IfSome (key_or_zero w) (λ n. n < 2 ^ 64)
unfolding key_or_zero
key_below w = hex_sound (without_prefix w)

key_true : (k : ℕ) → (k == 0) ≡ false → k < 2 ^ 64 → is_key k ≡ true
key_true k e below = grind (arith, nat_tests)

key_sound : (w : List ℕ) → IfSome (key_of w) (λ k. is_key k ≡ true)
key_sound w =
    bind_if (λ k. k < 2 ^ 64) (λ k. is_key k ≡ true) (λ key. cond (key == 0) None (Some key)) (key_or_zero w) (key_below w)
    (λ k below. cond_if (λ n. is_key n ≡ true) (k == 0) None (Some k) (λ e. tt) (λ e. key_true k e below))

digit_sound : (b : ℕ) → IfSome (digit_of b) (λ n. nat_lt n 16 ≡ true)
digit_sound b = keep_if (λ n. nat_lt n 16 ≡ true) (nat_lt (digit_value b) 16) (digit_value b) (λ e. e)

sense_sound : (w : List ℕ) → IfSome (sense_of w) (λ s. nat_lt s.key 16 ≡ true)
unfolding sense_of
sense_sound w =
    cond_if (λ s. nat_lt s.key 16 ≡ true) (length w == 7 && (slice_index w 1 == character (codes "/") && slice_index w 4 == character (codes "/"))) _ None
    (λ e. bind_if (λ n. nat_lt n 16 ≡ true) (λ s. nat_lt s.key 16 ≡ true) _ (digit_of (slice_index w 0)) (digit_sound (slice_index w 0))
    (λ key h. bind_if (λ _. Unit {0}) (λ s. nat_lt s.key 16 ≡ true) _ (byte_of (slice_index w 2) (slice_index w 3)) (any_if _)
    (λ asc i. bind_if (λ _. Unit {0}) (λ s. nat_lt s.key 16 ≡ true) _ (byte_of (slice_index w 5) (slice_index w 6)) (any_if _) (λ ascq j. h))))
    (λ e. tt)

everybody_sound : (w : List ℕ) → IfSome (everybody_of w) (λ x. is_wanted x ≡ true)
everybody_sound w =
    bind_if (λ _. Unit {0}) (λ x. is_wanted x ≡ true) (λ kind. cond (is_all kind) (Some (everybody kind)) None) (kind_of w) (any_if _)
    (λ kind h. keep_if (λ x. is_wanted x ≡ true) (is_all kind) (everybody kind) (λ e. e))

single_with : (kind : Kind) (o : Option (List ℕ)) → is_all kind ≡ false → IfSome (option_map (λ name. single kind name) o) (λ x. is_wanted x ≡ true)
single_with kind o e = map_if (λ _. Unit {0}) (λ x. is_wanted x ≡ true) (λ name. single kind name) o (any_if o) (λ name h. ap not e)

single_sound : (w : List ℕ) → IfSome (single_of w) (λ x. is_wanted x ≡ true)
single_sound w =
    cond_if (λ x. is_wanted x ≡ true) (slice_index w 1 == character (codes ":")) _ None
    (λ e. bind_if (λ _. Unit {0}) (λ x. is_wanted x ≡ true) (λ kind. cond (is_all kind) None (option_map (λ name. single kind name) (name_of (drop 2 w)))) (kind_of (take 1 w)) (any_if _)
    (λ kind h. cond_if (λ x. is_wanted x ≡ true) (is_all kind) None _ (λ f. tt) (λ f. single_with kind (name_of (drop 2 w)) f)))
    (λ e. tt)

wanted_sound : (w : List ℕ) → IfSome (start_reservation_of w) (λ x. is_wanted x ≡ true)
unfolding start_reservation_of
wanted_sound w =
    cond_if (λ x. is_wanted x ≡ true) (bytes_eq w (codes "none")) (Some nobody) _ (λ e. refl)
    (λ e. cond_if (λ x. is_wanted x ≡ true) (length w == 1) (everybody_of w) (single_of w) (λ f. everybody_sound w) (λ f. single_sound w))

alone_sound : (t : Test) (ws : List (List ℕ)) → has_sense_digit t ≡ true → IfSome (if_alone t ws) (λ u. has_sense_digit u ≡ true)
alone_sound t ws e = keep_if (λ u. has_sense_digit u ≡ true) (is_end ws) t (λ _. e)

abbrev OfTest : Test → Type 0
OfTest t = has_sense_digit t ≡ true

good_sound : (ws : List (List ℕ)) → IfSome (good_of ws) OfTest
good_sound [] = refl
good_sound (w ∷ ws) =
    cond_if OfTest (bytes_eq w (codes "has")) _ _
    (λ e. bind_if (λ _. Unit {0}) OfTest (λ word. option_map (λ key. test.GoodHas key) (key_of word)) (only ws) (any_if _)
    (λ word i. map_if (λ _. Unit {0}) OfTest (λ key. test.GoodHas key) (key_of word) (any_if _) (λ s j. refl)))
    (λ e. cond_if OfTest (bytes_eq w (codes "held")) _ _
    (λ f. bind_if (λ _. Unit {0}) OfTest (λ word. option_map (λ key. test.GoodHeld key) (key_or_zero word)) (only ws) (any_if _)
    (λ word i. map_if (λ _. Unit {0}) OfTest (λ key. test.GoodHeld key) (key_or_zero word) (any_if _) (λ s j. refl)))
    (λ f. cond_if OfTest (bytes_eq w (codes "unheld")) (if_alone test.GoodUnheld ws) None (λ g. alone_sound test.GoodUnheld ws refl) (λ g. tt)))

test_sound : (ws : List (List ℕ)) → IfSome (test_of ws) (λ t. has_sense_digit t ≡ true)
test_sound [] = tt
test_sound (w ∷ ws) =
    cond_if OfTest (bytes_eq w (codes "good")) (good_of ws) _ (λ e. good_sound ws)
    (λ e. cond_if OfTest (bytes_eq w (codes "conflict")) (if_alone test.Conflict ws) _ (λ f. alone_sound test.Conflict ws refl)
    (λ f. cond_if OfTest (bytes_eq w (codes "busy")) (if_alone test.Busy ws) _ (λ g. alone_sound test.Busy ws refl)
    (λ f. cond_if OfTest (bytes_eq w (codes "full")) (if_alone test.Full ws) _ (λ g. alone_sound test.Full ws refl)
    (λ f. cond_if OfTest (bytes_eq w (codes "attention")) (if_alone test.Attention ws) _ (λ g. alone_sound test.Attention ws refl)
    (λ g. cond_if OfTest (bytes_eq w (codes "sense")) _ None
    (λ h. bind_if (λ _. Unit {0}) OfTest (λ word. option_map (λ sense. test.Sense sense) (sense_of word)) (only ws) (any_if _)
    (λ word i. map_if (λ s. nat_lt s.key 16 ≡ true) OfTest (λ sense. test.Sense sense) (sense_of word) (sense_sound word) (λ s j. j)))
    (λ h. tt))))))

-- ---- lines

abbrev Sound : ScenarioLine → Type 0
Sound i = is_item i ≡ true

abbrev version_of : List ℕ → Option ℕ
version_of word = lookup (map (λ row. (row.0.now, row.1)) VERSIONS) word

version_sound : (w : List ℕ) → IfSome (version_of w) (λ v. is_version v ≡ true)
version_sound w =
    cond_if (λ v. is_version v ≡ true) (bytes_eq w (codes "1")) (Some 1) _ (λ e. refl)
    (λ e. cond_if (λ v. is_version v ≡ true) (bytes_eq w (codes "2")) (Some 2) _ (λ f. refl)
    (λ f. cond_if (λ v. is_version v ≡ true) (bytes_eq w (codes "3")) (Some 3) None (λ g. refl) (λ g. tt)))

fence_sound : (ws : List (List ℕ)) → IfSome (parse_fence ws) Sound
fence_sound ws = bind_if (λ _. Unit {0}) Sound (λ w. option_map (λ v. fence_line v) (version_of w)) (only ws) (any_if (only ws)) (λ w h. map_if (λ v. is_version v ≡ true) Sound (λ v. fence_line v) (version_of w) (version_sound w) (λ v i. i))

refusals_sound : (r : RefusalKind) (ws : List (List ℕ)) → IfSome (parse_of_name (λ name count. declares (refusals_line r name count)) only_count ws) Sound
refusals_sound r ws = bind_if (λ _. Unit {0}) Sound (λ p. option_map (λ count. declares (refusals_line r p.0 count)) (only_count p.1)) (name_in ws) (any_if _) (λ p h. map_if (λ _. Unit {0}) Sound (λ count. declares (refusals_line r p.0 count)) (only_count p.1) (any_if _) (λ x k. refl))

simply_sound : (k : Keyword) (ws : List (List ℕ)) → IfSome (parse_plain k ws) Sound
simply_sound keyword.Fence ws = fence_sound ws
simply_sound keyword.Host ws = map_if (λ x. is_name x ≡ true) Sound (λ name. declares (nexus_line false name)) (only_name ws) (only_name_sound ws) (λ x h. h)
simply_sound keyword.Guest ws = map_if (λ x. is_name x ≡ true) Sound (λ name. declares (nexus_line true name)) (only_name ws) (only_name_sound ws) (λ x h. h)
simply_sound keyword.Busy ws = refusals_sound refusal.Busy ws
simply_sound keyword.Full ws = refusals_sound refusal.Full ws
simply_sound keyword.Generation ws = map_if (λ _. Unit {0}) Sound (λ n. declares (generation_line n)) (option_and_then generation_of (only ws)) (any_if _) (λ x h. refl)
simply_sound keyword.Resets ws = map_if (λ _. Unit {0}) Sound (λ n. declares (resets_line n)) (only_count ws) (any_if _) (λ x h. refl)
simply_sound keyword.Order ws = bind_if (λ _. Unit {0}) Sound (λ word. cond (bytes_eq word (codes "conflict")) (Some (declares order_line)) None) (only ws) (any_if _) (λ word h. keep_if Sound (bytes_eq word (codes "conflict")) (declares order_line) (λ e. refl))
simply_sound keyword.Role ws = bind_if (λ _. Unit {0}) Sound (λ r. option_map (λ clause. declares (role_line r.0 clause)) (clause_of r.1)) (name_in ws) (any_if _) (λ r h. map_if (λ _. Unit {0}) Sound (λ clause. declares (role_line r.0 clause)) (clause_of r.1) (any_if _) (λ x k. refl))
simply_sound keyword.Script ws = bind_if (λ _. Unit {0}) Sound (λ r. option_map (λ budget. declares (script_line r.0 budget)) (budget_in r.1)) (name_in ws) (any_if _) (λ r h. map_if (λ _. Unit {0}) Sound (λ budget. declares (script_line r.0 budget)) (budget_in r.1) (any_if _) (λ x k. refl))
simply_sound keyword.Plan ws = map_if (λ _. Unit {0}) Sound (λ name. declares (plan_line name)) (only_name ws) (any_if _) (λ x h. refl)
simply_sound keyword.End ws = keep_if Sound (is_end ws) end_line (λ e. refl)
simply_sound keyword.Send ws = map_if (λ _. Unit {0}) Sound (λ s. states (send_line s)) (spelled_in ws) (any_if _) (λ x h. refl)
simply_sound keyword.On ws = map_if (λ t. has_sense_digit t ≡ true) Sound (λ t. states (on_line t)) (test_of ws) (test_sound ws) (λ t h. h)
simply_sound keyword.Done ws = keep_if Sound (is_end ws) (states done_line) (λ e. refl)
simply_sound keyword.Repeat ws = map_if (λ _. Unit {0}) Sound (λ n. states (repeat_line n)) (option_and_then count_of (only ws)) (any_if _) (λ x h. refl)
simply_sound keyword.Break ws = keep_if Sound (is_end ws) (states break_line) (λ e. refl)
simply_sound keyword.Stop ws = map_if (λ x. is_name x ≡ true) Sound (λ word. states (stop_line word)) (only_name ws) (only_name_sound ws) (λ x h. h)
simply_sound _ ws = tt

start_sound : (ws : List (List ℕ)) → IfSome (parse_of_name (λ name xs. declares (start_line name xs)) (list_of alternative_of) ws) Sound
start_sound ws = bind_if (λ _. Unit {0}) Sound (λ r. option_map (λ xs. declares (start_line r.0 xs)) (list_of alternative_of r.1)) (name_in ws) (any_if _)
    (λ r h. map_if (λ ys. not (length ys == 0) ≡ true) Sound (λ xs. declares (start_line r.0 xs)) (list_of alternative_of r.1) (listed_some alternative_of r.1) (λ x k. k))

pending_sound : (ws : List (List ℕ)) → IfSome (parse_of_name (λ name xs. declares (pending_line name xs)) (list_of code_of) ws) Sound
pending_sound ws = bind_if (λ _. Unit {0}) Sound (λ r. option_map (λ xs. declares (pending_line r.0 xs)) (list_of code_of r.1)) (name_in ws) (any_if _)
    (λ r h. map_if (λ _. Unit {0}) Sound (λ xs. declares (pending_line r.0 xs)) (list_of code_of r.1) (any_if _) (λ x k. refl))

both_if : {A : Type 0} (P Q : A → Type 0) (o : Option A) → IfSome o P → IfSome o Q → IfSome o (λ x. P x × Q x)
both_if P Q None h k = tt
both_if P Q (Some x) h k = (h, k)

reservation_sound : (ws : List (List ℕ)) → IfSome (option_map (λ xs. declares (reservation_line xs)) (list_of start_reservation_of ws)) Sound
reservation_sound ws =
    map_if (λ ys. (not (length ys == 0) ≡ true) × (list_all is_wanted ys ≡ true)) Sound (λ xs. declares (reservation_line xs)) (list_of start_reservation_of ws)
    (both_if (λ ys. not (length ys == 0) ≡ true) (λ ys. list_all is_wanted ys ≡ true) (list_of start_reservation_of ws) (listed_some start_reservation_of ws) (listed_all is_wanted start_reservation_of ws wanted_sound))
    (λ x k. and_from _ _ k.0 k.1)

alone_sound_line : (ws : List (List ℕ)) → IfSome (option_map (λ names. declares (alone_line names)) (list_of name_of ws)) Sound
alone_sound_line ws =
    map_if (λ ys. (not (length ys == 0) ≡ true) × (list_all is_name ys ≡ true)) Sound (λ names. declares (alone_line names)) (list_of name_of ws)
    (both_if (λ ys. not (length ys == 0) ≡ true) (λ ys. list_all is_name ys ≡ true) (list_of name_of ws) (listed_some name_of ws) (listed_all is_name name_of ws name_sound))
    (λ x k. and_from _ _ k.0 k.1)

after_sound : (k : Keyword) (ws : List (List ℕ)) → IfSome (parse_after k ws) Sound
after_sound keyword.Keys ws = map_if (λ ys. list_all is_key ys ≡ true) Sound (λ keys. declares (keys_line keys)) (list_of key_of ws) (listed_all is_key key_of ws key_sound) (λ x h. h)
after_sound keyword.Start ws = start_sound ws
after_sound keyword.Pending ws = pending_sound ws
after_sound keyword.Reservation ws = reservation_sound ws
after_sound keyword.Alone ws = alone_sound_line ws
after_sound k ws = simply_sound k ws

said_sound : (o : Option Keyword) (w : List ℕ) (ws : List (List ℕ)) → IfSome (parse_with o w ws) Sound
said_sound (Some k) w ws = after_sound k ws
said_sound None w ws = map_if (λ _. Unit {0}) Sound (λ s. command_line s) (spelled_of w ws) (any_if _) (λ x h. refl)

pub item_sound : (w : List ℕ) (ws : List (List ℕ)) → IfSome (item_of w ws) (λ i. is_item i ≡ true)
item_sound w ws = rw (by_keyword w ws) (said_sound (keyword_of w) w ws)
