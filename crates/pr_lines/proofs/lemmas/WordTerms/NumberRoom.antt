-- A number that is read digit by digit stays below the base's power.
use Rattle.pr_lines.proofs.Common.{◌≡◌, ℕ, ◌+◌, ◌*◌, ◌^◌, ◌<◌, ◌≤◌, List, [], ◌∷◌, length, take, drop, Some, None, fold, Option, sym, ap, ◌∙◌, arith, lit<, nat_tests, digit_value}
use Rattle.std.proofs.Common.{get_or, take-append-drop, IfSome}
use Rattle.std.proofs.lemmas.List.Sums.{fold-append, fold_more}
use Rattle.pr_lines.specs.WordTerms.{number, amount_of}
use Rattle.std.proofs.Math.Nat.{pow-le-pow_right, mul-le-mul_left, mul_comm}
use Rattle.std.proofs.lemmas.Grind.{pow_more}

pub digit_more : (base n v i : ℕ) → n < base ^ i → v < base → base * n + v < base ^ (i + 1)
digit_more base n v i below digit =
    let more : base * (n + 1) ≤ base * base ^ i = mul-le-mul_left base (omega arith) in
    rw pow_more (omega (arith, mul_comm (base ^ i) base))

pub digit_fits : (base n v i len limit : ℕ) → n < base ^ i → v < base → i < len → base ^ len ≤ limit → base * n + v < limit
digit_fits base n v i len limit below digit at room =
    let more = digit_more base n v i below digit in
    let power : base ^ (i + 1) ≤ base ^ len = pow-le-pow_right (omega arith) (omega arith) in
    omega arith

pub hex_room : (n : ℕ) → n ≤ 16 → 16 ^ n ≤ 2 ^ 64
hex_room n h =
    let power : 16 ^ n ≤ 16 ^ 16 = pow-le-pow_right (lit< tt) h in
    power

pub decimal_room : (n : ℕ) → n ≤ 10 → 10 ^ n ≤ 2 ^ 64
decimal_room n h =
    let power : 10 ^ n ≤ 10 ^ 10 = pow-le-pow_right (lit< tt) h in
    omega arith

pub hex_below : (n len most : ℕ) → n < 16 ^ len → len ≤ most → n < 16 ^ most
hex_below n len most below h =
    let power : 16 ^ len ≤ 16 ^ most = pow-le-pow_right (lit< tt) h in
    omega arith

-- more digits make no smaller number
grows : (n : ℕ) (digits : List ℕ) → n ≤ fold (λ m b. 10 * m + digit_value b) n digits
grows n [] = omega arith
grows n (d ∷ digits) = omega (arith, grows (10 * n + digit_value d) digits)

pub amount_past : (most i : ℕ) (word : List ℕ) → most < fold (λ m b. 10 * m + digit_value b) 0 (take i word) → most < fold (λ m b. 10 * m + digit_value b) 0 word
amount_past most i word h =
    let all : fold (λ m b. 10 * m + digit_value b) 0 word ≡ fold (λ m b. 10 * m + digit_value b) (fold (λ m b. 10 * m + digit_value b) 0 (take i word)) (drop i word) =
    ap (fold (λ m b. 10 * m + digit_value b) 0) (sym (take-append-drop i word)) ∙ fold-append (λ m b. 10 * m + digit_value b) 0 (take i word) (drop i word) in
    omega (arith, all, grows (fold (λ m b. 10 * m + digit_value b) 0 (take i word)) (drop i word))

past_fold : (most : ℕ) (word : List ℕ) → most < fold (λ m b. 10 * m + digit_value b) 0 word → None ≡ amount_of most word
unfolding amount_of number
past_fold most word h = grind (arith, nat_tests)

pub none_past : (most i v : ℕ) (word : List ℕ) → v ≡ fold (λ m b. 10 * m + digit_value b) 0 (take i word) → i < length word → most < 10 * v + digit_value (get_or word i 0) → None ≡ amount_of most word
none_past most i v word e h past =
    let more : fold (λ m b. 10 * m + digit_value b) 0 (take (i + 1) word) ≡ 10 * v + digit_value (get_or word i 0) =
    fold_more (λ m b. 10 * m + digit_value b) 0 word i 0 h ∙ ap (λ n. 10 * n + digit_value (get_or word i 0)) (sym e) in
    let whole : most < fold (λ m b. 10 * m + digit_value b) 0 word = amount_past most (i + 1) word (omega (arith, more)) in
    past_fold most word whole

pub hex_some : (r : Option ℕ) (len most : ℕ) → IfSome r (λ n. n < 16 ^ len) → len ≤ most → IfSome r (λ n. n < 16 ^ most)
hex_some None len most h fits = tt
hex_some (Some n) len most h fits = hex_below n len most h fits
