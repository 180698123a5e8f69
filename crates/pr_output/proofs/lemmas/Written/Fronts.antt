-- How pieces of a text go out one after another.
use Rattle.pr_output.proofs.Common.{◌≡◌, ℕ, ◌+◌, ◌-◌, ◌<◌, ◌≤◌, List, [], ◌∷◌, ◌++◌, length, get_or, take, drop, Some, None, Ok, Err, Option, Result, flat_map, sym, refl, ap, ◌∙◌, append_assoc, append-nil, add-one, length-drop, drop_of_length-le, drop-cons, Appends, Wrote, FallsShort, Puts}
use Rattle.std.proofs.Common.{◌≢◌, IsErr, take-append-drop}
use Rattle.std.proofs.Math.Seq.{take-length}

append_some : (x y : List ℕ) → x ≢ [] → x ++ y ≢ []
append_some [] y h = absurd (h refl)
append_some (b ∷ x) y h = λ e. cc

pub appends_both : (old mid new : Option (List ℕ)) (x y : List ℕ) → Appends old mid x → Appends mid new y → Appends old new (x ++ y)
appends_both None mid new x y p q = tt
appends_both (Some xs) None new x y p q = absurd p
appends_both (Some xs) (Some ys) None x y p q = absurd q
appends_both (Some xs) (Some ys) (Some zs) x y p q = q ∙ ap (λ w. w ++ y) p ∙ append_assoc xs x y

pub wrote_more : (old mid new : Option (List ℕ)) (text x left : List ℕ) → Wrote old mid text (x ++ left) → Appends mid new x → Wrote old new text left
wrote_more old mid new text x left w p = record {
  front = w.front ++ x;
  whole = w.whole ∙ sym (append_assoc w.front x left);
  appended = appends_both old mid new w.front x w.appended p;
}

pub wrote_all : (old new : Option (List ℕ)) (text : List ℕ) → Wrote old new text [] → Appends old new text
wrote_all old new text w = rw (w.whole, append-nil w.front) w.appended

pub wrote_front : (old mid new : Option (List ℕ)) (text x left : List ℕ) → Wrote old mid text (x ++ left) → FallsShort mid new x → FallsShort old new text
wrote_front old mid new text x left w f = record {
  left = f.left ++ left;
  some_left = append_some f.left left f.some_left;
  wrote = record {
    front = w.front ++ f.wrote.front;
    whole = w.whole ∙ ap (λ r. w.front ++ (r ++ left)) f.wrote.whole
        ∙ ap (λ r. w.front ++ r) (append_assoc f.wrote.front f.left left)
        ∙ sym (append_assoc w.front f.wrote.front (f.left ++ left));
    appended = appends_both old mid new w.front f.wrote.front w.appended f.wrote.appended;
  };
}

-- a writer took the first n bytes of what was left
pub wrote_some : (old mid new : Option (List ℕ)) (text rest : List ℕ) (n : ℕ) → Wrote old mid text rest → Appends mid new (take n rest) → Wrote old new text (take (length rest - n) (drop n rest))
wrote_some old mid new text rest n w p =
    let all : take (length rest - n) (drop n rest) ≡ drop n rest =
    ap (λ k. take k (drop n rest)) (sym (length-drop n rest)) ∙ take-length (drop n rest)
    in rw all (wrote_more old mid new text (take n rest) (drop n rest) (rw (take-append-drop n rest) w) p)

-- Calls in a row: the first one fails, a later one fails, and the last one ends either way.

pub front_first : (old new : Option (List ℕ)) (x y : List ℕ) → FallsShort old new x → FallsShort old new (x ++ y)
front_first old new x y f = record {
  left = f.left ++ y;
  some_left = append_some f.left y f.some_left;
  wrote = record {
    front = f.wrote.front;
    whole = ap (λ r. r ++ y) f.wrote.whole ∙ append_assoc f.wrote.front f.left y;
    appended = f.wrote.appended;
  };
}

pub front_then : (old mid new : Option (List ℕ)) (x y : List ℕ) → Appends old mid x → FallsShort mid new y → FallsShort old new (x ++ y)
front_then old mid new x y p f = record {
  left = f.left;
  some_left = f.some_left;
  wrote = record {
    front = x ++ f.wrote.front;
    whole = ap (λ r. x ++ r) f.wrote.whole ∙ sym (append_assoc x f.wrote.front f.left);
    appended = appends_both old mid new x f.wrote.front p f.wrote.appended;
  };
}

pub puts_err : {E : Type 0} (old new : Option (List ℕ)) (x : List ℕ) (r : Result (Unit {0}) E) → FallsShort old new x → IsErr r → Puts old new x r
puts_err old new x (Ok done) f h = cc
puts_err old new x (Err fault) f h = f

pub puts_last : {E : Type 0} (old mid new : Option (List ℕ)) (x y : List ℕ) (r : Result (Unit {0}) E) → Appends old mid x → Puts mid new y r → Puts old new (x ++ y) r
puts_last old mid new x y (Ok done) p q = appends_both old mid new x y p q
puts_last old mid new x y (Err fault) p f = front_then old mid new x y p f

-- A loop over a list writes what `flat_map` gives.
pub flat_map_from : {X : Type 0} (f : X → List ℕ) (xs : List X) (i : ℕ) (d : X) → i < length xs → flat_map f (drop i xs) ≡ f (get_or xs i d) ++ flat_map f (drop (i + 1) xs)
flat_map_from f xs i d h = rw (add-one, drop-cons xs i d) refl

pub flat_map_end : {X : Type 0} (f : X → List ℕ) (xs : List X) (i : ℕ) → length xs ≤ i → flat_map f (drop i xs) ≡ []
flat_map_end f xs i h = rw (drop_of_length-le xs {i = i} h) refl
