-- Lines that are held back for a while, and then go out together.
use Rattle.pr_trace.proofs.Common.{◌≡◌, ℕ, List, [], ◌++◌, Some, None, Ok, Err, Option, Result, sym, ap, ◌∙◌, append_assoc, append-nil, Appends, Wrote, FallsShort, Puts, front_then}
use Rattle.std.proofs.Common.{IsErr}
use Rattle.pr_output.proofs.lemmas.Written.Fronts.{appends_both, wrote_more, wrote_all, wrote_front}
use Rattle.pr_trace.specs.inside.FrontsWritten.{PutsAllBut}

pub appends_nothing : (old : Option (List ℕ)) → Appends old old []
appends_nothing None = tt
appends_nothing (Some xs) = sym (append-nil xs)

-- nothing goes out, and all is held back
pub held_all : (old : Option (List ℕ)) (text held : List ℕ) → held ≡ text → Wrote old old text held
held_all old text held e = record { front = []; whole = sym e; appended = appends_nothing old }

-- what was held went out, and the next text is held
pub held_next : (old new : Option (List ℕ)) (gone text held : List ℕ) → Appends old new gone → held ≡ text → Wrote old new (gone ++ text) held
held_next old new gone text held p e = record { front = gone; whole = ap (λ r. gone ++ r) (sym e); appended = p }

-- what was held went out, and the next text was written at once
pub held_none : {E : Type 0} (old mid new : Option (List ℕ)) (gone text held : List ℕ) (r : Result (Unit {0}) E) → Appends old mid gone → Puts mid new text r → held ≡ [] → PutsAllBut old new (gone ++ text) held r
held_none old mid new gone text held (Ok done) p q e = record {
  front = gone ++ text;
  whole = sym (append-nil (gone ++ text)) ∙ ap (λ r. (gone ++ text) ++ r) (sym e);
  appended = appends_both old mid new gone text p q;
}
held_none old mid new gone text held (Err fault) p f e = front_then old mid new gone text p f

pub held_err : {E : Type 0} (old new : Option (List ℕ)) (x left : List ℕ) (r : Result (Unit {0}) E) → FallsShort old new x → IsErr r → PutsAllBut old new x left r
held_err old new x left (Ok done) f h = cc
held_err old new x left (Err fault) f h = f

-- the next text was put behind what was held
pub held_more : (old mid new : Option (List ℕ)) (text held x rest left : List ℕ) → Wrote old mid text (held ++ (x ++ rest)) → Wrote mid new (held ++ x) left → Wrote old new text (left ++ rest)
held_more old mid new text held x rest left w v = record {
  front = w.front ++ v.front;
  whole = w.whole ∙ ap (λ r. w.front ++ r) (sym (append_assoc held x rest) ∙ ap (λ r. r ++ rest) v.whole ∙ append_assoc v.front left rest) ∙ sym (append_assoc w.front v.front (left ++ rest));
  appended = appends_both old mid new w.front v.front w.appended v.appended;
}

pub held_front : (old mid new : Option (List ℕ)) (text held x rest : List ℕ) → Wrote old mid text (held ++ (x ++ rest)) → FallsShort mid new (held ++ x) → FallsShort old new text
held_front old mid new text held x rest w f = wrote_front old mid new text (held ++ x) rest (rw (append_assoc held x rest) w) f

-- nothing went out yet, and nothing is held
pub held_first : (old : Option (List ℕ)) (text held : List ℕ) → held ≡ [] → Wrote old old text (held ++ text)
held_first old text held e = held_all old text (held ++ text) (ap (λ h. h ++ text) e)

-- the last text was put behind what was held
pub held_end : (old mid new : Option (List ℕ)) (text held left : List ℕ) → Wrote old mid text held → Wrote mid new held left → Wrote old new text left
held_end old mid new text held left w v = record {
  front = w.front ++ v.front;
  whole = w.whole ∙ ap (λ r. w.front ++ r) v.whole ∙ sym (append_assoc w.front v.front left);
  appended = appends_both old mid new w.front v.front w.appended v.appended;
}

pub held_over : (old mid new : Option (List ℕ)) (text held : List ℕ) → Wrote old mid text held → FallsShort mid new held → FallsShort old new text
held_over old mid new text held w f = wrote_front old mid new text held [] (rw (append-nil held) w) f

-- what is held at last goes out
pub held_last : {E : Type 0} (old mid new : Option (List ℕ)) (text held : List ℕ) (r : Result (Unit {0}) E) → Wrote old mid text held → Puts mid new held r → Puts old new text r
held_last old mid new text held (Ok done) w p = wrote_all old new text (wrote_more old mid new text held [] (rw (append-nil held) w) p)
held_last old mid new text held (Err fault) w f = held_over old mid new text held w f

-- the last text was put behind what was held, or the writer failed
pub held_through : {E : Type 0} (old mid new : Option (List ℕ)) (text held left : List ℕ) (r : Result (Unit {0}) E) → Wrote old mid text held → PutsAllBut mid new held left r → PutsAllBut old new text left r
held_through old mid new text held left (Ok done) w v = held_end old mid new text held left w v
held_through old mid new text held left (Err fault) w f = held_over old mid new text held w f
