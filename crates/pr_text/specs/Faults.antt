-- Agrees with docs/FORMATS.md, 'Faults'.
-- Steps of which each may have a fault, and what a call answers that may also lack memory.
use Rattle.std.specs.Prelude.{◌≡◌, Option, Some, None, Result, Ok, Err}
use Rattle.pr_text.specs.declared.fault.ReadError.{ReadError}
use Rattle.pr_text.specs.declared.fault.ReadError.TheVariants.{TooLarge, NotAscii, LineTooLong, Syntax, UnknownName, Limit, UndeclaredKey, Repeated, Unclosed, ReadFault, Memory, EmptyStart}

-- the second step, on what the first gave
abbrev pub and_then : {A B : Type 0} → Result A ReadError → (A → Result B ReadError) → Result B ReadError
and_then (Ok a) f = f a
and_then (Err e) f = Err e

-- this, unless there is a fault
abbrev pub unless : {A : Type 0} → Option ReadError → A → Result A ReadError
unless None a = Ok a
unless (Some e) a = Err e

-- this is the fault, but that a failed read says this alone; memory may fail at any step
abbrev pub FailsOrUnread : {A : Type 0} → Type 0 → ReadError → Result A ReadError → Type 0
FailsOrUnread unread TooLarge step = step ≡ Err TooLarge
FailsOrUnread unread (NotAscii n) step = step ≡ Err (NotAscii n)
FailsOrUnread unread (LineTooLong n) step = step ≡ Err (LineTooLong n)
FailsOrUnread unread (Syntax n) step = step ≡ Err (Syntax n)
FailsOrUnread unread (UnknownName n) step = step ≡ Err (UnknownName n)
FailsOrUnread unread (Limit which n) step = step ≡ Err (Limit which n)
FailsOrUnread unread (UndeclaredKey n) step = step ≡ Err (UndeclaredKey n)
FailsOrUnread unread (Repeated n) step = step ≡ Err (Repeated n)
FailsOrUnread unread (Unclosed n) step = step ≡ Err (Unclosed n)
FailsOrUnread unread ReadFault step = unread
FailsOrUnread unread Memory step = Unit {0}
FailsOrUnread unread EmptyStart step = step ≡ Err EmptyStart

-- this is the fault of the step
abbrev pub Fails : {A : Type 0} → ReadError → Result A ReadError → Type 0
Fails e step = FailsOrUnread (step ≡ Err ReadFault) e step
