-- The names that most proofs of this crate cite, passed on from one place. Declares nothing.
pub use Rattle.std.proofs.Common.{◌≡◌, ℕ, ◌+◌, ◌-◌, ◌<◌, ◌≤◌, false, List, [], ◌∷◌, ◌++◌, map, length, get_or, take, drop, Some, None, Ok, Err, codes, Option, Result, flat_map, sym, refl, ap, ◌∙◌, append_assoc, append-nil, add-one, arith, length-drop, drop_of_length-le, drop-cons}
pub use Rattle.std.specs.Io.KnownBytes.{Appends}
unfoldable pub use Rattle.pr_output.specs.Printed.{printed_word}
unfoldable pub use Rattle.pr_output.specs.PrintedLines.{joined_by_spaces, line, pairs}
pub use Rattle.pr_output.specs.Written.{Wrote, FallsShort, Puts}
