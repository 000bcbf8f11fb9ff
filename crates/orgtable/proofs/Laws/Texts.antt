-- What is printed for an input is what is printed for its text. Assumes nothing.
use mathlib.Core.Path.{◌≡◌, refl}
use mathlib.Core.List.{List, [], ◌∷◌}
use Prim.Native.Nat.{ℕ, ◌+◌, ◌<◌}
use native.Mathlib.Omega.{arith}
use lib.ListN.{length, take, replicate}
use Rattle.std.proofs.lemmas.List.{length-replicate}
use borrow.Author.Tests.{lt-leb}
use Rattle.std.specs.Prelude.{Ok, Err, Some, None, Result, is_err, false}
use Rattle.std.specs.Io.KnownBytes.{Keeps}
use Rattle.std.specs.declared.option.Option.{Option}
use Rattle.text.specs.Limits.{text_limit}
use Rattle.reading.specs.Answers.{answer, answer_for}
use Rattle.orgtable.specs.declared.trouble.Trouble.{Trouble}
use Rattle.orgtable.specs.declared.trouble.Trouble.TheVariants.{Unread}
use Rattle.orgtable.specs.Input.{InputHolds, printed_input}
use Rattle.orgtable.specs.Printed.{refused, printed_text}
use Rattle.orgtable.specs.Output.{IsPrinted, PrintsTable}

keeps : (a : Option (List ℕ)) → Keeps a a
keeps None = tt
keeps (Some a) = refl

-- An input that could not be read.
pub unread : (known a : Option (List ℕ)) → PrintsTable (Err Unread) known a a
unfolding PrintsTable IsPrinted
unread None a = ([], keeps a)
unread (Some s) a = keeps a

-- A longer text is refused.
too_long : (s t : List ℕ) → text_limit < length s → printed_text s t ≡ refused (1 ∷ [])
unfolding answer answer_for
too_long s t h = rw (lt-leb (length s) text_limit h)

-- Of a buffer that holds the longest text.
pub printed-whole : {E : Type 0} (r : Result (Option ℕ) E) (known old new : Option (List ℕ)) (b : List ℕ) (w : Result Unit Trouble) → length b ≡ text_limit
    → is_err r ≡ false → InputHolds r known b → IsPrinted w old new (printed_input r b (replicate 16384 0)) → PrintsTable w known old new
unfolding InputHolds printed_input PrintsTable
printed-whole (Err e) known old new b w long is holds printed = absurd (cc)
printed-whole (Ok (Some k)) None old new b w long is holds printed = (take k b, printed)
printed-whole (Ok (Some k)) (Some s) old new b w long is holds printed = rw holds at printed
printed-whole (Ok None) None old new b w long is holds printed =
    let s = replicate (text_limit + 1) 0 in
    (s, rw (too_long s (replicate 16384 0) (omega (arith, length-replicate {A = ℕ} (text_limit + 1) 0))) printed)
printed-whole (Ok None) (Some s) old new b w long is holds printed = rw (too_long s (replicate 16384 0) (omega (arith, holds, long))) printed
