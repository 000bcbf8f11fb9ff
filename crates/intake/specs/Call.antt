-- A call of the intake: its number, and the book after it  [02 order 6].
use Rattle.std.specs.Prelude.{Bool, true, false, List, ℕ, length, ltb}
use Rattle.text.specs.Number
use Rattle.text.specs.Limits.{text_limit}
use Rattle.sheet.specs.Order.{Order}
use Rattle.sheet.specs.Faults.{Judged, Refused, Good, judged}
use Rattle.sheet.specs.Sheet.{sheet}
use Rattle.intake.specs.Required.{request_of, lacks_key}
use Rattle.intake.specs.Seen.{seen}
use Rattle.intake.specs.Book.{Book, text, is_overused, added, extended, OpenBook}

pub record Call : Type 0 where
  pub number : ℕ
  pub after : Book

abbrev pub call_of : ℕ → Book → Call
call_of n b = record { number = n; after = b }

-- a refusal leaves book and bytes in use as before
abbrev pub refuse_if : Bool → ℕ → Book → Call → Call
refuse_if true n b rest = call_of n b
refuse_if false n b rest = rest

-- what is put after the text in use: 1 new book over 65,536; 16 over the buffer
unfoldable pub appended : Book → List ℕ → Call
appended b x =
    let e = extended b x in
    refuse_if (ltb text_limit e.used) Number.too_long b
    (refuse_if (ltb (length b.bytes) e.used) Number.short_output b
    (call_of Number.done e))

-- a good order, in turn 17, 18, 19, and its sheet
unfoldable pub taken : Book → Order → Call
unfolding appended
taken b o =
    refuse_if (lacks_key o) Number.missing_key b
    (refuse_if (is_overused b) Number.bad_used b
    (refuse_if (seen (text b) (request_of o)) Number.seen b
    (appended b (added (text b) (sheet o)))))

-- Order 5's refusals up to 15 come first.
unfoldable pub call_judged : Book → Judged → Call
unfolding taken
call_judged b (Refused n) = call_of n b
call_judged b (Good o) = taken b o

unfoldable pub call : Book → List ℕ → Call
unfolding call_judged
call b x = call_judged b (judged x)

-- opens the definitions of this file, of those of this crate that it stands on, and of sheet, for computed examples
unfoldable pub OpenCall : Type 1
unfolding OpenBook appended taken call_judged call
OpenCall = Type 0
