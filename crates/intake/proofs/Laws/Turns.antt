-- Laws of a call's answer: each refusal in its turn, and what is left of the book.
use mathlib.Core.Path.{◌≡◌, refl}
use mathlib.Core.Bool.{true, false}
use mathlib.Core.List.{List}
use Prim.Native.Nat.{ℕ, ◌+◌, ◌≤◌, ◌<◌}
use lib.ListN.{length}
use borrow.Author.Tests.{lt-ltb, le-ltb}
use Rattle.std.specs.Result.{IsErrAnd}
use Rattle.std.specs.declared.result.Result.{Result}
use Rattle.std.specs.declared.result.Result.TheVariants.{Ok, Err}
use Rattle.text.specs.Number
use Rattle.text.specs.Limits.{text_limit}
use Rattle.sheet.specs.declared.judge.Fault.{Fault}
use Rattle.sheet.specs.Order.{Order}
use Rattle.sheet.specs.Faults.{Refused, Good, judged}
use Rattle.sheet.specs.Sheet.{sheet}
use Rattle.sheet.specs.Spans.{fault_number}
use Rattle.intake.specs.declared.call.Refusal.{Refusal}
use Rattle.intake.specs.declared.call.Refusal.TheVariants as Refusals
use Rattle.intake.specs.Required.{request_of, lacks_key}
use Rattle.intake.specs.Seen.{seen}
use Rattle.intake.specs.Book.{Book, text, is_overused, added, extended}
use Rattle.intake.specs.Call.{Call, call_of, appended, taken, call_judged, call}
use Rattle.intake.specs.Promises.{Taken, Answers, told}

-- an answer of a number and the bytes in use, and the book's bytes that are left
pub answers : (r : Taken) {b : Book} {y : List ℕ} {c : Call} → r.used ≡ b.used → y ≡ b.bytes → c ≡ call_of r.number b → Answers r y c
answers r u i j = rw j (record { number = refl; used = u; bytes = i })

module _ (b : Book) (x : List ℕ) where
  pub appended-long : text_limit < b.used + length x → appended b x ≡ call_of Number.too_long b
  unfolding appended extended
  appended-long h = rw (lt-ltb text_limit (b.used + length x) h)

  module _ (h : b.used + length x ≤ text_limit) where
    pub appended-short : length b.bytes < b.used + length x → appended b x ≡ call_of Number.short_output b
    unfolding appended extended
    appended-short k = rw (le-ltb text_limit (b.used + length x) h, lt-ltb (length b.bytes) (b.used + length x) k)

    pub appended-done : b.used + length x ≤ length b.bytes → appended b x ≡ call_of Number.done (extended b x)
    unfolding appended extended
    appended-done k = rw (le-ltb text_limit (b.used + length x) h, le-ltb (length b.bytes) (b.used + length x) k)

module _ (b : Book) (o : Order) where
  pub taken-lacking : lacks_key o ≡ true → taken b o ≡ call_of Number.missing_key b
  unfolding taken
  taken-lacking h = rw h

  module _ (h : lacks_key o ≡ false) where
    pub taken-overused : is_overused b ≡ true → taken b o ≡ call_of Number.bad_used b
    unfolding taken
    taken-overused k = rw (h, k)

    module _ (k : is_overused b ≡ false) where
      pub taken-seen : seen (text b) (request_of o) ≡ true → taken b o ≡ call_of Number.seen b
      unfolding taken
      taken-seen l = rw (h, k, l)

      pub taken-fresh : seen (text b) (request_of o) ≡ false → taken b o ≡ appended b (added (text b) (sheet o))
      unfolding taken
      taken-fresh l = rw (h, k, l)

module _ (b : Book) (x : List ℕ) where
  pub call-refused : (n : ℕ) → judged x ≡ Refused n → call b x ≡ call_of n b
  unfolding call call_judged
  call-refused n h = rw h

  pub call-good : (o : Order) → judged x ≡ Good o → call b x ≡ taken b o
  unfolding call call_judged
  call-good o h = rw h

-- with a fault of the order the book is as before
pub answers-fault : (b : Book) (x : List ℕ) (f : Fault) (r : Result ℕ Refusal) → IsErrAnd r (λ e. e ≡ Refusals.Fault f)
    → judged x ≡ Refused (fault_number f) → Answers (told b.used r) b.bytes (call b x)
answers-fault b x f (Ok n) h j = absurd h
answers-fault b x f (Err e) h j = rw h (answers (told b.used (Err (Refusals.Fault f))) refl refl (call-refused b x _ j))
