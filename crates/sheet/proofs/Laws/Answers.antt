-- Laws of the answer to an order: 1 and 16 in turn, and what is left in the output.
use mathlib.Core.Path.{◌≡◌, refl}
use mathlib.Core.List.{List}
use Prim.Native.Nat.{ℕ, ◌≤◌, ◌<◌}
use native.Mathlib.Omega.{arith}
use lib.Dec.{leb}
use lib.ListN.{length, take, drop}
use lib.Seq.{take-append_seam}
use borrow.Author.Tests.{le-leb, lt-leb, leb-true, leb-false}
use borrow.Table.Steps.{cases}
use Rattle.text.specs.Number
use Rattle.text.specs.Limits.{text_limit}
use Rattle.std.specs.Result.{IsErrAnd}
use Rattle.std.specs.declared.result.Result.{Result}
use Rattle.std.specs.declared.result.Result.TheVariants.{Ok, Err}
use Rattle.sheet.specs.declared.judge.Fault.{Fault}
use Rattle.sheet.specs.declared.write.Refusal.{Refusal}
use Rattle.sheet.specs.declared.write.Refusal.TheVariants as Refusals
use Rattle.sheet.specs.Order.{Order}
use Rattle.sheet.specs.Faults.{Refused, Good, judged}
use Rattle.sheet.specs.Sheet.{sheet}
use Rattle.sheet.specs.Output.{laid}
use Rattle.sheet.specs.Answers.{Outcome, outcome, put_out, outcome_for, write_sheet}
use Rattle.sheet.specs.Spans.{fault_number}
use Rattle.sheet.specs.Promises.{Answers, Settled, answer_number, answer_count}
use Rattle.sheet.proofs.Laws.Judged.{judged-number}
use Rattle.sheet.proofs.Laws.Output.{laid-front}

-- an answer of a number and a count, and the output that is left
pub answers : (r : Result ℕ Refusal) {t t' : List ℕ} {w : Outcome} → t' ≡ t → w ≡ outcome (answer_number r) (answer_count r) t → Answers r t' w
answers r i j = rw j (record { number = refl; count = refl; output = i })

module _ (x t : List ℕ) where
  pub put_out-long : text_limit < length x → put_out x t ≡ outcome Number.too_long 0 t
  unfolding put_out
  put_out-long h = rw (lt-leb (length x) text_limit h)

  module _ (h : length x ≤ text_limit) where
    pub put_out-short : length t < length x → put_out x t ≡ outcome Number.short_output (length x) t
    unfolding put_out
    put_out-short k = rw (le-leb (length x) text_limit h, lt-leb (length x) (length t) k)

    pub put_out-done : length x ≤ length t → put_out x t ≡ outcome Number.done (length x) (laid t 0 x)
    unfolding put_out
    put_out-done k = rw (le-leb (length x) text_limit h, le-leb (length x) (length t) k, laid-front t x)

  pub write-refused : (n : ℕ) → judged x ≡ Refused n → write_sheet x t ≡ outcome n 0 t
  unfolding write_sheet outcome_for
  write-refused n h = rw h

  pub write-good : (o : Order) → judged x ≡ Good o → write_sheet x t ≡ put_out (sheet o) t
  unfolding write_sheet outcome_for
  write-good o h = rw h

-- with 0 the output starts with the sheet
pub put_out-written : (x t : List ℕ) (r : Result ℕ Refusal) {t' : List ℕ} → Answers r t' (put_out x t) → answer_number r ≡ Number.done
    → (length x ≤ text_limit) × (take (answer_count r) t' ≡ x)
put_out-written x t r {t'} a h = cases (leb (length x) text_limit)
    (λ i. let l = leb-true (length x) text_limit i in
    cases (leb (length x) (length t))
    (λ j. let b : Answers r t' (outcome Number.done (length x) (laid t 0 x)) = rw (put_out-done x t l (leb-true _ _ j)) at a in
    (l, rw (b.count, b.output, laid-front t x) (take-append_seam x (drop (length x) t))))
    (λ j. let b : Answers r t' (outcome Number.short_output (length x) t) = rw (put_out-short x t l (leb-false _ _ j)) at a in
    absurd (omega (arith, b.number, h))))
    (λ i. let b : Answers r t' (outcome Number.too_long 0 t) = rw (put_out-long x t (leb-false _ _ i)) at a in absurd (omega (arith, b.number, h)))

-- with a fault of the order nothing is written
pub settled-fault : (x t : List ℕ) (f : Fault) (r : Result ℕ Refusal) → IsErrAnd r (λ e. e ≡ Refusals.Fault f) → judged x ≡ Refused (fault_number f)
    → Settled x t r t
settled-fault x t f (Ok n) h j = absurd h
settled-fault x t f (Err e) h j =
    let a : Answers (Err (Refusals.Fault f)) t (write_sheet x t) = answers _ refl (write-refused x t _ j) in
    let s : Settled x t (Err (Refusals.Fault f)) t = record { answers = a; written = λ i. absurd (omega (arith, judged-number x _ j, i)) } in
    rw h s
