-- What is read of a log is what it is made of, and nothing else is read; so a log is its calls in turn, or is cut short.
use mathlib.Core.Path.{◌≡◌, refl, sym, ap, ◌∙◌}
use mathlib.Core.Bool.{true, false, true≢false, false≢true}
use mathlib.Core.List.{List, [], ◌∷◌, ◌++◌}
use mathlib.Core.Option.{Option, none, some}
use Prim.Native.Nat.{ℕ, zero, suc, ◌≤◌}
use native.Mathlib.Omega.{arith}
use lib.ListN.{length, length-append}
use borrow.Table.Steps.{cases}
use Rattle.text.specs.Number
use Rattle.text.specs.Runs.{is_empty}
use Rattle.text.proofs.Laws.Runs.{is_empty-nil}
use Rattle.dates.proofs.Laws.Reads.{empty-yes, empty-no}
use Rattle.rules.specs.Items.{is_some}
use Rattle.rules.proofs.Basics.{options, some-none}
use Rattle.sheet.specs.Buffer.{sized}
use Rattle.sheet.specs.Form.{Entry}
use Rattle.sheet.proofs.Laws.Forms.{and_then-only, sized-given, sized-only}
use Rattle.intake.specs.Book.{Book, book_of}
use Rattle.intake.specs.Call.{Call, call_of, call}
use Rattle.intake.specs.Log.{log_width, orders_from, orders_in, run, played_for, played}
use Rattle.intake.specs.Form.{log_bytes, orders_of}
use Rattle.intake.specs.Promises.{Taken, Answers}
use Rattle.intake.proofs.Laws.Orders.{before, from_end, from_step, from_cut}
use Rattle.intake.proofs.Laws.Again.{run-twice}

-- ---- what a log is made of

from-given : (n : ℕ) (es : List (Entry log_width)) → length (log_bytes es) ≤ n → orders_from n (log_bytes es) ≡ some (orders_of es)
unfolding log_bytes orders_of
from-given n [] h = from_end n [] (empty-yes [] (omega arith))
from-given zero (e ∷ es) h = absurd (omega (arith, e.size, length-append e.head (e.bytes ++ log_bytes es)))
from-given (suc n) (e ∷ es) h =
    let rest = e.bytes ++ log_bytes es in
    let a = length-append e.head rest in
    let b = length-append e.bytes (log_bytes es) in
    from_step n (e.head ++ rest) (empty-no (e.head ++ rest) (omega (arith, e.size)))
    ∙ rw (sized-given log_width e (log_bytes es), from-given n es (omega (arith, e.size)))

from-only : (n : ℕ) (x : List ℕ) (os : List (List ℕ)) → orders_from n x ≡ some os → (es : List (Entry log_width)) × (log_bytes es ≡ x)
unfolding log_bytes
from-only zero x os h = cases (is_empty x) (λ e. ([], sym (is_empty-nil x e))) (λ e. absurd (some-none os (sym h ∙ from_cut x e)))
from-only (suc n) x os h = cases (is_empty x)
    (λ e. ([], sym (is_empty-nil x e)))
    (λ e. let (c, (i, j)) = and_then-only (sized log_width x) _ os (sym (from_step n x e) ∙ h) in
    let (rs, (k, l)) = and_then-only (orders_from n c.rest) _ os j in
    let (a, (a0, a1)) = sized-only log_width x c i in
    let (es, m) = from-only n c.rest rs k in
    (a ∷ es, ap (λ (y : List ℕ). a.head ++ (a.bytes ++ y)) m ∙ a0))

-- ---- a log

module _ (b : Book) where
  pub played-given : (es : List (Entry log_width)) → played b (log_bytes es) ≡ call_of Number.done (run b (orders_of es))
  unfolding played played_for orders_in
  played-given es = rw (from-given (length (log_bytes es)) es (omega arith))

  pub played-cut : (x : List ℕ) → ((es : List (Entry log_width)) → log_bytes es ≡ x → ⊥) → played b x ≡ call_of Number.cut_log b
  unfolding played played_for orders_in
  played-cut x h =
      options (orders_from (length x) x) (λ e. rw e) (λ os e. let (es, l) = from-only (length x) x os e in absurd (h es l))

  pub played-twice : (x : List ℕ) → (played (played b x).after x).after ≡ (played b x).after
  unfolding played played_for
  played-twice x = options (orders_in x) (λ e. rw e) (λ os e. rw e (run-twice b os))

-- ---- order by order

module _ (b : Book) where
  pub played-none : (x : List ℕ) → is_some (orders_in x) ≡ false → played b x ≡ call_of Number.cut_log b
  unfolding played played_for is_some
  played-none x h = options (orders_in x) (λ e. rw e) (λ os e. absurd (true≢false (rw e at h)))

  pub played-step : (y : List ℕ) (m : Option (List (List ℕ))) → is_some m ≡ true → played_for b (before y m) ≡ played_for (call b y).after m
  unfolding played_for run is_some
  played-step y none h = absurd (false≢true h)
  played-step y (some os) h = refl

  pub played-end : played_for b (some []) ≡ call_of Number.done b
  unfolding played_for run
  played-end = refl

-- what a call leaves is the book after it
pub answers-book : {r : Taken} {y : List ℕ} {c : Call} → Answers r y c → book_of y r.used ≡ c.after
answers-book a = rw (a.bytes, a.used)
