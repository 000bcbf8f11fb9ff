-- A call leaves the book as it was, with a number that is not 0, or takes a good order that no test refuses: its sheet is written after the text.
use mathlib.Core.Path.{◌≡◌, refl, ap, ◌∙◌}
use mathlib.Core.Bool.{false, true≢false}
use mathlib.Core.List.{List, [], ◌++◌}
use mathlib.Core.Option.{Option, none, some, get_or}
use Prim.Native.Nat.{ℕ, ◌+◌, ◌≤◌}
use native.Mathlib.Omega.{arith}
use lib.Dec.{ltb}
use lib.ListN.{length, length-append}
use borrow.Author.Tests.{ltb-true, ltb-false}
use borrow.Table.Steps.{cases}
use Rattle.text.specs.Number
use Rattle.text.specs.Limits.{text_limit}
use Rattle.text.specs.Runs.{is_empty}
use Rattle.rules.proofs.Basics.{or_no}
use Rattle.sheet.specs.Order.{Order, value_for}
use Rattle.sheet.specs.Faults.{Judged, Refused, Good, judged}
use Rattle.sheet.specs.Sheet.{sheet}
use Rattle.sheet.proofs.Laws.Judged.{judged-number}
use Rattle.intake.specs.Required.{request_key, vin_key, value_of, request_of, vin_of, lacks_key}
use Rattle.intake.specs.Seen.{seen}
use Rattle.intake.specs.Book.{Book, text, is_overused, added, extended}
use Rattle.intake.specs.Call.{call_of, taken, call}
use Rattle.intake.proofs.Laws.Ended.{ended, ended-added}
use Rattle.intake.proofs.Laws.Book.{text-length, text-extended}
use Rattle.intake.proofs.Laws.Turns.{appended-long, appended-short, appended-done, taken-lacking, taken-overused, taken-seen, taken-fresh}
use Rattle.intake.proofs.Laws.Turns.{call-good, call-refused}

-- what is written for an order
abbrev pub more : Book → Order → List ℕ
more b o = added (text b) (sheet o)

-- ---- the tests

-- none refuses it
pub record Took (b : Book) (o : Order) : Type 0 where
  pub keys : lacks_key o ≡ false
  pub inside : is_overused b ≡ false
  pub fresh : seen (text b) (request_of o) ≡ false
  pub limit : b.used + length (more b o) ≤ text_limit
  pub room : b.used + length (more b o) ≤ length b.bytes

module _ (b : Book) (o : Order) where
  took-taken : Took b o → taken b o ≡ call_of Number.done (extended b (more b o))
  took-taken t = taken-fresh b o t.keys t.inside t.fresh ∙ appended-done b (more b o) t.limit t.room

  taken-cases : {A : Type 0} → ((n : ℕ) → (n ≡ Number.done → ⊥) → taken b o ≡ call_of n b → A) → (Took b o → A) → A
  taken-cases f g =
      let x = more b o in
      let e = b.used + length x in
      cases (lacks_key o) (λ i. f Number.missing_key (λ z. omega arith) (taken-lacking b o i))
      (λ i. cases (is_overused b) (λ j. f Number.bad_used (λ z. omega arith) (taken-overused b o i j))
      (λ j. cases (seen (text b) (request_of o)) (λ k. f Number.seen (λ z. omega arith) (taken-seen b o i j k))
      (λ k. let fresh = taken-fresh b o i j k in
      cases (ltb text_limit e) (λ l. f Number.too_long (λ z. omega arith) (fresh ∙ appended-long b x (ltb-true text_limit e l)))
      (λ l. let short = ltb-false text_limit e l in
      cases (ltb (length b.bytes) e) (λ m. f Number.short_output (λ z. omega arith) (fresh ∙ appended-short b x short (ltb-true (length b.bytes) e m)))
      (λ m. g (record { keys = i; inside = j; fresh = k; limit = short; room = ltb-false (length b.bytes) e m }))))))

-- ---- a call

pub good-only : (x : List ℕ) (o q : Order) → judged x ≡ Good o → judged x ≡ Good q → o ≡ q
good-only x o q h i = cc

judged-cases : {A : Type 0} (j : Judged) → ((n : ℕ) → j ≡ Refused n → A) → ((o : Order) → j ≡ Good o → A) → A
judged-cases (Refused n) f g = f n refl
judged-cases (Good o) f g = g o refl

module _ (b : Book) (x : List ℕ) where
  pub call-took : (o : Order) → judged x ≡ Good o → Took b o → call b x ≡ call_of Number.done (extended b (more b o))
  call-took o h t = call-good b x o h ∙ took-taken b o t

  pub call-cases : {A : Type 0} → ((n : ℕ) → (n ≡ Number.done → ⊥) → call b x ≡ call_of n b → A)
      → ((o : Order) → judged x ≡ Good o → Took b o → A) → A
  call-cases f g = judged-cases (judged x)
      (λ n e. f n (λ z. omega (arith, judged-number x n e)) (call-refused b x n e))
      (λ o e. taken-cases b o (λ n z i. f n z (call-good b x o e ∙ i)) (g o e))

-- ---- what is taken

module _ (b : Book) (o : Order) (t : Took b o) where
  pub text-grown : text (extended b (more b o)) ≡ ended (text b) ++ sheet o
  text-grown = text-extended b (more b o) t.room ∙ ended-added (text b) (sheet o)

  pub grown-long : length (ended (text b) ++ sheet o) ≤ text_limit
  grown-long = omega (
    arith,
    t.limit,
    t.room,
    ap length (ended-added (text b) (sheet o)),
    length-append (text b) (more b o),
    text-length b (omega (arith, t.room)),
  )

get_d_some : (m : Option (List ℕ)) → is_empty (get_or m []) ≡ false → m ≡ some (get_or m [])
unfolding is_empty
get_d_some none h = absurd (true≢false h)
get_d_some (some v) h = refl

-- the order has both keys
module _ (o : Order) (h : lacks_key o ≡ false) where
  pub has-request : value_for request_key o.pairs ≡ some (request_of o)
  unfolding lacks_key value_of
  has-request = get_d_some (value_for request_key o.pairs) (or_no (is_empty (request_of o)) (is_empty (vin_of o)) h).0

  pub has-vin : value_for vin_key o.pairs ≡ some (vin_of o)
  unfolding lacks_key value_of
  has-vin = get_d_some (value_for vin_key o.pairs) (or_no (is_empty (request_of o)) (is_empty (vin_of o)) h).1
