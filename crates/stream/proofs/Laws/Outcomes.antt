-- The ways in which a call ends, and what is promised in each.
use mathlib.Core.Path.{◌≡◌, sym, ap, ◌∙◌}
use mathlib.Core.Logic.{◌↔◌}
use mathlib.Core.Bool.{true, false, true≢false}
use mathlib.Core.List.{List}
use Prim.Native.Nat.{ℕ, ◌+◌, ◌≤◌}
use native.Mathlib.Omega.{arith}
use lib.Dec.{ltb}
use lib.ListN.{length}
use borrow.Table.Steps.{cases}
use borrow.Author.Tests.{ltb-true, ltb-false}
use Rattle.text.specs.Number
use Rattle.text.specs.Limits.{text_limit}
use Rattle.stream.specs.declared.state.Stream.{Stream}
use Rattle.stream.specs.declared.heading.Heading.{Heading}
use Rattle.stream.specs.declared.call.Streamed.{Streamed}
use Rattle.stream.specs.State.{with_end}
use Rattle.stream.specs.Steps.{last_heading, fed, finished}
use Rattle.stream.specs.Call.{Call, room, is_open, handed_out, piece, end}
use Rattle.stream.specs.Promises.{IsOpen, Answers, AsBefore}
use Rattle.stream.proofs.Laws.Open.{open-iff}
use Rattle.stream.proofs.Laws.Turns.{call_of, out-short, out-done, piece-closed, piece-long, piece-open, end-closed, end-open}

-- a call with state c and any list
pub data Outcome (c : Stream) (f : List ℕ → Call) : Type 0 where
  closed : is_open c ≡ false → ((t : List ℕ) → f t ≡ call_of Number.not_open 0 c t) → Outcome c f
  long : is_open c ≡ true → ((t : List ℕ) → f t ≡ call_of Number.too_long 0 c t) → Outcome c f
  given : is_open c ≡ true → (hs : List Heading) (c' : Stream) → ((t : List ℕ) → f t ≡ handed_out c t hs c') → Outcome c f

pub piece-outcome : (c : Stream) (x : List ℕ) → Outcome c (piece c x)
piece-outcome c x = cases (is_open c)
    (λ o. cases (ltb text_limit (c.total + length x))
    (λ l. long o (λ t. piece-long c x t o (ltb-true text_limit (c.total + length x) l)))
    (λ l. given o (finished c x) (fed c x) (λ t. piece-open c x t o (ltb-false text_limit (c.total + length x) l))))
    (λ o. closed o (λ t. piece-closed c x t o))

pub end-outcome : (c : Stream) → Outcome c (end c)
end-outcome c = cases (is_open c)
    (λ o. given o (last_heading c) (with_end c) (λ t. end-open c t o))
    (λ o. closed o (λ t. end-closed c t o))

-- either there is no room, or all is handed out
module _ {A : Type 0} (c : Stream) (t : List ℕ) (hs : List Heading) (c' : Stream) where
  out_cases : (handed_out c t hs c' ≡ call_of Number.no_room (length hs) c t → A) → ((handed_out c t hs c').number ≡ Number.done → A) → A
  out_cases f g = cases (ltb (room t) (length hs))
      (λ l. f (out-short c t hs c' (ltb-true (room t) (length hs) l)))
      (λ l. g (ap (λ (a : Call). a.number) (out-done c t hs c' (ltb-false (room t) (length hs) l))))

module _ (c : Stream) (f : List ℕ → Call) (t : List ℕ) (r : Streamed) (y : List ℕ) (a : Answers r y (f t)) where
  abbrev number_is : (n : ℕ) → (f t).number ≡ n → r.number ≡ n
  number_is n h = a.number ∙ h

  as_before : (n k : ℕ) → f t ≡ call_of n k c t → AsBefore c t r y
  as_before n k h =
      record { state = a.state ∙ ap (λ (b : Call). b.state) h; list = a.list ∙ ap (λ (b : Call). b.list) h }

  pub outcome-refused : Outcome c f → (r.number ≡ Number.done → ⊥) → AsBefore c t r y
  outcome-refused (closed o h) z = as_before Number.not_open 0 (h t)
  outcome-refused (long o h) z = as_before Number.too_long 0 (h t)
  outcome-refused (given o hs c' h) z = out_cases c t hs c'
      (λ e. as_before Number.no_room (length hs) (h t ∙ e))
      (λ e. absurd (z (number_is Number.done (ap (λ (b : Call). b.number) (h t) ∙ e))))

  -- open, and another number than 21
  open-other : (n : ℕ) → (n ≡ Number.not_open → ⊥) → (f t).number ≡ n → is_open c ≡ true → (r.number ≡ Number.not_open) ↔ (IsOpen c → ⊥)
  open-other n z h o = (λ e. absurd (z (sym (number_is n h) ∙ e)), λ i. absurd (i ((open-iff c).0 o)))

  pub outcome-closed : Outcome c f → (r.number ≡ Number.not_open) ↔ (IsOpen c → ⊥)
  outcome-closed (closed o h) =
      (λ e i. true≢false (sym ((open-iff c).1 i) ∙ o), λ z. number_is Number.not_open (ap (λ (b : Call). b.number) (h t)))
  outcome-closed (long o h) = open-other Number.too_long (λ z. omega (arith, z)) (ap (λ (b : Call). b.number) (h t)) o
  outcome-closed (given o hs c' h) = out_cases c t hs c'
      (λ e. open-other Number.no_room (λ z. omega (arith, z)) (ap (λ (b : Call). b.number) (h t ∙ e)) o)
      (λ e. open-other Number.done (λ z. omega (arith, z)) (ap (λ (b : Call). b.number) (h t) ∙ e) o)

  pub outcome-again : Outcome c f → r.number ≡ Number.no_room → (u : List ℕ) → r.count ≤ room u → ((f u).number ≡ Number.done) × ((f u).count ≡ r.count)
  outcome-again (closed o h) n u l = absurd (omega (arith, n, number_is Number.not_open (ap (λ (b : Call). b.number) (h t))))
  outcome-again (long o h) n u l = absurd (omega (arith, n, number_is Number.too_long (ap (λ (b : Call). b.number) (h t))))
  outcome-again (given o hs c' h) n u l = out_cases c t hs c'
      (λ e. let needed : r.count ≡ length hs = a.count ∙ ap (λ (b : Call). b.count) (h t ∙ e) in
      let done = h u ∙ out-done c u hs c' (omega (arith, needed, l)) in
      (ap (λ (b : Call). b.number) done, ap (λ (b : Call). b.count) done ∙ sym needed))
      (λ e. absurd (omega (arith, n, number_is Number.done (ap (λ (b : Call). b.number) (h t) ∙ e))))
