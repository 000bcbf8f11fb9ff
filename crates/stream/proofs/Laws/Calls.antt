-- A call that is not refused: its headings are at the list's front, and it leaves the state after its bytes, or with the end declared.
-- Assumes nothing.
use mathlib.Core.Path.{◌≡◌, refl, sym, ap, ◌∙◌}
use mathlib.Core.Bool.{Bool, true, false, not}
use mathlib.Core.List.{List}
use Prim.Native.Nat.{ℕ, ◌+◌, ◌*◌}
use native.Mathlib.Omega.{arith}
use lib.Dec.{ltb}
use lib.ListN.{length, drop}
use lib.Seq.{take_at}
use Rattle.text.specs.Number
use Rattle.text.specs.Limits.{text_limit}
use Rattle.stream.specs.declared.state.Stream.{Stream}
use Rattle.stream.specs.declared.heading.Heading.{Heading}
use Rattle.stream.specs.Headings.{heading_size, numbers}
use Rattle.stream.specs.State.{with_end}
use Rattle.stream.specs.Steps.{last_heading, fed, finished}
use Rattle.stream.specs.Call.{Call, room, written, refuse_if, is_open, handed_out, piece, end}
use Rattle.stream.specs.Promises.{taken}
use Rattle.stream.proofs.Laws.Lists.{numbers-length}

-- the answer that is given then
abbrev pub accepted : List ℕ → List Heading → Stream → Call
accepted t hs c = record { number = Number.done; count = length hs; state = c; list = written hs t }

pub accepted-taken : (t : List ℕ) (hs : List Heading) (c : Stream) → taken (accepted t hs c) ≡ numbers hs
accepted-taken t hs c = take_at (numbers hs) (drop (heading_size * length hs) t) (heading_size * length hs) (numbers-length hs)

module _ (c : Stream) (t : List ℕ) where
  refuse-not : (r : Bool) (n k : ℕ) (a : Call) → (n ≡ Number.done → ⊥) → (refuse_if r n k c t a).number ≡ Number.done → refuse_if r n k c t a ≡ a
  refuse-not true n k a z h = absurd (z h)
  refuse-not false n k a z h = refl

  handed_out-accepted : (hs : List Heading) (c' : Stream) → (handed_out c t hs c').number ≡ Number.done → handed_out c t hs c' ≡ accepted t hs c'
  unfolding handed_out
  handed_out-accepted hs c' h = refuse-not (ltb (room t) (length hs)) Number.no_room (length hs) (accepted t hs c') (λ z. omega arith) h

  pub piece-accepted : (x : List ℕ) → (piece c x t).number ≡ Number.done → piece c x t ≡ accepted t (finished c x) (fed c x)
  unfolding piece
  piece-accepted x h =
      let a = handed_out c t (finished c x) (fed c x) in
      let b = refuse_if (ltb text_limit (c.total + length x)) Number.too_long 0 c t a in
      let e = refuse-not (not (is_open c)) Number.not_open 0 b (λ z. omega arith) h in
      let i : b.number ≡ Number.done = sym (ap (λ (y : Call). y.number) e) ∙ h in
      let f = refuse-not (ltb text_limit (c.total + length x)) Number.too_long 0 a (λ z. omega arith) i in
      e ∙ f ∙ handed_out-accepted (finished c x) (fed c x) (sym (ap (λ (y : Call). y.number) f) ∙ i)

  pub end-accepted : (end c t).number ≡ Number.done → end c t ≡ accepted t (last_heading c) (with_end c)
  unfolding end
  end-accepted h =
      let a = handed_out c t (last_heading c) (with_end c) in
      let e = refuse-not (not (is_open c)) Number.not_open 0 a (λ z. omega arith) h in
      e ∙ handed_out-accepted (last_heading c) (with_end c) (sym (ap (λ (y : Call). y.number) e) ∙ h)
