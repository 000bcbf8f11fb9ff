-- Laws of a call's answer: each refusal in its turn, and what is left.
use mathlib.Core.Path.{◌≡◌, refl, ap, ◌∙◌}
use mathlib.Core.Bool.{true, false}
use mathlib.Core.List.{List}
use Prim.Native.Nat.{ℕ, ◌+◌, ◌≤◌, ◌<◌}
use lib.ListN.{length}
use lib.Seq.{sets}
use borrow.Author.Tests.{lt-ltb, le-ltb}
use Rattle.text.specs.Number
use Rattle.text.specs.Limits.{text_limit}
use Rattle.stream.specs.declared.state.Stream.{Stream}
use Rattle.stream.specs.declared.heading.Heading.{Heading}
use Rattle.stream.specs.declared.call.Streamed.{Streamed}
use Rattle.stream.specs.Headings.{numbers}
use Rattle.stream.specs.State.{with_end}
use Rattle.stream.specs.Steps.{last_heading, fed, finished}
use Rattle.stream.specs.Call.{Call, room, written, is_open, handed_out, piece, end}
use Rattle.stream.specs.Promises.{Answers}
use Rattle.stream.proofs.Laws.Lists.{sets-written}

abbrev pub call_of : ℕ → ℕ → Stream → List ℕ → Call
call_of n k c t = record { number = n; count = k; state = c; list = t }

-- an answer of a state, a number and a count, and the list that is left
pub answers : {r : Streamed} {n k : ℕ} {c : Stream} {y : List ℕ} {a : Call} → r ≡ record { state = c; number = n; count = k } → a ≡ call_of n k c y
    → Answers r y a
answers h i = rw i (record {
  number = ap (λ (r : Streamed). r.number) h;
  count = ap (λ (r : Streamed). r.count) h;
  state = ap (λ (r : Streamed). r.state) h;
  list = refl;
})

module _ (c : Stream) (t : List ℕ) (hs : List Heading) (c' : Stream) where
  pub out-short : room t < length hs → handed_out c t hs c' ≡ call_of Number.no_room (length hs) c t
  unfolding handed_out
  out-short h = rw (lt-ltb (room t) (length hs) h)

  pub out-done : length hs ≤ room t → handed_out c t hs c' ≡ call_of Number.done (length hs) c' (written hs t)
  unfolding handed_out
  out-done h = rw (le-ltb (room t) (length hs) h)

  -- their answers
  pub answers-short : {r : Streamed} {k : ℕ} → r ≡ record { state = c; number = Number.no_room; count = k } → k ≡ length hs → room t < k
      → Answers r t (handed_out c t hs c')
  answers-short h n l = answers (rw n at h) (out-short (rw n at l))

  pub answers-done : {r : Streamed} {d : Stream} {k : ℕ} {y : List ℕ} → r ≡ record { state = d; number = Number.done; count = k } → d ≡ c'
      → k ≡ length hs → k ≤ room t → y ≡ sets t 0 (numbers hs) → Answers r y (handed_out c t hs c')
  answers-done h e n l i = rw (i ∙ sets-written hs t (rw n at l)) (answers (rw (e, n) at h) (out-done (rw n at l)))

module _ (c : Stream) (x t : List ℕ) where
  pub piece-closed : is_open c ≡ false → piece c x t ≡ call_of Number.not_open 0 c t
  unfolding piece
  piece-closed h = rw h

  module _ (h : is_open c ≡ true) where
    pub piece-long : text_limit < c.total + length x → piece c x t ≡ call_of Number.too_long 0 c t
    unfolding piece
    piece-long k = rw (h, lt-ltb text_limit (c.total + length x) k)

    pub piece-open : c.total + length x ≤ text_limit → piece c x t ≡ handed_out c t (finished c x) (fed c x)
    unfolding piece
    piece-open k = rw (h, le-ltb text_limit (c.total + length x) k)

module _ (c : Stream) (t : List ℕ) where
  pub end-closed : is_open c ≡ false → end c t ≡ call_of Number.not_open 0 c t
  unfolding end
  end-closed h = rw h

  pub end-open : is_open c ≡ true → end c t ≡ handed_out c t (last_heading c) (with_end c)
  unfolding end
  end-open h = rw h
