-- What is promised of a call, from what its answer is. From Outcomes, Splits, FinishedPart and AsRead.
use mathlib.Core.Path.{◌≡◌, sym, ap, ◌∙◌}
use mathlib.Core.List.{List, ◌++◌}
use Prim.Native.Nat.{ℕ, ◌*◌}
use lib.ListN.{take}
use Rattle.text.specs.Number
use Rattle.stream.specs.declared.state.Stream.{Stream}
use Rattle.stream.specs.declared.call.Streamed.{Streamed}
use Rattle.stream.specs.Headings.{heading_size}
use Rattle.stream.specs.State.{finished_part, state_of, with_end}
use Rattle.stream.specs.Steps.{last_heading, fed, finished}
use Rattle.stream.specs.Call.{Call, piece, end}
use Rattle.stream.specs.Promises.{taken, Answers, Adds, Promised, Settled, EndSettled}
use Rattle.stream.proofs.Laws.AsRead.{as-read}
use Rattle.stream.proofs.Laws.Splits.{state-nil, fed-state, any-split}
use Rattle.stream.proofs.Laws.FinishedPart.{part-more, part-last}
use Rattle.stream.proofs.Laws.Open.{with-end-closed}
use Rattle.stream.proofs.Laws.Calls.{accepted, accepted-taken, piece-accepted, end-accepted}
use Rattle.stream.proofs.Laws.Outcomes.{piece-outcome, end-outcome, outcome-refused, outcome-closed, outcome-again}

pub promised : Promised
promised = record { as_read = as-read; new = state-nil; any_split = any-split }

-- what a call has written, where it is not refused
written : (r : Streamed) (y : List ℕ) (a b : Call) → Answers r y a → a ≡ b → take (heading_size * r.count) y ≡ taken b
written r y a b h e = rw (h.count, h.list) (ap taken e)

module _ (c : Stream) (x t : List ℕ) (r : Streamed) (y : List ℕ) (a : Answers r y (piece c x t)) where
  goes-on : (s : List ℕ) → state_of s ≡ c → r.number ≡ Number.done → (r.state ≡ state_of (s ++ x)) × Adds s (finished_part (s ++ x)) r y
  goes-on s i n =
      let e = piece-accepted c t x (sym a.number ∙ n) in
      let state = a.state ∙ ap (λ (b : Call). b.state) e ∙ ap (λ (d : Stream). fed d x) (sym i) ∙ fed-state s x in
      let list = written r y (piece c x t) (accepted t (finished c x) (fed c x)) a e ∙ accepted-taken t (finished c x) (fed c x) in
      (state, part-more s x ∙ rw (i, list))

  pub settled : Settled c x t r y
  settled =
      let o = piece-outcome c x in
      record {
        answers = a;
        refused = outcome-refused c (piece c x) t r y a o;
        not_open = outcome-closed c (piece c x) t r y a o;
        goes_on = goes-on;
        again = outcome-again c (piece c x) t r y a o;
        promised = promised;
      }

module _ (c : Stream) (t : List ℕ) (r : Streamed) (y : List ℕ) (a : Answers r y (end c t)) where
  after-end : r.number ≡ Number.done → r.state ≡ with_end c
  after-end n = a.state ∙ ap (λ (b : Call). b.state) (end-accepted c t (sym a.number ∙ n))

  ends : (s : List ℕ) → state_of s ≡ c → r.number ≡ Number.done → (r.state ≡ with_end (state_of s)) × Adds s s r y
  ends s i n =
      let e = end-accepted c t (sym a.number ∙ n) in
      let list = written r y (end c t) (accepted t (last_heading c) (with_end c)) a e ∙ accepted-taken t (last_heading c) (with_end c) in
      (after-end n ∙ ap with_end (sym i), part-last s ∙ rw (i, list))

  pub end-settled : EndSettled c t r y
  end-settled =
      let o = end-outcome c in
      record {
        answers = a;
        refused = outcome-refused c (end c) t r y a o;
        not_open = outcome-closed c (end c) t r y a o;
        ends = ends;
        closed = λ n i. with-end-closed c (rw (after-end n) at i);
        again = outcome-again c (end c) t r y a o;
        promised = promised;
      }
