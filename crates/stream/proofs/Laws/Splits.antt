-- A text in pieces: the state after it, and the headings that it finishes, do not depend on how it is split. So calls in turn, none of them refused,
-- leave the state of the book with its end declared, and its headings.
-- Assumes nothing.
use mathlib.Core.Path.{◌≡◌, refl, sym, ap, ◌∙◌}
use mathlib.Core.Bool.{true}
use mathlib.Core.List.{List, [], ◌∷◌, ◌++◌, append-nil, append_assoc}
use Prim.Native.Nat.{ℕ, suc, ◌+◌}
use native.Mathlib.Omega.{arith}
use native.Mathlib.Nat.{zero-add, add-zero}
use lib.Dec.{eqb}
use lib.ListN.{length, length-append}
use lib.Seq.{append_snoc}
use borrow.Author.Tests.{eqb-true}
use borrow.Table.Steps.{cases}
use Rattle.text.specs.Number
use Rattle.text.specs.Bytes.{is_newline}
use Rattle.text.specs.Runs.{all, run}
use Rattle.text.specs.Lines.{lines, is_ended}
use Rattle.text.proofs.Basics.{and_first, and_second}
use Rattle.rules.specs.Headings.{stars, is_heading}
use Rattle.stream.specs.declared.state.Stream.{Stream}
use Rattle.stream.specs.declared.heading.Heading.{Heading}
use Rattle.stream.specs.Headings.{headings_from, headings, numbers}
use Rattle.stream.specs.State.{unfinished, stars_so_far, title_so_far, state_with, state_of, new_stream, with_end}
use Rattle.stream.specs.Steps.{last_heading, finished_by, fed, finished}
use Rattle.stream.specs.Call.{Call, piece, end}
use Rattle.stream.specs.Promises.{Piece, joined, Run, taken, run_to, AnySplit}
use Rattle.stream.proofs.Laws.Unfinished.{NoNewline, no-newline-more, lines-ended, unfinished-open, unfinished-after}
use Rattle.stream.proofs.Laws.Stepped.{stepped-more, stepped-newline}
use Rattle.stream.proofs.Laws.Finished.{headings-cons, headings-open}
use Rattle.stream.proofs.Laws.Steps.{fed-append, finished-append}
use Rattle.stream.proofs.Laws.Lists.{numbers-append}
use Rattle.stream.proofs.Laws.Calls.{accepted-taken, piece-accepted, end-accepted}

-- ---- from within a line

fed-line : (n : ℕ) (u x : List ℕ) → NoNewline u → fed (state_with n u) x ≡ state_with (n + length x) (unfinished (u ++ x))
unfolding fed is_newline all
fed-line n u [] h = rw (append-nil u, unfinished-open u h, add-zero n)
fed-line n u (b ∷ x) h =
    let i : suc n + length x ≡ n + suc (length x) = omega arith in
    cases (is_newline b)
    (λ k. rw (stepped-newline n u b k, eqb-true b 10 k, unfinished-after u x h) (fed-line (suc n) [] x refl ∙ rw i))
    (λ k. rw (stepped-more n u b k) (fed-line (suc n) (u ++ (b ∷ [])) x (no-newline-more u b h k) ∙ rw (append_snoc u b x, i)))

finished-line : (p n : ℕ) (u x : List ℕ) → n ≡ p + length u → NoNewline u
    → finished (state_with n u) x ++ last_heading (fed (state_with n u) x) ≡ headings_from p (lines (u ++ x))
unfolding fed finished finished_by is_newline all
finished-line p n u [] e h = rw (append-nil u) (sym (headings-open p n u e h))
finished-line p n u (b ∷ x) e h = cases (is_newline b)
    (λ k. rw (k, finished_by, stepped-newline n u b k, eqb-true b 10 k, lines-ended u x h)
    (append_assoc (last_heading (state_with n u)) _ _
    ∙ ap (λ (hs : List Heading). last_heading (state_with n u) ++ hs) (finished-line (suc n) (suc n) [] x (omega arith) refl)
    ∙ sym (headings-cons p n u e (lines x))))
    (λ k. rw (k, finished_by, stepped-more n u b k)
    (finished-line p (suc n) (u ++ (b ∷ [])) x (omega (arith, length-append u (b ∷ []))) (no-newline-more u b h k)
    ∙ rw (append_snoc u b x)))

-- ---- from a new state

new-state : new_stream ≡ state_with 0 []
unfolding stars_so_far title_so_far is_heading stars run all
new-state = refl

pub state-nil : state_of [] ≡ new_stream
unfolding state_of unfinished is_ended
state-nil = sym new-state

pub fed-new : (s : List ℕ) → fed new_stream s ≡ state_of s
unfolding state_of all
fed-new s = ap (λ (c : Stream). fed c s) new-state ∙ fed-line 0 [] s refl ∙ rw (zero-add (length s))

pub fed-state : (s x : List ℕ) → fed (state_of s) x ≡ state_of (s ++ x)
fed-state s x = rw (← fed-new s, ← fed-new (s ++ x)) (sym (fed-append new_stream s x))

pub all-headings : (s : List ℕ) → finished new_stream s ++ last_heading (state_of s) ≡ headings s
unfolding headings all
all-headings s =
    rw (← fed-new s)
    (ap (λ (c : Stream). finished c s ++ last_heading (fed c s)) new-state ∙ finished-line 0 0 [] s (omega arith) refl)

-- ---- calls in turn

-- the headings of bytes x and the declared end, from state c on
abbrev all_from : Stream → List ℕ → List Heading
all_from c x = finished c x ++ last_heading (fed c x)

all_from-append : (c : Stream) (x y : List ℕ) → all_from c (x ++ y) ≡ finished c x ++ all_from (fed c x) y
all_from-append c x y = rw (finished-append c x y, fed-append c x y) (append_assoc (finished c x) (finished (fed c x) y) (last_heading (fed (fed c x) y)))

-- a run leaves what its bytes do
record Leaves (c : Stream) (x : List ℕ) (r : Run) : Type 0 where
  pub list : r.list ≡ numbers (all_from c x)
  pub state : r.state ≡ with_end (fed c x)

leaves-end : (c : Stream) (t : List ℕ) → (end c t).number ≡ Number.done → Leaves c [] (run_to c [] t)
unfolding run_to fed finished
leaves-end c t h =
    let e = end-accepted c t h in
    record {
      list = append-nil (taken (end c t)) ∙ ap taken e ∙ accepted-taken t (last_heading c) (with_end c);
      state = ap (λ (a : Call). a.state) e;
    }

leaves-piece : (c : Stream) (p : Piece) (ps : List Piece) (t : List ℕ) → (piece c p.bytes p.list).number ≡ Number.done
    → Leaves (fed c p.bytes) (joined ps) (run_to (fed c p.bytes) ps t) → Leaves c (joined (p ∷ ps)) (run_to c (p ∷ ps) t)
unfolding run_to joined
leaves-piece c p ps t h w =
    let x = p.bytes in
    let e = piece-accepted c p.list x h in
    rw e (record {
      list =
          ap (λ (y : List ℕ). y ++ (run_to (fed c x) ps t).list) (accepted-taken p.list (finished c x) (fed c x))
          ∙ ap (λ (y : List ℕ). numbers (finished c x) ++ y) w.list
          ∙ sym (numbers-append (finished c x) (all_from (fed c x) (joined ps)))
          ∙ ap numbers (sym (all_from-append c x (joined ps)));
      state = w.state ∙ ap with_end (sym (fed-append c x (joined ps)));
    })

run-leaves : (c : Stream) (ps : List Piece) (t : List ℕ) → (run_to c ps t).accepted ≡ true → Leaves c (joined ps) (run_to c ps t)
unfolding run_to joined
run-leaves c [] t h = leaves-end c t (eqb-true (end c t).number Number.done (and_first _ _ h))
run-leaves c (p ∷ ps) t h =
    let a = piece c p.bytes p.list in
    let i = eqb-true a.number Number.done (and_first (eqb a.number Number.done) _ h) in
    let s : a.state ≡ fed c p.bytes = ap (λ (y : Call). y.state) (piece-accepted c p.list p.bytes i) in
    leaves-piece c p ps t i (rw s at (run-leaves a.state ps t (and_second (eqb a.number Number.done) _ h)))

pub any-split : AnySplit
unfolding AnySplit
any-split ps t h =
    let w = run-leaves new_stream ps t h in
    record {
      list = w.list ∙ ap numbers (rw (fed-new (joined ps)) (all-headings (joined ps)));
      state = w.state ∙ ap with_end (fed-new (joined ps));
    }
