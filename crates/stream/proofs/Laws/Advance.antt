-- Laws of going on in a piece: what is left says what all says.
use mathlib.Core.Path.{◌≡◌, sym, ap, ◌∙◌}
use mathlib.Core.Bool.{Bool, false}
use mathlib.Core.List.{List, [], ◌∷◌, ◌++◌}
use Prim.Native.Nat.{ℕ, suc, ◌+◌, ◌-◌, ◌≤◌, ◌<◌}
use native.Mathlib.Omega.{arith}
use lib.ListN.{length, get_or, take, drop, take-append-drop, length-drop}
use lib.Seq.{take-length, length-take-le, drop-cons, drop-append-le, get_or-drop}
use lib.Dec.{eqb}
use borrow.Table.Steps.{cases}
use borrow.Author.Tests.{eqb-true, eqb-false, not-false}
use Rattle.std.specs.Prelude.{option_to_list}
use Rattle.text.specs.Bytes.{is_not}
use Rattle.text.specs.Parts.{part}
use Rattle.text.specs.Runs.{run}
use Rattle.text.proofs.Basics.{take-drop}
use Rattle.text.proofs.Laws.Parts.{part_length}
use Rattle.text.proofs.Laws.Runs.{run-cons, run_none, run_take, run-part-to}
use Rattle.rules.proofs.Laws.Blocks.{run-all}
use Rattle.stream.specs.declared.state.Stream.{Stream}
use Rattle.stream.specs.declared.heading.Heading.{Heading}
use Rattle.std.specs.declared.option.Option.{Option}
use Rattle.std.specs.declared.option.Option.TheVariants.{None}
use Rattle.stream.specs.declared.advance.Progress.{Progress}
use Rattle.stream.specs.Steps.{last_heading, next_line, stepped, finished_by, fed, finished}
use Rattle.stream.specs.Spans.{Within, MoreOfLine, Advances}
use Rattle.stream.proofs.Laws.GoesOn.{further, fed-further, finished-none}
use Rattle.stream.proofs.Laws.Steps.{heading-front, last-no, stepped-newline, stepped-star, stepped-space, stepped-none}
use Rattle.stream.proofs.Laws.Steps.{finished-newline, finished-other, fed-append, finished-append}

abbrev pub progress : Stream → ℕ → Option Heading → Progress
progress c i f = record { state = c; at = i; finished = f }

drop-next : (x : List ℕ) (i : ℕ) → i < length x → drop i x ≡ get_or x i 0 ∷ drop (i + 1) x
drop-next x i h = let next : suc i ≡ i + 1 = omega arith in drop-cons x i 0 h ∙ ap (λ (n : ℕ). get_or x i 0 ∷ drop n x) next

drop-split : (x : List ℕ) (i e : ℕ) → i ≤ e → e ≤ length x → drop i x ≡ part x i e ++ drop e x
unfolding part
drop-split x i e h k =
    ap (drop i) (sym (take-append-drop e x)) ∙ drop-append-le i (take e x) (drop e x) (omega (arith, h, k, length-take-le e x k))

-- a run stops at the end, or at a byte that does not pass
run-stop : (f : ℕ → Bool) (y : List ℕ) → length (run f y) < length y → f (get_or y (length (run f y)) 0) ≡ false
run-stop f [] h = absurd (omega arith)
run-stop f (b ∷ y) h = cases (f b)
    (λ t. let e = run-cons f b y t in let l : length (run f y) < length y = let m = rw e at h in omega (arith, m) in rw e (run-stop f y l))
    (λ t. rw (run_none f b y t) t)

-- ---- bytes that finish nothing

module _
    (c : Stream) (x : List ℕ) (i e : ℕ) (from : i ≤ e) (to : e ≤ length x) {d : Stream} (h : d ≡ fed c (part x i e))
    (none : finished c (part x i e) ≡ [])
  where
    pub passed-state : fed c (drop i x) ≡ fed d (drop e x)
    passed-state =
        ap (fed c) (drop-split x i e from to) ∙ fed-append c (part x i e) (drop e x) ∙ ap (λ (a : Stream). fed a (drop e x)) (sym h)

    pub passed-headings : finished c (drop i x) ≡ finished d (drop e x)
    passed-headings =
        ap (finished c) (drop-split x i e from to)
        ∙ finished-append c (part x i e) (drop e x)
        ∙ ap (λ (hs : List Heading). hs ++ finished (fed c (part x i e)) (drop e x)) none
        ∙ ap (λ (a : Stream). finished a (drop e x)) (sym h)

    pub advance-past : i < e → Within d x e → Advances c x i (progress d e None)
    advance-past l w = record { further = l; inside = to; within = w; state = passed-state; headings = passed-headings }

    pub advance-then : {r : Progress} → Advances d x e r → Advances c x i r
    advance-then a = record {
      further = omega (arith, from, a.further);
      inside = a.inside;
      within = a.within;
      state = passed-state ∙ a.state;
      headings = passed-headings ∙ a.headings;
    }

-- ---- a byte at a line's front

module _ (c : Stream) (b : ℕ) (front : c.stars ≡ c.line) where
  nothing-finished : finished_by c b ≡ []
  nothing-finished = cases (eqb b 10)
      (λ t. finished-newline c b (eqb-true b 10 t) ∙ last-no c (heading-front c (omega (arith, front))))
      (λ t. finished-other c b (eqb-false b 10 t))

  -- a state's numbers after it
  abbrev InLine : Stream → Type 0
  InLine d = (d.stars ≤ d.line) × (d.line ≤ c.line + 1) × (d.total ≡ c.total + 1)

  front-in-line : InLine (stepped c b)
  front-in-line = cases (eqb b 10)
      (λ t. rw (stepped-newline c b (eqb-true b 10 t)) (omega arith, omega arith, omega arith))
      (λ t. let no = eqb-false b 10 t in
      cases (eqb b 42)
      (λ u. rw (stepped-star c b no front (eqb-true b 42 u)) (omega (arith, front), omega arith, omega arith))
      (λ u. cases (eqb b 32)
      (λ v. rw (stepped-space c b no front (eqb-true b 32 v)) (omega (arith, front), omega arith, omega arith))
      (λ v. rw (stepped-none c b no front (eqb-false b 42 u) (eqb-false b 32 v)) (omega arith, omega arith, omega arith))))

module _ (c : Stream) (x : List ℕ) (i : ℕ) (w : Within c x i) (k : i < length x) where
  pub advance-front : c.stars ≡ c.line → {r : Stream} → r ≡ stepped c (get_or x i 0) → Advances c x i (progress r (i + 1) None)
  unfolding fed finished
  advance-front front h =
      let b = get_or x i 0 in
      let bounds = front-in-line c b front in
      let y = drop (i + 1) x in
      rw h (record {
        further = omega arith;
        inside = omega arith;
        within = record { stars = bounds.0; line = omega (arith, bounds.1, bounds.2, w.line); total = omega (arith, bounds.2, w.total) };
        state = ap (fed c) (drop-next x i k);
        headings = ap (finished c) (drop-next x i k) ∙ ap (λ (hs : List Heading). hs ++ finished (stepped c b) y) (nothing-finished c b front);
      })

  -- ---- bytes up to the line's end

  module _ (some : 0 < c.stars) (past : c.stars < c.line) (e : ℕ) (at : e ≡ i + length (run (is_not 10) (part x i (length x)))) where
    abbrev rest : List ℕ
    rest = run (is_not 10) (drop i x)

    whole : part x i (length x) ≡ drop i x
    unfolding part
    whole = ap (drop i) (take-length x)

    end : e ≡ i + length rest
    end = at ∙ ap (λ (y : List ℕ). i + length (run (is_not 10) y)) whole

    line-part : part x i e ≡ rest
    unfolding part
    line-part = rw end (sym (take-drop (length rest) i x) ∙ sym (run_take (is_not 10) (drop i x)))

    to : e ≤ length x
    to = run-part-to x i (length x) (is_not 10) (omega arith) (omega arith) e at

    pub more-of-line : MoreOfLine c x i e
    more-of-line = record {
      from = omega (arith, end);
      to = to;
      bytes = rw line-part (run-all (is_not 10) (drop i x));
      some = some;
      past = past;
      line = w.line;
      total = omega (arith, w.total, to);
    }

    module _ {r : Stream} (h : r ≡ fed c (part x i e)) where
      -- its numbers
      bytes : length (part x i e) ≡ e - i
      bytes = part_length x i e to

      is : r ≡ further c (length (part x i e)) (fed c (part x i e)).title
      is = h ∙ fed-further c (part x i e) more-of-line.bytes past

      pub line-total : r.total ≡ c.total + (e - i)
      line-total = ap (λ (d : Stream). d.total) is ∙ ap (λ (n : ℕ). c.total + n) bytes

      length-line : r.line ≡ c.line + (e - i)
      length-line = ap (λ (d : Stream). d.line) is ∙ ap (λ (n : ℕ). c.line + n) bytes

      pub line-inside : r.line ≤ r.total
      line-inside = omega (arith, line-total, length-line, w.line)

      within-line : Within r x e
      within-line = record {
        stars = omega (arith, ap (λ (d : Stream). d.stars) is, length-line, past);
        line = line-inside;
        total = omega (arith, line-total, w.total, to, more-of-line.from);
      }

      none : finished c (part x i e) ≡ []
      none = finished-none c (part x i e) more-of-line.bytes

      -- the piece ends in the line
      pub advance-piece : length x ≤ e → Advances c x i (progress r e None)
      advance-piece l = advance-past c x i e more-of-line.from to h none (omega (arith, l)) within-line

      -- byte 10 ends it
      module _ (l : e < length x) where
        newline : get_or x e 0 ≡ 10
        unfolding is_not
        newline =
            let y = drop i x in
            let n = length rest in
            let short : n < length y = omega (arith, l, end, length-drop i x) in
            let stop : is_not 10 (get_or x e 0) ≡ false = rw end (rw (get_or-drop i x n 0) at (run-stop (is_not 10) y short)) in
            eqb-true (get_or x e 0) 10 (not-false (eqb (get_or x e 0) 10) stop)

        pub advance-line : {r' : Stream} {f : Option Heading} → r' ≡ next_line r → option_to_list f ≡ last_heading r → Advances c x i (progress r' (e + 1) f)
        unfolding fed finished
        advance-line u v =
            let b = get_or x e 0 in
            let y = drop (e + 1) x in
            let next : stepped r b ≡ next_line r = stepped-newline r b newline in
            rw u (record {
              further = omega (arith, end);
              inside = omega arith;
              within = record { stars = omega arith; line = omega arith; total = omega (arith, within-line.total, l) };
              state = passed-state c x i e more-of-line.from to h none ∙ ap (fed r) (drop-next x e l) ∙ ap (λ (d : Stream). fed d y) next;
              headings =
                  passed-headings c x i e more-of-line.from to h none
                  ∙ ap (finished r) (drop-next x e l)
                  ∙ ap (λ (hs : List Heading). hs ++ finished (stepped r b) y) (finished-newline r b newline)
                  ∙ ap (λ (d : Stream). last_heading r ++ finished d y) next
                  ∙ ap (λ (hs : List Heading). hs ++ finished (next_line r) y) (sym v);
            })
