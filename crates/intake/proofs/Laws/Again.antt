-- What is not taken is not taken later either, for what is seen stays seen and room only falls; and what was taken is seen. So a run of calls
-- done twice changes nothing the second time.
use mathlib.Core.Path.{◌≡◌, refl, sym, ap, ◌∙◌}
use mathlib.Core.Bool.{true, true≢false}
use mathlib.Core.List.{List, [], ◌∷◌}
use Prim.Native.Nat.{ℕ, ◌≤◌}
use native.Mathlib.Omega.{arith}
use lib.ListN.{length}
use borrow.Table.Steps.{cases}
use Rattle.text.specs.Limits.{text_limit}
use Rattle.rules.proofs.Basics.{All, all_nil, all_cons}
use Rattle.sheet.specs.Order.{Order}
use Rattle.sheet.specs.Faults.{Good, judged}
use Rattle.sheet.specs.Sheet.{sheet}
use Rattle.intake.specs.Required.{request_key, request_of}
use Rattle.intake.specs.Seen.{seen}
use Rattle.intake.specs.Book.{Book, text, extended}
use Rattle.intake.specs.Call.{Call, call}
use Rattle.intake.specs.Log.{run}
use Rattle.intake.proofs.Laws.Seen.{request-good, gives-inside, gives-seen, seen-where}
use Rattle.intake.proofs.Laws.Ended.{added-length}
use Rattle.intake.proofs.Laws.Grown.{grown-old}
use Rattle.intake.proofs.Laws.Book.{extended-used, extended-size}
use Rattle.intake.proofs.Laws.Calls.{Took, more, call-took, call-cases, text-grown, grown-long, good-only}
use Rattle.intake.proofs.Laws.Runs.{took-short, took-alone, took-new}

-- ---- after an order that is taken

module _ (b : Book) (x : List ℕ) (o : Order) (j : judged x ≡ Good o) (t : Took b o) where
  abbrev after : Book
  after = extended b (more b o)

  after-long : length (text after) ≤ text_limit
  after-long = omega (arith, ap length (text-grown b o t), grown-long b o t)

  still_seen : (v : List ℕ) → seen (text b) v ≡ true → seen (text after) v ≡ true
  still_seen v h = seen-where (text b) v h (λ p g.
      let inside = gives-inside (text b) p request_key v (took-short b x o j t) request-good g in
      let old = grown-old (text b) (sheet o) (took-alone b x o j t) (grown-long b o t) request_key v p inside g in
      gives-seen (text after) v after-long p (rw (text-grown b o t) old))

  took-seen : seen (text after) (request_of o) ≡ true
  took-seen = let n = took-new b x o j t in gives-seen (text after) (request_of o) after-long n.place n.request

  -- what would be taken now would have been taken before: the byte 10 is written once at most
  took-before : (q : Order) → Took after q → Took b q
  took-before q u =
      let used = extended-used b (more b o) in
      let size = extended-size b (more b o) t.room in
      let first = added-length (text b) (sheet o) in
      let other = added-length (text b) (sheet q) in
      let next = added-length (text after) (sheet q) in
      record {
        keys = u.keys;
        inside = t.inside;
        fresh = cases (seen (text b) (request_of q)) (λ h. absurd (true≢false (sym (still_seen (request_of q) h) ∙ u.fresh))) (λ h. h);
        limit = omega (arith, u.limit);
        room = omega (arith, u.room);
      }

-- ---- what is not taken

abbrev Declined : Book → List ℕ → Type 0
Declined b x = (o : Order) → judged x ≡ Good o → Took b o → ⊥

declined-call : (b : Book) (x : List ℕ) → Declined b x → (call b x).after ≡ b
declined-call b x d = call-cases b x (λ n z i. ap (λ (c : Call). c.after) i) (λ o j t. absurd (d o j t))

declined-later : (b : Book) (x y : List ℕ) → Declined b x → Declined (call b y).after x
declined-later b x y d = call-cases b y
    (λ n z i. rw i d)
    (λ o j t. rw (call-took b y o j t) (λ q k u. d q k (took-before b y o j t q u)))

declined-run : (b : Book) (x : List ℕ) (ys : List (List ℕ)) → Declined b x → Declined (run b ys) x
unfolding run
declined-run b x [] d = d
declined-run b x (y ∷ ys) d = declined-run (call b y).after x ys (declined-later b x y d)

declined-after : (b : Book) (x : List ℕ) → Declined (call b x).after x
declined-after b x = call-cases b x
    (λ n z i. rw i (λ o j t. z (ap (λ (c : Call). c.number) (sym i ∙ call-took b x o j t))))
    (λ o j t. rw (call-took b x o j t) (λ q k u. true≢false (sym (took-seen b x o j t)
    ∙ ap (λ (r : Order). seen (text (extended b (more b o))) (request_of r)) (good-only x o q j k) ∙ u.fresh)))

all-declined : (b : Book) (xs : List (List ℕ)) → All (Declined (run b xs)) xs
unfolding run
all-declined b [] = all_nil
all-declined b (x ∷ xs) = all_cons (declined-run (call b x).after x xs (declined-after b x)) (all-declined (call b x).after xs)

run-declined : (b : Book) (xs : List (List ℕ)) → All (Declined b) xs → run b xs ≡ b
unfolding run
run-declined b [] d = refl
run-declined b (x ∷ xs) (all_cons h d) = rw (declined-call b x h) (run-declined b xs d)

pub run-twice : (b : Book) (xs : List (List ℕ)) → run (run b xs) xs ≡ run b xs
run-twice b xs = run-declined (run b xs) xs (all-declined b xs)
