-- `text::bytes::find_byte` meets its contract.
-- Assumes nothing.
use Rattle.std.proofs.Common.{◌≡◌, ℕ, true, false, eqb, ◌+◌, ◌≤◌, ◌<◌, min, List, length, get_or, sym, arith, rules}
use borrow.Author.Tests.{eqb-true, eqb-false}
use Rattle.text.specs.Bytes.{is_not}
use Rattle.text.specs.Runs.{run}
use Rattle.text.specs.Parts.{part}
use Rattle.text.proofs.Laws.Bytes.{is_not-yes, is_not-no}
use Rattle.text.proofs.Laws.Runs.{run-part-nil, run-part-stop, run-part-skip}
use Rattle.text.proofs.bytes.find_byte.Goals as goal

-- past bytes of the block at i that are not b
skipped : (s : List ℕ) (i e b r n : ℕ) → i ≤ e → e ≤ length s → ((k : ℕ) → k < 48 → k < r → false ≡ eqb (get_or s (i + k) 0) b) → n ≤ 48 → n ≤ r
    → i + length (run (is_not b) (part s i e)) ≡ min (i + n) e + length (run (is_not b) (part s (i + n) e))
skipped s i e b r n l m h g f = run-part-skip (is_not b) s n i e l m (λ k q. is_not-yes b _ (eqb-false _ _ (sym (h k (omega arith) (omega arith)))))

pub returns-then-k-lt48 : goal.returns-then-k-lt48
returns-then-k-lt48 c =
    let a = c.args in
    let s = a.text.now in
    let i = c.loop-i.i in
    let k = c.first_in-k.result in
    let h = c.first_in-k.ensures.found c.if-k-lt48.true in
    let here : true ≡ eqb (get_or s (i + k) 0) a.b = search rules in
    let past = skipped s i a.to a.b k k (omega arith) (omega arith) (λ j l m. let h = c.first_in-k.ensures.before j l m in search rules) (omega arith) (omega arith) in
    omega (arith, past, run-part-stop (is_not a.b) s (i + k) a.to (omega arith) (is_not-no a.b _ (eqb-true _ _ (sym here))))

pub loop-i-preserved : goal.loop-i-preserved
loop-i-preserved c =
    let a = c.args in
    let past = skipped a.text.now c.loop-i.i a.to a.b c.first_in-k.result 48 (omega arith) (omega arith)
    (λ j l m. let h = c.first_in-k.ensures.before j l m in search rules) (omega arith) (omega arith) in
    (omega arith, omega (arith, past))

pub returns : goal.returns
returns c = omega (arith, run-part-nil c.args.text.now c.loop-i.i c.args.to (is_not c.args.b) c.loop-i-test.false)
